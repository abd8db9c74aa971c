-- `first_invalid` meets its contract: `position` finds the first code that is not valid.
use Rattle.std.proofs.Common.{rules, tests}
use Rattle.std.proofs.lemmas.Iterator.{YieldsList-from_slice}
use Rattle.std.proofs.lemmas.Iterator.Search.{position_from_yields_List}
use Rattle.murm_lists.proofs.Codes.{first_found}
use Rattle.murm_lists.proofs.first_invalid.Goals as goal

pub returns : goal.returns
returns c = first_found c.args.width c.args.codes.now (position_from_yields_List _ _ _ _ c.position.ensures.ran (YieldsList-from_slice c.args.codes.now cc) (λ x b q k. search (rules, tests)))
