-- `first_place` meets its contract: by a power of two the remainder is the low bits, and a remainder by the size is
-- below it. Assumes nothing.
use mathlib.Core.Path.{◌∙◌}
use Rattle.ints.proofs.Powers.{mask_mod}
use Rattle.walk.proofs.Rounds.{place_first}
use Rattle.index.proofs.first_place.Goals as goal

pub returns-then-size-last-eq0 : goal.returns-then-size-last-eq0
returns-then-size-last-eq0 c = record { first = mask_mod c.args.fingerprint c.args.size c.requires.some c.if-size-last-eq0.true ∙ place_first _ _ c.requires.some }

pub returns : goal.returns
returns c = record { first = place_first _ _ c.requires.some }
