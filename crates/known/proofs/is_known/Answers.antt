-- `is_known` meets its contract: no node with the fingerprint, or each mode's own test.
use mathlib.Core.Path.{sym, ap, ◌∙◌}
use Rattle.synthesis_arena.specs.Lookup.{told_found}
use Rattle.known.specs.Known.{told_mode}
use Rattle.known.proofs.Known.{known_none}
use Rattle.known.proofs.is_known.Goals as goal

pub returns-in_default : goal.returns-in_default
returns-in_default c =
    record { known = sym (known_none _ _ _ _ (told_mode c.args.mode) (sym c.first_node.ensures.first ∙ ap told_found c.in_default.is)) }
