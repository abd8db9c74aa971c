-- `is_valid` meets its contract: the code has a kind, and its operands are as this kind asks. Assumes nothing.
use mathlib.Core.Path.{◌≡◌, refl, sym, ap, ◌∙◌}
use mathlib.Core.Bool.{true}
use Rattle.kinds.specs.Kinds.{Kind, is_kind}
use Rattle.circuit.specs.Codes.{kind_of, operands_fit, valid}
use Rattle.kinds.proofs.Told.{told_is}
use Rattle.circuit.proofs.LibraryGate.is_valid.Goals as goal

pub returns-in_default : goal.returns-in_default
unfolding valid is_kind
returns-in_default c = rw (sym c.in_default.ensures) refl

pub returns : goal.returns
unfolding valid operands_fit
returns c =
    let g = c.args.self.0 in
    let k = c.in-Some.ensures in
    let s : is_kind (kind_of g) ≡ true = sym (ap is_kind k) ∙ told_is c.in-Some.kind in
    rw s (c.is_placed.ensures ∙ ap (λ (x : Kind). operands_fit c.args.width x g) k)
