-- `is_valid_for` meets its contract: what has no kind is of no kind of tables, and the operands are as the kind asks.
-- Assumes nothing.
use mathlib.Core.Path.{◌≡◌, refl, sym, ap, ◌∙◌}
use mathlib.Core.Bool.{Bool, true, false, ◌&&◌}
use Rattle.kinds.specs.Kinds.{Kind, is_kind, of_tables}
use Rattle.kinds.proofs.Told.{told_is}
use Rattle.circuit.specs.Sets.{member}
use Rattle.circuit.specs.Codes.{kind_number, kind_of, operands_fit, valid, valid_for}
use Rattle.circuit.proofs.LibraryGate.is_valid_for.Goals as goal

neither : (b : Bool) → false ≡ b && false
neither true = refl
neither false = refl

pub returns-in_default : goal.returns-in_default
unfolding valid_for of_tables
returns-in_default c = rw (sym c.in_default.ensures) (neither _)

pub returns-then-is_of_tables : goal.returns-then-is_of_tables
unfolding valid_for valid operands_fit
returns-then-is_of_tables c =
    let g = c.args.self.0 in
    let k = c.in-Some.ensures in
    let m : member c.args.basis.0 (kind_number g) ≡ true = cc in
    let t : of_tables (kind_of g) ≡ true = cc in
    let s : is_kind (kind_of g) ≡ true = sym (ap is_kind k) ∙ told_is c.in-Some.kind in
    rw (m, t, s) (c.is_placed.ensures ∙ ap (λ (x : Kind). operands_fit c.args.width x g) k)
