-- `is_inverse_of` meets its contract: where no kind undoes the other's, it is of no table. Assumes nothing.
use mathlib.Core.Path.{◌≡◌, sym, ap, ◌∙◌}
use mathlib.Core.Bool.{true}
use borrow.Author.Tests.{eq-eqb}
use Rattle.kinds.specs.Kinds.{Other, number, of_tables, is_kind, dual}
use Rattle.kinds.specs.Told.{told_found, told_kind}
use Rattle.kinds.proofs.Told.{told_is, undone, dual_found}
use Rattle.circuit.specs.Codes.{kind_of, kind_number}
use Rattle.circuit.specs.Pairs.{inverse}
use Rattle.circuit.proofs.LibraryGate.is_inverse_of.Goals as goal

pub returns-in_default : goal.returns-in_default
unfolding inverse is_kind
returns-in_default c =
    let h = c.args.other.0 in
    let d = dual_found c.gate_kind.result c.and_then.result c.and_then.ensures ∙ ap dual c.gate_kind.ensures in
    let e : Other ≡ dual (kind_of h) = ap told_found (sym c.in_default.is) ∙ d in
    rw (undone (kind_of h), sym e)

pub returns-then-kind-number : goal.returns-then-kind-number
unfolding inverse
returns-then-kind-number c =
    let h = c.args.other.0 in
    let d = dual_found c.gate_kind.result c.and_then.result c.and_then.ensures ∙ ap dual c.gate_kind.ensures in
    let e : told_kind c.in-Some.dual ≡ dual (kind_of h) = ap told_found (sym c.in-Some.is) ∙ d in
    let t : of_tables (kind_of h) ≡ true = undone (kind_of h) ∙ ap is_kind (sym e) ∙ told_is c.in-Some.dual in
    let q = eq-eqb (kind_number c.args.self.0) (number (dual (kind_of h))) (sym c.kind.ensures ∙ c.if-kind-number.true ∙ c.number.ensures ∙ ap number e) in
    rw (t, q)
