-- `coefficient_count` meets its contract: four for each entry, of which there are at most 1,024. Assumes nothing.
use mathlib.Core.Path.{sym, ap, ◌∙◌}
use Prim.Native.Nat.{ℕ, ◌*◌, ◌≤◌}
use native.Mathlib.Omega.{arith}
use borrow.Author.Tests.{le-ltb}
use Rattle.places.proofs.Placed.{area_le}
use Rattle.tables.proofs.Coefficients.{coefficient_count_lem}
use Rattle.circuits_answers.proofs.coefficient_count.Goals as goal

pub returns-clause-count : goal.returns-clause-count
returns-clause-count c =
    rw (le-ltb 5 c.args.width (omega (arith, c.if-width-gt5.false))) (ap (λ (k : ℕ). 4 * k) c.area.ensures ∙ sym (coefficient_count_lem c.args.width))

pub returns-clause-most : goal.returns-clause-most
returns-clause-most c =
    let few : c.area.result ≤ 1024 = rw c.area.ensures (area_le c.args.width (omega (arith, c.if-width-gt5.false))) in
    omega (arith, few)
