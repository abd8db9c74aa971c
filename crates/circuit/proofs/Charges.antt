-- The T charge of a list, gate by gate. Assumes nothing.
use mathlib.Core.Path.{◌≡◌, refl}
use mathlib.Core.List.{List, [], ◌∷◌}
use Prim.Native.Nat.{ℕ, ◌*◌, ◌≤◌}
use native.Mathlib.Omega.{arith}
use borrow.Author.Tests.{leb-true}
use lib.Dec.{leb}
use lib.ListN.{length}
use Rattle.std.specs.List.{sum_by}
use Rattle.std.proofs.lemmas.List.Sums.{sum_by-cons}
use Rattle.ints.specs.Lists.{all, range}
use Rattle.kinds.specs.Kinds.{Kind, kind_at}
use Rattle.circuit.specs.Codes.{kind_of}
use Rattle.kinds.specs.Kinds.{kind_charge}
use Rattle.circuit.specs.Charge.{charge}
use Rattle.kinds.proofs.ByNumber.{every_kind_lem}

kind_most : (k : Kind) → kind_charge k ≤ 7
unfolding all range kind_at kind_charge
kind_most k = leb-true (kind_charge k) 7 (every_kind_lem (λ k. leb (kind_charge k) 7) refl k)

-- no more than seven for each gate
pub charge_most : (gs : List ℕ) → charge gs ≤ 7 * length gs
unfolding charge
charge_most [] = omega arith
charge_most (g ∷ gs) = omega (arith, kind_most (kind_of g), charge_most gs)

-- the charge is the sum of the gates' charges
pub charge_sum : (gs : List ℕ) → sum_by (λ g. kind_charge (kind_of g)) gs ≡ charge gs
unfolding charge
charge_sum [] = refl
charge_sum (g ∷ gs) = omega (arith, sum_by-cons (λ (g : ℕ). kind_charge (kind_of g)) g gs, charge_sum gs)
