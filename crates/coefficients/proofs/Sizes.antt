-- The sizes of two coefficients add up past the limit exactly where their sum or their difference does. Assumes
-- nothing.
use mathlib.Core.Path.{◌≡◌, refl, ap}
use mathlib.Core.Bool.{true, false}
use mathlib.Core.Logic.{◌↔◌}
use Prim.Native.Nat.{ℕ, suc, ◌+◌, ◌^◌, ◌≤◌}
use native.Mathlib.Omega.{arith}
use borrow.Author.Tests.{ltb-true}
use lib.IntN.{ℤ, pos, negsuc, nat_abs, neg_ℤ, ◌+ℤ◌, ◌-ℤ◌}
use lib.Signed.{lt_z}
use mir.Syntax.{Width}
use mir.Val.{SFits, hbits}
use Rattle.ints.proofs.Bools.{clash}
use Rattle.ints.proofs.Int.{up, dn, Is, add_is, neg_is}
use Rattle.ints.proofs.Machine.{range, abs_is, abs_neg}
use Rattle.coefficients.specs.Coefficients.{limit}

-- ---- the size of one number

pub size_below : (z : ℤ) → lt_z z (pos 0) ≡ true → pos 0 -ℤ z ≡ pos (nat_abs z)
size_below (pos n) h = absurd (omega (arith, ltb-true n 0 h))
size_below (negsuc n) h = let e : 0 + suc n ≡ suc n = omega arith in ap pos e

pub size_above : (z : ℤ) → lt_z z (pos 0) ≡ false → z ≡ pos (nat_abs z)
size_above (pos n) h = refl
size_above (negsuc n) h = clash refl h

pub size_range : {w : Width} {z : ℤ} → SFits w z → nat_abs z ≤ 2 ^ hbits w
size_range {w} {z} f = by z (range f).below (range f).above
  where
    by : (z : ℤ) → suc (up z) ≤ 2 ^ hbits w → dn z ≤ 2 ^ hbits w → nat_abs z ≤ 2 ^ hbits w
    by (pos n) h k = omega arith
    by (negsuc n) h k = k

-- ---- sizes, sums and differences

at_most : (z : ℤ) (u d m : ℕ) → Is z u d → u ≤ m → d ≤ m → nat_abs z ≤ m
at_most (pos a) u d m i h k = omega arith
at_most (negsuc a) u d m i h k = omega arith

pub abs_sum : (x y : ℤ) → nat_abs (x +ℤ y) ≤ nat_abs x + nat_abs y
abs_sum x y =
    let p = abs_is x in
    let q = abs_is y in
    at_most (x +ℤ y) (up x + up y) (dn x + dn y) (nat_abs x + nat_abs y) (add_is x y) (omega arith) (omega arith)

pub abs_difference : (x y : ℤ) → nat_abs (x -ℤ y) ≤ nat_abs x + nat_abs y
abs_difference x y = omega (arith, abs_sum x (neg_ℤ y), abs_neg y)

pub sizes_of : (m : ℕ) (x y : ℤ) → nat_abs (x +ℤ y) ≤ m → nat_abs (x -ℤ y) ≤ m → nat_abs x + nat_abs y ≤ m
sizes_of m x y h k = by x y (x +ℤ y) (x -ℤ y) (neg_ℤ y) (abs_is (x +ℤ y)) (abs_is (x -ℤ y)) (add_is x y) (add_is x (neg_ℤ y)) (neg_is y) h k
  where
    by : (x y p q n : ℤ) → nat_abs p ≡ up p + dn p → nat_abs q ≡ up q + dn q → Is p (up x + up y) (dn x + dn y) → Is q (up x + up n) (dn x + dn n)
        → Is n (dn y) (up y) → nat_abs p ≤ m → nat_abs q ≤ m → nat_abs x + nat_abs y ≤ m
    by (pos a) (pos b) p q n ep eq ip iq im h k = omega arith
    by (pos a) (negsuc b) p q n ep eq ip iq im h k = omega arith
    by (negsuc a) (pos b) p q n ep eq ip iq im h k = omega arith
    by (negsuc a) (negsuc b) p q n ep eq ip iq im h k = omega arith

-- sizes that add up within the limit are a sum and a difference within the limit, and conversely
pub sums_fit_exactly : (x y : ℤ) → (nat_abs x + nat_abs y ≤ limit) ↔ ((nat_abs (x +ℤ y) ≤ limit) × (nat_abs (x -ℤ y) ≤ limit))
sums_fit_exactly x y =
    (λ h. (omega (arith, abs_sum x y), omega (arith, abs_difference x y)), λ h. sizes_of limit x y h.0 h.1)
