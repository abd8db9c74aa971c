-- A signed integer's range, in the terms of `Int`: what a cast, a sum, a difference or a negation of signed numbers
-- asks. Assumes nothing.
use mathlib.Core.Path.{◌≡◌, refl, ap, ◌∙◌}
use mathlib.Core.Bool.{true}
use mathlib.Core.List.{List}
use Prim.Native.Nat.{ℕ, zero, suc, ◌+◌, ◌^◌, ◌<◌, ◌≤◌}
use native.Mathlib.Omega.{arith}
use borrow.Author.Tests.{ltb-true}
use lib.IntN.{ℤ, pos, negsuc, nat_abs, neg_ℤ, sub_ℕ, ◌-ℤ◌}
use lib.Signed.{mag, lt_z}
use lib.Pow.{pow_pos}
use mir.Syntax.{Width}
use mir.Val.{SFits, hbits, to_z, of_z}
use mir.Facts.{to_z-of_z, sfits_widen}
use lib.Dec.{T, leb}
use Rattle.ints.proofs.Int.{Ex, up, dn, ups, dns, value, sound, sub_is, same_is}

-- z is at least −H and below H
pub record Within (H : ℕ) (z : ℤ) : Type 0 where
  pub below : up z < H
  pub above : dn z ≤ H

pub mag_within : (H : ℕ) (z : ℤ) → 0 < H → mag z < H → Within H z
mag_within H (pos n) q h = record { below = h; above = omega arith }
mag_within H (negsuc n) q h = record { below = q; above = h }

-- a range of an expression, by the difference of its naturals
differs : (H : ℕ) (z : ℤ) (p n : ℕ) → up z + n ≡ p + dn z → p < n + H → n ≤ p + H → mag z < H
differs H (pos k) p n e h g = omega arith
differs H (negsuc k) p n e h g = omega arith

pub fit : (w : Width) (ρ : List ℤ) (e : Ex) → ups ρ e < dns ρ e + 2 ^ hbits w → dns ρ e ≤ ups ρ e + 2 ^ hbits w → SFits w (value ρ e)
fit w ρ e h k = record { sfits = differs (2 ^ hbits w) (value ρ e) (ups ρ e) (dns ρ e) (sound ρ e) h k }

pub range : {w : Width} {z : ℤ} → SFits w z → Within (2 ^ hbits w) z
range {w} {z} f = mag_within (2 ^ hbits w) z (pow_pos (hbits w)) f.sfits

-- a number that was widened, as the machine reads it back
pub read_wide : (w w' : Width) {z : ℤ} → T (leb (hbits w) (hbits w')) → SFits w z → to_z w' (of_z w' (to_z w (of_z w z))) ≡ z
read_wide w w' {z} t f = ap (λ (v : ℤ). to_z w' (of_z w' v)) (to_z-of_z f) ∙ to_z-of_z (sfits_widen t f)

pub abs_is : (z : ℤ) → nat_abs z ≡ up z + dn z
abs_is (pos n) = omega arith
abs_is (negsuc n) = omega arith

-- what a callee returned is what it ensures of it: `said w8 c.f.ok c.f.ensures`
pub said : (w : Width) {r v : ℤ} → mag r < 2 ^ hbits w → r ≡ v → to_z w (of_z w r) ≡ v
said w g e = to_z-of_z (record { sfits = g }) ∙ e

pub abs_neg : (z : ℤ) → nat_abs (neg_ℤ z) ≡ nat_abs z
abs_neg (pos zero) = refl
abs_neg (pos (suc n)) = refl
abs_neg (negsuc n) = refl

-- a number below 0 is −(n + 1), and −1 less it is n
pub minus_one_less : (x : ℤ) → lt_z x (pos 0) ≡ true → negsuc 0 -ℤ x ≡ pos (mag x)
minus_one_less (pos n) h = absurd (omega (arith, ltb-true n 0 h))
minus_one_less (negsuc n) h = same_is (sub_ℕ (suc n) 1) (pos n) (omega (arith, sub_is (suc n) 1))
