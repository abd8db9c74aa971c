-- What the code's tests, halvings and narrowings of signed numbers say of the integers.
-- Assumes nothing.
use mathlib.Core.Path.{◌≡◌, refl, sym, ◌∙◌}
use mathlib.Core.Bool.{Bool, true, false, not}
use mathlib.Core.List.{[], ◌∷◌}
use Prim.Native.Nat.{ℕ, zero, suc, ◌+◌, ◌-◌, ◌/◌, ◌%◌, ◌^◌, ◌<◌, ◌≤◌}
use native.Mathlib.Omega.{arith}
use native.Mathlib.Nat.{mod-lt}
use borrow.Author.Tests.{eq-eqb, ne_eqb, eqb-true, eqb-false, not-true, not-false, ltb-true, ltb-false, lt-leb, le-leb}
use lib.IntN.{ℤ, pos, negsuc, neg_ℤ, nat_abs, ◌+ℤ◌, ◌-ℤ◌}
use lib.Signed.{mag, lt_z, le_z, rem_z}
use lib.Dec.{eqb}
use mir.Syntax.{Width}
use mir.Val.{bits, SFits, to_z, of_z}
use mir.Facts.{to_z-of_z, sfits_widen}
use Rattle.ints.proofs.Int.{◌⊕◌, ◌⊖◌, A, B, up, dn, add_is}
use Rattle.ints.proofs.Machine.{fit, range, read_wide, abs_is, abs_neg}
use Rattle.coefficients.specs.Coefficients.{limit, near, far, eq_z, within, half, parity, same_parity}

mag_abs : (z : ℤ) → mag z ≤ nat_abs z
mag_abs (pos n) = omega arith
mag_abs (negsuc n) = omega arith

abs_mag : (z : ℤ) → nat_abs z ≤ mag z + 1
abs_mag (pos n) = omega arith
abs_mag (negsuc n) = omega arith

pub fits_near : (z : ℤ) → nat_abs z ≤ limit → SFits near z
fits_near z h = record { sfits = omega (arith, mag_abs z) }

-- ---- a coefficient in the wide type, and what is formed of two there

pub widened : {x : ℤ} → SFits near x → SFits far (to_z near (of_z near x))
widened f = rw (to_z-of_z f) (sfits_widen tt f)

pub as_wide : {x : ℤ} → SFits near x → to_z far (of_z far (to_z near (of_z near x))) ≡ x
as_wide f = read_wide near far tt f

pub sum_fits : {x y : ℤ} → SFits near x → SFits near y → SFits far (x +ℤ y)
sum_fits {x} {y} f g =
    let p = range f in
    let q = range g in
    fit far (x ∷ y ∷ []) (A ⊕ B) (omega arith) (omega arith)

pub difference_fits : {x y : ℤ} → SFits near x → SFits near y → SFits far (x -ℤ y)
difference_fits {x} {y} f g =
    let p = range f in
    let q = range g in
    fit far (x ∷ y ∷ []) (A ⊖ B) (omega arith) (omega arith)

-- ---- tests

-- the test below, and the test above
pub low : (z : ℤ) → lt_z z (neg_ℤ (pos limit)) ≡ true → within z ≡ false
low (pos n) h = cc
low (negsuc n) h = lt-leb (suc n) limit (omega (arith, ltb-true (limit - 1) n h))

pub high : (z : ℤ) → lt_z z (neg_ℤ (pos limit)) ≡ false → le_z z (pos limit) ≡ within z
high (pos n) h = refl
high (negsuc n) h = sym (le-leb (suc n) limit (omega (arith, ltb-false (limit - 1) n h)))

pub half_abs : (z : ℤ) → nat_abs (half z) ≡ nat_abs z / 2
half_abs (pos n) = refl
half_abs (negsuc n) = abs_neg (pos (suc n / 2))

pub half_fits : {w : Width} {z : ℤ} → SFits w z → SFits w (half z)
half_fits {w} {z} f = record { sfits = omega (arith, mag_abs (half z), half_abs z, abs_mag z) }

odd_neg : (r : ℕ) → r < 2 → eqb (of_z far (neg_ℤ (pos r))) 0 ≡ eqb r 0
odd_neg zero h = refl
odd_neg (suc zero) h = refl
odd_neg (suc (suc r)) h = absurd (omega arith)

rem_parity : (z : ℤ) → eqb (of_z far (rem_z z (pos 2))) 0 ≡ eqb (parity z) 0
rem_parity (pos n) = refl
rem_parity (negsuc n) = odd_neg (suc n % 2) (mod-lt (suc n) (omega arith))

-- two tests of equality that stand for each other
eqb_iff : (a b c d : ℕ) → (a ≡ b → c ≡ d) → (c ≡ d → a ≡ b) → eqb a b ≡ eqb c d
eqb_iff a b c d f g = by (eqb c d) refl
  where
    by : (t : Bool) → eqb c d ≡ t → eqb a b ≡ eqb c d
    by true e = eq-eqb a b (g (eqb-true c d e)) ∙ sym e
    by false e = ne_eqb a b (λ q. eqb-false c d e (f q)) ∙ sym e

-- the machine's remainder by 2 of a sum is 0 exactly where the parities are equal
pub rem_same : (x y : ℤ) → eqb (of_z far (rem_z (x +ℤ y) (pos 2))) 0 ≡ same_parity x y
rem_same x y =
    let z = abs_is (x +ℤ y) in
    let p = abs_is x in
    let q = abs_is y in
    let s = add_is x y in
    rem_parity (x +ℤ y) ∙ eqb_iff (parity (x +ℤ y)) 0 (parity x) (parity y) (λ e. omega arith) (λ e. omega arith)

-- what a test answered, t, says of what it stands for, s, where the code returned from `if !t`, and where it went on
module _ {t s : Bool} (e : t ≡ s) where
  pub fails : not t ≡ true → s ≡ false
  fails h = sym e ∙ not-true t h

  pub holds : not t ≡ false → s ≡ true
  holds h = sym e ∙ not-false t h

-- the same of `in_limit`, of the number itself
module _ {z : ℤ} (f : SFits far z) {t : Bool} (e : t ≡ within (to_z far (of_z far z))) where
  pub outside : not t ≡ true → within z ≡ false
  outside = fails (rw (to_z-of_z f) at e)

  pub inside : not t ≡ false → within z ≡ true
  inside = holds (rw (to_z-of_z f) at e)

-- what the last arm of a match on the numbers below k knows, in the form of `c.match.rest`
abbrev Past : ℕ → ℕ → Type 0
Past p zero = Unit {0}
Past p (suc k) = Past p k × (p ≡ k → ⊥)

pub past : (p k : ℕ) → Past p k → k ≤ p
past p zero h = omega arith
past p (suc k) h = omega (arith, past p k h.0)

pub add_small : (x y : ℤ) → nat_abs x ≤ limit → nat_abs y ≤ limit → nat_abs (x +ℤ y) ≤ (limit + limit)
add_small x y h k =
    let p = abs_is x in
    let q = abs_is y in
    sum_le (x +ℤ y) (up x + up y) (dn x + dn y) (add_is x y) (omega arith) (omega arith)
  where
    sum_le : (z : ℤ) (p n : ℕ) → up z + n ≡ p + dn z → p ≤ n + (limit + limit) → n ≤ p + (limit + limit) → nat_abs z ≤ (limit + limit)
    sum_le (pos k) p n e h g = omega arith
    sum_le (negsuc k) p n e h g = omega arith

pub sub_small : (x y : ℤ) → nat_abs x ≤ limit → nat_abs y ≤ limit → nat_abs (x -ℤ y) ≤ (limit + limit)
sub_small x y h k = add_small x (neg_ℤ y) h (omega (arith, abs_neg y))

-- the machine's test of two coefficients is that of the integers
pub same_bits : (x y : ℤ) → SFits near x → SFits near y → eqb (of_z near x) (of_z near y) ≡ eq_z x y
same_bits (pos a) (pos b) f g = refl
same_bits (pos a) (negsuc b) f g = ne_eqb a (2 ^ bits near - suc b) (λ e. omega arith)
same_bits (negsuc a) (pos b) f g = ne_eqb (2 ^ bits near - suc a) b (λ e. omega arith)
same_bits (negsuc a) (negsuc b) f g = eqb_iff (2 ^ bits near - suc a) (2 ^ bits near - suc b) a b (λ e. omega arith) (λ e. omega arith)
