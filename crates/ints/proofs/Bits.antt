-- A number by its bits: two with the same bits are one; the bits of and, or, and a power of two. Assumes nothing.
use mathlib.Core.Path.{◌≡◌, refl, sym, ap, ◌∙◌, subst}
use mathlib.Core.Bool.{true, false, ◌&&◌, ◌||◌}
use Prim.Native.Nat.{ℕ, zero, suc, ◌+◌, ◌-◌, ◌^◌, ◌/◌, ◌%◌, ◌≤◌, ◌<◌, min, max}
use native.Mathlib.Omega.{arith}
use native.Mathlib.Nat.{mod-lt, lt_of_lt_of_le, one-mul, div-eq_of_lt}
use native.Mathlib.Numerals.{one-add}
use native.Mathlib.Decide.{ℕ_discrete, dec_lt}
use borrow.Author.Tests.{eq-eqb, ne_eqb}
use lib.Dec.{eqb, lit<}
use lib.Bits.{bit_and, bit_or, and_shr, or_shr, and_mod, or_mod}
use lib.Pow.{pow_mono, pow-lt, pow-add, shr-shr, shl-shr}
use Rattle.ints.specs.Bits.{digit, bit}
use Rattle.ints.proofs.Bools.{clash}

pub digit_lt : (r k : ℕ) → digit r k < 2
digit_lt r k = mod-lt (r / 2 ^ k) (lit< tt)

-- what holds at 0 and at 1 holds of a digit
pub below : (P : ℕ → Type 0) → P 0 → P 1 → (x : ℕ) → x < 2 → P x
below P a b zero h = a
below P a b (suc zero) h = b
below P a b (suc (suc x)) h = absurd (omega arith)

-- ---- numbers with the same digits are equal

up : (a k : ℕ) → digit (a / 2) k ≡ digit a (suc k)
up a k = ap (λ (x : ℕ). x % 2) (shr-shr a 1 k ∙ ap (λ (m : ℕ). a / 2 ^ m) (one-add k))

pow_suc : (m : ℕ) → 2 ^ suc m ≡ 2 ^ m + 2 ^ m
pow_suc m = omega (arith, pow-add 2 1 m, ap (λ (x : ℕ). 2 ^ x) (one-add m))

ext_below : (m a b : ℕ) → a < 2 ^ m → b < 2 ^ m → ((k : ℕ) → digit a k ≡ digit b k) → a ≡ b
ext_below zero a b p q h = omega arith
ext_below (suc m) a b p q h =
    let hi : a / 2 ≡ b / 2 = ext_below m (a / 2) (b / 2) (omega (arith, pow_suc m)) (omega (arith, pow_suc m)) (λ k. up a k ∙ h (suc k) ∙ sym (up b k)) in
    omega (arith, h 0, hi)

pow_above : (a : ℕ) → a < 2 ^ a
pow_above zero = lit< tt
pow_above (suc a) = omega (arith, pow_above a, pow_suc a)

pub ext : (a b : ℕ) → ((k : ℕ) → digit a k ≡ digit b k) → a ≡ b
ext a b h = ext_below (a + b) a b (lift a b) (subst (λ (x : ℕ). b < 2 ^ x) (omega arith) (lift b a)) h
  where
    lift : (x y : ℕ) → x < 2 ^ (x + y)
    lift x y = lt_of_lt_of_le (pow_above x) (pow_mono {i = x} {j = x + y} (omega arith))

-- ---- and, or

two : (f g : ℕ → ℕ → ℕ) → f 0 0 ≡ g 0 0 → f 0 1 ≡ g 0 1 → f 1 0 ≡ g 1 0 → f 1 1 ≡ g 1 1 → (x y : ℕ) → x < 2 → y < 2 → f x y ≡ g x y
two f g a b c d x y p q = below (λ x. f x y ≡ g x y) (below (λ y. f 0 y ≡ g 0 y) a b y q) (below (λ y. f 1 y ≡ g 1 y) c d y q) x p

pub and_digit : (a b k : ℕ) → digit (bit_and a b) k ≡ min (digit a k) (digit b k)
and_digit a b k =
    ap (λ (x : ℕ). x % 2) (and_shr a b k) ∙ and_mod (a / 2 ^ k) (b / 2 ^ k) 1
    ∙ two bit_and min refl refl refl refl (digit a k) (digit b k) (digit_lt a k) (digit_lt b k)

pub or_digit : (a b k : ℕ) → digit (bit_or a b) k ≡ max (digit a k) (digit b k)
or_digit a b k =
    ap (λ (x : ℕ). x % 2) (or_shr a b k) ∙ or_mod (a / 2 ^ k) (b / 2 ^ k) 1
    ∙ two bit_or max refl refl refl refl (digit a k) (digit b k) (digit_lt a k) (digit_lt b k)

pub and_bit : (a b k : ℕ) → bit (bit_and a b) k ≡ bit a k && bit b k
unfolding bit
and_bit a b k =
    ap (λ (x : ℕ). eqb x 1) (and_digit a b k)
    ∙ below (λ x. eqb (min x (digit b k)) 1 ≡ eqb x 1 && eqb (digit b k) 1) (below (λ y. eqb (min 0 y) 1 ≡ false) refl refl (digit b k) (digit_lt b k)) (below (λ y. eqb (min 1 y) 1 ≡ eqb y 1) refl refl (digit b k) (digit_lt b k)) (digit a k) (digit_lt a k)

pub or_bit : (a b k : ℕ) → bit (bit_or a b) k ≡ bit a k || bit b k
unfolding bit
or_bit a b k =
    ap (λ (x : ℕ). eqb x 1) (or_digit a b k)
    ∙ below (λ x. eqb (max x (digit b k)) 1 ≡ eqb x 1 || eqb (digit b k) 1) (below (λ y. eqb (max 0 y) 1 ≡ eqb y 1) refl refl (digit b k) (digit_lt b k)) (below (λ y. eqb (max 1 y) 1 ≡ true) refl refl (digit b k) (digit_lt b k)) (digit a k) (digit_lt a k)

-- two numbers with the same bits are one
pub bit_digit : (a b k : ℕ) → bit a k ≡ bit b k → digit a k ≡ digit b k
unfolding bit
bit_digit a b k =
    below (λ x. eqb x 1 ≡ eqb (digit b k) 1 → x ≡ digit b k)
    (below (λ y. eqb 0 1 ≡ eqb y 1 → 0 ≡ y) (λ e. refl) (λ e. clash e refl) (digit b k) (digit_lt b k))
    (below (λ y. eqb 1 1 ≡ eqb y 1 → 1 ≡ y) (λ e. clash refl e) (λ e. refl) (digit b k) (digit_lt b k)) (digit a k) (digit_lt a k)

pub ext_bit : (a b : ℕ) → ((k : ℕ) → bit a k ≡ bit b k) → a ≡ b
ext_bit a b h = ext a b (λ k. bit_digit a b k (h k))

-- past the width of a number its bits are 0
pub high_bit : (a w k : ℕ) → a < 2 ^ w → w ≤ k → bit a k ≡ false
unfolding bit
high_bit a w k h l = ap (λ (x : ℕ). eqb (x % 2) 1) (div-eq_of_lt (lt_of_lt_of_le h (pow_mono {i = w} {j = k} l)))

pub zero_bit : (k : ℕ) → bit 0 k ≡ false
zero_bit k = high_bit 0 0 k (lit< tt) (omega arith)

-- ---- a power of two

pub digit_own : (k : ℕ) → digit (2 ^ k) k ≡ 1
digit_own k = ap (λ (x : ℕ). x % 2) (ap (λ (x : ℕ). x / 2 ^ k) (sym (one-mul (2 ^ k))) ∙ shl-shr 1 k)

digit_above : (j k : ℕ) → k < j → digit (2 ^ k) j ≡ 0
digit_above j k h = ap (λ (x : ℕ). x % 2) (div-eq_of_lt (pow-lt {i = k} {j = j} h))

digit_below : (d j : ℕ) → digit (2 ^ (suc d + j)) j ≡ 0
digit_below d j =
    ap (λ (x : ℕ). x % 2) (ap (λ (x : ℕ). x / 2 ^ j) (pow-add 2 (suc d) j) ∙ shl-shr (2 ^ suc d) j) ∙ omega (arith, pow_suc d)

pub digit_other : (j k : ℕ) → (j ≡ k → ⊥) → digit (2 ^ k) j ≡ 0
digit_other j k h = by (dec_lt k j)
  where
    by : Dec (k < j) → digit (2 ^ k) j ≡ 0
    by (yes g) = digit_above j k g
    by (no g) = let e : suc (k - suc j) + j ≡ k = omega arith in subst (λ (x : ℕ). digit (2 ^ x) j ≡ 0) e (digit_below (k - suc j) j)

-- its one bit
pub pow_bit : (q k : ℕ) → bit (2 ^ q) k ≡ eqb k q
unfolding bit
pow_bit q k = by (ℕ_discrete k q)
  where
    by : Dec (k ≡ q) → eqb (digit (2 ^ q) k) 1 ≡ eqb k q
    by (yes e) = eq-eqb (digit (2 ^ q) k) 1 (ap (λ (x : ℕ). digit (2 ^ q) x) e ∙ digit_own q) ∙ sym (eq-eqb k q e)
    by (no e) = ap (λ (x : ℕ). eqb x 1) (digit_other k q e) ∙ sym (ne_eqb k q e)
