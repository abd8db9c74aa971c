-- A product by halves of 32 bits, and a rotation as a sum of two parts.
-- Assumes nothing.
use Rattle.std.proofs.Common.{◌≡◌, ℕ, ◌+◌, ◌-◌, ◌*◌, ◌/◌, ◌%◌, ◌^◌, ◌<◌, sym, ap, ◌∙◌, subst, lt_of_le_of_lt, add-zero, le_of_lt, mod-eq_of_lt, mul_comm, div-lt_iff_lt-mul, mul-le-mul_left, mul-lt-mul_of_pos_right, mul-one, mul-div_cancel, arith, pow_pos, pow-add}
use native.Mathlib.Nat.{mul-mod_left, div-eq_of_lt}
use lib.Bits.{bit_or, or_shifted}
use lib.Arith.{mod-mul}
use Rattle.words.specs.Words.{word_product, rotated}

pub product_fits : (a b : ℕ) → a < 2 ^ 32 → b < 2 ^ 32 → a * b < 2 ^ 64
product_fits a b ha hb = lt_of_le_of_lt (mul-le-mul_left a (le_of_lt hb)) (mul-lt-mul_of_pos_right ha (pow_pos 32))

-- a's halves are h and l, b's are k and m
halves : (h l k m x y : ℕ) → x ≡ (l * k + h * m) % 2 ^ 64 → y ≡ (l * m + (x * 4294967296) % 2 ^ 64) % 2 ^ 64 → y ≡ word_product (h * 4294967296 + l) (k * 4294967296 + m)
unfolding word_product
halves h l k m x y e f = omega arith

pub whole : (a b x y : ℕ) → x ≡ ((a % 4294967296) * (b / 4294967296) + (a / 4294967296) * (b % 4294967296)) % 2 ^ 64 → y ≡ ((a % 4294967296) * (b % 4294967296) + (x * 4294967296) % 2 ^ 64) % 2 ^ 64 → y ≡ word_product a b
whole a b x y e f =
    let p : a / 4294967296 * 4294967296 + a % 4294967296 ≡ a = omega arith in
    let q : b / 4294967296 * 4294967296 + b % 4294967296 ≡ b = omega arith in
    halves (a / 4294967296) (a % 4294967296) (b / 4294967296) (b % 4294967296) x y e f ∙ (λ i. word_product (p i) (q i))

-- one law for every amount: the k highest of j + k bits go to the low end
module _ (j k a : ℕ) (h : a < 2 ^ j * 2 ^ k) where
  moved : (a * 2 ^ k) % (2 ^ j * 2 ^ k) ≡ (a % 2 ^ j) * 2 ^ k
  moved =
      mod-mul (a * 2 ^ k) (pow_pos j) (pow_pos k)
      ∙ (λ i. (mul-div_cancel a (pow_pos k) i % 2 ^ j) * 2 ^ k + mul-mod_left a (2 ^ k) i)
      ∙ add-zero _

  rotate : bit_or ((a * 2 ^ k) % (2 ^ j * 2 ^ k)) (a / 2 ^ j) ≡ (a * 2 ^ k) % (2 ^ j * 2 ^ k) + a / 2 ^ j
  rotate =
      ap (λ (n : ℕ). bit_or n (a / 2 ^ j)) moved
      ∙ or_shifted (a % 2 ^ j) k (a / 2 ^ j) ((div-lt_iff_lt-mul (pow_pos j)).1 (subst (λ (n : ℕ). a < n) (mul_comm (2 ^ j) (2 ^ k)) h))
      ∙ ap (λ (n : ℕ). n + a / 2 ^ j) (sym moved)

-- the same for the 64 bits of a word, by any number of places
module _ (k a : ℕ) (g : a < 2 ^ 64) where
  pub rotate_word : bit_or ((a * 2 ^ (k % 64)) % 2 ^ 64) (a / 2 ^ (64 - k % 64)) ≡ rotated k a
  unfolding rotated
  rotate_word =
      let j = k % 64 in
      let s : (64 - j) + j ≡ 64 = omega arith in
      let e : 2 ^ (64 - j) * 2 ^ j ≡ 2 ^ 64 = sym (pow-add 2 (64 - j) j) ∙ ap (λ (n : ℕ). 2 ^ n) s in
      subst (λ (m : ℕ). bit_or ((a * 2 ^ j) % m) (a / 2 ^ (64 - j)) ≡ (a * 2 ^ j) % m + a / 2 ^ (64 - j)) e
      (rotate (64 - j) j a (subst (λ (m : ℕ). a < m) (sym e) g))

  pub rotate_none : k % 64 ≡ 0 → a ≡ rotated k a
  unfolding rotated
  rotate_none e =
      rw e (sym ((λ i. (ap (λ (n : ℕ). n % 2 ^ 64) (mul-one a) ∙ mod-eq_of_lt g) i + div-eq_of_lt g i) ∙ add-zero a))
