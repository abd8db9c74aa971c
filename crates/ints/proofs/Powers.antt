-- A number above 0 that has no bit in common with the number before it is a power of two; the remainder by a power of
-- two is the low bits. Assumes nothing.
use mathlib.Core.Path.{◌≡◌, sym, ap, ◌∙◌}
use Prim.Native.Nat.{ℕ, zero, suc, ◌-◌, ◌/◌, ◌%◌, ◌^◌, ◌≤◌, ◌<◌}
use native.Mathlib.Nat.{le_refl, pow-suc}
use native.Mathlib.Decide.{ℕ_discrete}
use native.Mathlib.Omega.{arith}
use lib.Bits.{bit_and, and_step, and_self, and_mask}

-- no bit in common with the number before
abbrev One : ℕ → Type 0
One n = bit_and n (n - 1) ≡ 0

halves : (n : ℕ) → One n → bit_and (n / 2) ((n - 1) / 2) ≡ 0
halves n e = omega (arith, and_step n (n - 1))

-- an odd one is 1
odd : (n : ℕ) → (n % 2 ≡ 0 → ⊥) → One n → n ≡ 1
odd n z e =
    let q : (n - 1) / 2 ≡ n / 2 = omega arith in
    let s : n / 2 ≡ 0 = sym (ap (bit_and (n / 2)) q ∙ and_self (n / 2)) ∙ halves n e in
    omega (arith, s)

-- half of an even one is one
even : (n : ℕ) → n % 2 ≡ 0 → One n → One (n / 2)
even n z e =
    let q : (n - 1) / 2 ≡ n / 2 - 1 = omega arith in
    sym (ap (bit_and (n / 2)) q) ∙ halves n e

-- by how many halvings are enough
power_to : (m n : ℕ) → n ≤ m → 0 < n → One n → (k : ℕ) × (n ≡ 2 ^ k)
power_to zero n l h e = absurd (omega arith)
power_to (suc m) n l h e = by (ℕ_discrete (n % 2) 0) (λ z. power_to m (n / 2) (omega arith) (omega arith) (even n z e))
  where
    by : Dec (n % 2 ≡ 0) → (n % 2 ≡ 0 → (k : ℕ) × (n / 2 ≡ 2 ^ k)) → (k : ℕ) × (n ≡ 2 ^ k)
    by (yes z) half = (suc (half z).0, omega (arith, (half z).1, pow-suc 2 (half z).0))
    by (no z) half = (0, odd n z e)

pub power_of_two : (n : ℕ) → 0 < n → bit_and n (n - 1) ≡ 0 → (k : ℕ) × (n ≡ 2 ^ k)
power_of_two n = power_to n n (le_refl n)

-- the bits of f below a power of two are the remainder by it
pub mask_mod : (f n : ℕ) → 0 < n → bit_and n (n - 1) ≡ 0 → bit_and f (n - 1) ≡ f % n
mask_mod f n h e =
    let p : (k : ℕ) × (n ≡ 2 ^ k) = power_of_two n h e in
    ap (λ (x : ℕ). bit_and f (x - 1)) p.1 ∙ and_mask f p.0 ∙ sym (ap (λ (x : ℕ). f % x) p.1)
