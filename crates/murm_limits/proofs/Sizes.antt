-- The size of the parts of an index: the places divided by Q. Assumes nothing.
use mathlib.Core.Path.{◌≡◌, refl, sym, ap, ◌∙◌}
use mathlib.Core.Bool.{Bool, true, false}
use Prim.Native.Nat.{ℕ, zero, suc, ◌+◌, ◌*◌, ◌/◌, ◌%◌, ◌^◌, ◌-◌, ◌≤◌, ◌<◌}
use native.Mathlib.Nat.{mul_comm, div-add-mod', pow-suc}
use native.Mathlib.Decide.{ℕ_discrete}
use native.Mathlib.Omega.{arith}
use borrow.Author.Tests.{leb-true, leb-false}
use lib.Arith.{digits_div, digits_mod}
use lib.Bits.{bit_and, and_mask}
use Rattle.ints.proofs.Powers.{power_of_two}
use lib.Count.{ones, ones_step}
use Rattle.std.specs.Prelude.{count_ones}
use Rattle.std.proofs.lemmas.Nat.{ones_le_self, zero_from_ones}
use lib.Dec.{leb}
use lib.Pow.{pow_pos}
use Rattle.tables.specs.Checks.{Limits, in_parts}
use Rattle.tables.specs.Exactly.{InParts}
use Rattle.tables.proofs.InWords.{in_parts_from, not_in_parts}

-- a power of two has no bit in common with the number before
power_one : (k : ℕ) → bit_and (2 ^ k) (2 ^ k - 1) ≡ 0
power_one k =
    let e : 2 ^ k ≡ 1 * 2 ^ k + 0 = omega arith in
    and_mask (2 ^ k) k ∙ ap (λ (z : ℕ). z % 2 ^ k) e ∙ digits_mod 1 (pow_pos k)

-- a power of two has one bit set
one_bit : (k : ℕ) → count_ones (2 ^ k) ≡ 1
unfolding ones
one_bit zero = refl
one_bit (suc k) =
    let half : 2 ^ suc k / 2 ≡ 2 ^ k = omega (arith, pow-suc 2 k) in
    omega (arith, ones_step (2 ^ suc k), pow-suc 2 k, ap count_ones half, one_bit k)

-- and no other number has
power_to : (d n : ℕ) → n ≤ d → count_ones n ≡ 1 → (k : ℕ) × (n ≡ 2 ^ k)
power_to zero n h e = absurd (omega (arith, ones_le_self n))
power_to (suc d) n h e = by (ℕ_discrete (n % 2) 0) (λ z. power_to d (n / 2) (omega (arith, ones_le_self n)) (omega (arith, ones_step n, z)))
  where
    by : Dec (n % 2 ≡ 0) → (n % 2 ≡ 0 → (k : ℕ) × (n / 2 ≡ 2 ^ k)) → (k : ℕ) × (n ≡ 2 ^ k)
    by (yes z) half = let (k, p) = half z in (suc k, omega (arith, z, p, pow-suc 2 k))
    by (no z) half = (0, omega (arith, z, zero_from_ones (n / 2) (omega (arith, ones_step n))))

-- q parts are no more than the places
pub within : (q places : ℕ) → q * (places / q) ≤ places
within q places = omega (arith, div-add-mod' places q, mul_comm q (places / q))

-- a size is no more than q of them
one_of : (q size : ℕ) → 0 < q → size ≤ q * size
one_of zero size h = elim h [ ]
one_of (suc q) size h = omega arith

module _ (l : Limits) (places : ℕ) (some : 0 < l.qubits) where
  -- the size of such parts
  only : (p : InParts l places) → places / l.qubits ≡ 2 ^ p.power
  only p =
      let e : places ≡ 2 ^ p.power * l.qubits + 0 = omega (arith, p.in_all, mul_comm l.qubits (2 ^ p.power)) in
      ap (λ (z : ℕ). z / l.qubits) e ∙ digits_div (2 ^ p.power) some

  -- some places are left over
  pub left_over : (l.qubits * (places / l.qubits) ≡ places → ⊥) → false ≡ in_parts l places
  left_over h = sym (not_in_parts l places (λ p. h (ap (λ (z : ℕ). l.qubits * z) (only p) ∙ sym p.in_all)))

  pub no_places : places / l.qubits ≡ 0 → false ≡ in_parts l places
  no_places h = sym (not_in_parts l places (λ p. omega (arith, h, only p, pow_pos p.power)))

  pub no_power : (bit_and (places / l.qubits) (places / l.qubits - 1) ≡ 0 → ⊥) → false ≡ in_parts l places
  no_power h = sym (not_in_parts l places (λ p. h (ap (λ (z : ℕ). bit_and z (z - 1)) (only p) ∙ power_one p.power)))

  pub not_one_bit : (count_ones (places / l.qubits) ≡ 1 → ⊥) → false ≡ in_parts l places
  not_one_bit h = sym (not_in_parts l places (λ p. h (ap count_ones (only p) ∙ one_bit p.power)))

  -- a power of two decides by how large it is
  pub parts_of_one_bit : {size : ℕ} → size ≡ places / l.qubits → l.qubits * size ≡ places → count_ones size ≡ 1 → leb (2 * l.entries) size ≡ in_parts l places
  parts_of_one_bit {size} s e o = by (leb (2 * l.entries) size) refl
    where
      by : (b : Bool) → leb (2 * l.entries) size ≡ b → b ≡ in_parts l places
      by true t =
          let (k, z) = power_to size size (omega arith) o in
          sym (in_parts_from l places (record {
            some = omega (arith, one_of l.qubits size some, z, pow_pos k, e);
            power = k;
            in_all = sym e ∙ ap (λ (w : ℕ). l.qubits * w) z;
            large = omega (arith, leb-true (2 * l.entries) size t, z);
          }))
      by false t = sym (not_in_parts l places (λ p. omega (arith, leb-false (2 * l.entries) size t, p.large, s, only p)))

  -- the same by the number before, of a size above 0
  pub parts : {size : ℕ} → size ≡ places / l.qubits → l.qubits * size ≡ places → 0 < size → bit_and size (size - 1) ≡ 0 → leb (2 * l.entries) size ≡ in_parts l places
  parts {size} s e h o = by (leb (2 * l.entries) size) refl
    where
      by : (b : Bool) → leb (2 * l.entries) size ≡ b → b ≡ in_parts l places
      by true t =
          let (k, z) = power_of_two size h o in
          sym (in_parts_from l places (record {
            some = omega (arith, one_of l.qubits size some, h, e);
            power = k;
            in_all = sym e ∙ ap (λ (w : ℕ). l.qubits * w) z;
            large = omega (arith, leb-true (2 * l.entries) size t, z);
          }))
      by false t = sym (not_in_parts l places (λ p. omega (arith, leb-false (2 * l.entries) size t, p.large, s, only p)))
