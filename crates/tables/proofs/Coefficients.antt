-- The coefficients of an exact matrix in a list, four for each entry, and back. Assumes nothing.
use mathlib.Core.Path.{◌≡◌, refl, sym, ap, ◌∙◌}
use mathlib.Core.List.{List, ◌∷◌}
use Prim.Native.Nat.{ℕ, zero, suc, ◌+◌, ◌*◌, ◌^◌, ◌<◌}
use native.Mathlib.Nat.{pow-suc, mul-mul-mul_comm}
use native.Mathlib.Omega.{arith}
use lib.IntN.{ℤ, pos}
use lib.ListN.{get_or}
use Rattle.cyclotomic.specs.Zomega.{Zω}
use Rattle.cyclotomic.proofs.Each.{each}
use Rattle.exact.specs.Matrix.{Exact}
use Rattle.exact.proofs.Words.{Equal}
use Rattle.exact.specs.Phase.{flat}
use Rattle.exact.specs.Places.{entry, held}
use Rattle.exact.proofs.Phases.{flat_lt, at_flat}
use Rattle.tables.specs.Checks.{coefficient_count}
use Rattle.tables.specs.Lists.{coefficients_of, coefficients}

-- ---- sizes

-- 4^n is the number of entries
pub coefficient_count_lem : (n : ℕ) → coefficient_count n ≡ 4 * (2 ^ n * 2 ^ n)
coefficient_count_lem n = ap (λ (k : ℕ). 4 * k) (four n)
  where
    four : (n : ℕ) → 4 ^ n ≡ 2 ^ n * 2 ^ n
    four zero = refl
    four (suc n) = pow-suc 4 n ∙ ap (λ (k : ℕ). k * 4) (four n) ∙ mul-mul-mul_comm (2 ^ n) (2 ^ n) 2 2 ∙ rw (pow-suc 2 n)

-- ---- the coefficients of a matrix

-- by the entries alone
pub coefficients_same : (m : ℕ) (f g : ℕ → Zω) → ((i : ℕ) → i < m → f i ≡ g i) → coefficients_of m f ≡ coefficients_of m g
coefficients_same zero f g h = refl
coefficients_same (suc m) f g h =
    let first = h 0 (omega arith) in
    λ i. (first i).a ∷ (first i).b ∷ (first i).c ∷ (first i).d ∷ coefficients_same m (λ j. f (suc j)) (λ j. g (suc j)) (λ j q. h (suc j) (omega arith)) i

-- an entry after four other places
pub entry_later : (a b c d : ℤ) (l : List ℤ) (i : ℕ) → entry l i ≡ entry (a ∷ b ∷ c ∷ d ∷ l) (suc i)
unfolding entry
entry_later a b c d l i =
    each (at (4 * i) (4 * suc i) (omega arith)) (at (4 * i + 1) (4 * suc i + 1) (omega arith))
    (at (4 * i + 2) (4 * suc i + 2) (omega arith)) (at (4 * i + 3) (4 * suc i + 3) (omega arith))
  where
    at : (j k : ℕ) → k ≡ suc (suc (suc (suc j))) → get_or l j (pos 0) ≡ get_or (a ∷ b ∷ c ∷ d ∷ l) k (pos 0)
    at j k e = sym (ap (λ (p : ℕ). get_or (a ∷ b ∷ c ∷ d ∷ l) p (pos 0)) e)

-- and an entry of the coefficients is the matrix's entry
entry_coefficients : (m : ℕ) (e : ℕ → Zω) (i : ℕ) → i < m → entry (coefficients_of m e) i ≡ e i
unfolding entry
entry_coefficients zero e i h = absurd (omega arith)
entry_coefficients (suc m) e zero h = each refl refl refl refl
entry_coefficients (suc m) e (suc i) h =
    sym (entry_later (e 0).a (e 0).b (e 0).c (e 0).d (coefficients_of m (λ j. e (suc j))) i) ∙ entry_coefficients m (λ j. e (suc j)) i (omega arith)

pub coefficients_held : (n : ℕ) (x : Exact) → Equal n (held n x.k (coefficients n x)) x
unfolding coefficients
coefficients_held n x = record {
  exponent = refl;
  entries = λ r c p q. entry_coefficients (2 ^ n * 2 ^ n) (flat n x.e) (r * 2 ^ n + c) (flat_lt n r c p q) ∙ at_flat n x.e r c q;
}
