-- Lent places and the places of a matrix: a copy, place by place, and the coefficients of an exact matrix as the places
-- have them. Assumes nothing.
use mathlib.Core.Path.{◌≡◌, refl, sym, ap, ◌∙◌}
use mathlib.Core.List.{List, [], ◌∷◌, ◌++◌}
use Prim.Native.Nat.{ℕ, zero, suc, ◌+◌, ◌*◌, ◌^◌, ◌/◌, ◌%◌, ◌≤◌, ◌<◌}
use native.Mathlib.Numerals.{add-one}
use native.Mathlib.Omega.{arith}
use lib.IntN.{ℤ, pos}
use lib.ListN.{length, get_or, take, set}
use lib.Seq.{take-suc, take-suc-set}
use Rattle.exact.specs.Matrix.{Exact}
use Rattle.exact.specs.Lists.{product}
use Rattle.exact.specs.Answers.{given, list_answer}
use Rattle.exact.specs.Phase.{flat}
use Rattle.exact.proofs.Phases.{row_lt, col_lt}
use Rattle.exact.specs.Places.{entry}
use Rattle.places.proofs.Placed.{area_le, read_at}
use Rattle.places.specs.Held.{Holds}
use Rattle.tables.specs.Checks.{coefficient_count}
use Rattle.tables.specs.Lists.{coefficients_of, coefficients, first_invalid, outcome, listed}
use Rattle.tables.proofs.Coefficients.{coefficient_count_lem, coefficients_same, entry_later}
use Rattle.tables.proofs.Lists.{list_formed}

-- ---- a copy

-- one place more
pub copied_more : (to from : List ℤ) (i : ℕ) (x : ℤ) → i < length to → i < length from → take i to ≡ take i from → x ≡ get_or from i (pos 0)
    → take (i + 1) (set to i x) ≡ take (i + 1) from
copied_more to from i x p q h e =
    ap (λ (k : ℕ). take k (set to i x)) (add-one i) ∙ take-suc-set to i x p ∙ ap (λ (z : List ℤ). z ++ (x ∷ [])) h
    ∙ ap (λ (z : ℤ). take i from ++ (z ∷ [])) e ∙ sym (take-suc from i (pos 0) q) ∙ ap (λ (k : ℕ). take k from) (sym (add-one i))

-- ---- the coefficients of a matrix in places

-- the first places, by entries
take_coefficients : (m : ℕ) (l : List ℤ) → 4 * m ≤ length l → take (4 * m) l ≡ coefficients_of m (entry l)
unfolding entry
take_coefficients zero l h = refl
take_coefficients (suc m) [] h = absurd (omega arith)
take_coefficients (suc m) (a ∷ []) h = absurd (omega arith)
take_coefficients (suc m) (a ∷ b ∷ []) h = absurd (omega arith)
take_coefficients (suc m) (a ∷ b ∷ c ∷ []) h = absurd (omega arith)
take_coefficients (suc m) (a ∷ b ∷ c ∷ d ∷ l) h =
    let four : 4 * suc m ≡ suc (suc (suc (suc (4 * m)))) = omega arith in
    let rest = take_coefficients m l (omega arith) ∙ coefficients_same m (entry l) (λ i. entry (a ∷ b ∷ c ∷ d ∷ l) (suc i)) (λ i q. entry_later a b c d l i) in
    ap (λ (k : ℕ). take k (a ∷ b ∷ c ∷ d ∷ l)) four ∙ (λ i. a ∷ b ∷ c ∷ d ∷ rest i)

-- the places of a matrix are its coefficients
pub places_are : (n k : ℕ) (l : List ℤ) (x : Exact) → n ≤ 5 → Holds n k l x → take (coefficient_count n) l ≡ coefficients n x
unfolding coefficients
places_are n k l x h w =
    ap (λ (j : ℕ). take j l) (coefficient_count_lem n)
    ∙ take_coefficients (2 ^ n * 2 ^ n) l (omega (arith, area_le n h, w.long))
    ∙ coefficients_same (2 ^ n * 2 ^ n) (entry l) (flat n x.e)
    (λ i q. sym (read_at n l i) ∙ w.equal.entries (i / 2 ^ n) (i % 2 ^ n) (row_lt n i q) (col_lt n i))

module _ (n : ℕ) (codes : List ℕ) (numbers : List ℤ) (h : n ≤ 5) (p : length numbers ≡ coefficient_count n) (q : length codes ≤ first_invalid n codes) where
  -- the places hold the product, and the first of them, as many as were lent, are what the caller gets
  pub list_held : (k : ℕ) (l after : List ℤ) → after ≡ take (coefficient_count n) l → given k ≡ list_answer n codes
      → Holds n (product n codes).k l (product n codes) → outcome (given k) after ≡ listed n codes numbers
  list_held k l after c e w = ap (outcome (given k)) (c ∙ places_are n (product n codes).k l (product n codes) h w) ∙ list_formed n codes numbers h p q k e
