-- Which list is refused, by which row and at which position, exactly. Assumes nothing.
use mathlib.Core.Path.{◌≡◌, refl, sym, ap, ◌∙◌}
use mathlib.Core.Logic.{◌↔◌}
use mathlib.Core.Bool.{Bool, true, false}
use mathlib.Core.List.{List, [], ◌∷◌}
use Prim.Native.Nat.{ℕ, zero, suc, ◌≤◌, ◌<◌}
use native.Mathlib.Omega.{arith}
use borrow.Author.Tests.{ltb-true, ltb-false, lt-ltb}
use lib.IntN.{ℤ}
use lib.ListN.{length, get_or}
use Rattle.ints.specs.Lists.{pick}
use Rattle.ints.proofs.Bools.{clash}
use Rattle.circuit.specs.Codes.{valid}
use Rattle.exact.specs.Lists.{product}
use Rattle.exact.specs.Fits.{Steps, all_fit, unfit_at, steps, FirstPast}
use Rattle.exact.specs.Answers.{Answer, given, refused}
use Rattle.exact.proofs.TooLarge.{too_large_exactly, fits_exactly}
use Rattle.exact.proofs.Answered.{is_given, number}
use Rattle.tables.specs.Checks.{coefficient_count}
use Rattle.tables.specs.Lists.{ListOutcome, first_invalid, coefficients, outcome, valid_row, fit_row, listed_rows, listed}
use Rattle.tables.specs.Exactly.{cause_at, NoCause, FirstNotValid, list_causes, RefusedWhere}
use Rattle.tables.proofs.Causes.{is_lt, is_eq, is_not, DecidesAt, at_0, InWords, done, more_at, more}
use Rattle.tables.proofs.Entry.{Entry, refused_where, not_refused, done_where}

-- the first code that is not valid
module _ (n : ℕ) where
  one_before : (g : ℕ) (l : List ℕ) (p : ℕ) → valid n g ≡ true → FirstNotValid n l p → FirstNotValid n (g ∷ l) (suc p)
  one_before g l p v w = record { inside = omega (arith, w.inside); before = at; not_valid = w.not_valid }
    where
      at : (j : ℕ) → j < suc p → valid n (get_or (g ∷ l) j 0) ≡ true
      at zero h = v
      at (suc j) h = w.before j (omega arith)

  not_valid_at : (l : List ℕ) → first_invalid n l < length l → FirstNotValid n l (first_invalid n l)
  not_valid_at [] h = absurd (omega arith)
  not_valid_at (g ∷ l) h = by (valid n g) refl h (λ q. not_valid_at l q)
    where
      by : (b : Bool) → valid n g ≡ b → pick b (suc (first_invalid n l)) 0 < suc (length l) → (first_invalid n l < length l → FirstNotValid n l (first_invalid n l))
          → FirstNotValid n (g ∷ l) (pick b (suc (first_invalid n l)) 0)
      by true v q f = one_before g l (first_invalid n l) v (f (omega arith))
      by false v q f = record { inside = omega arith; before = λ j p. absurd (omega arith); not_valid = v }

  pub is_first : (l : List ℕ) (p : ℕ) → FirstNotValid n l p → first_invalid n l ≡ p
  is_first [] p w = absurd (omega (arith, w.inside))
  is_first (g ∷ l) zero w = let v = w.not_valid in rw v
  is_first (g ∷ l) (suc p) w =
      let v = w.before 0 (omega arith) in
      rw v (ap suc (is_first l p (record { inside = omega (arith, w.inside); before = λ j h. w.before (suc j) (omega arith); not_valid = w.not_valid })))

abbrev number_of : Answer → ℕ
number_of (given k) = 0
number_of (refused r p) = r

-- row 7 and row 8 in words, at their positions; of 8 where the width is up to 5
is_valid_row : (n : ℕ) (codes : List ℕ) → DecidesAt (FirstNotValid n codes) (valid_row n codes).holds (first_invalid n codes)
is_valid_row n codes = record {
  to = λ e. not_valid_at n codes (ltb-true (first_invalid n codes) (length codes) e);
  from = λ p w. let z = is_first n codes p w in (lt-ltb (first_invalid n codes) (length codes) (omega (arith, z, w.inside)), sym z);
}

unfit_is : {i j : ℕ} → unfit_at i ≡ unfit_at j → i ≡ j
unfit_is e = ap position e
  where
    position : Steps → ℕ
    position all_fit = 0
    position (unfit_at i) = i

fit_in_words : (n : ℕ) (codes : List ℕ) → n ≤ 5 → (s : Steps) → steps n codes ≡ s → InWords (fit_row s ∷ []) (cause_at 8 (FirstPast n codes) ∷ [])
fit_in_words n codes h all_fit e =
    more_at {C = FirstPast n codes} 8 (omega arith) (record { to = λ b. clash b refl; from = λ p (w : FirstPast n codes p). clash ((fits_exactly n h codes).0 e p w.inside) w.past }) (λ b. done)
fit_in_words n codes h (unfit_at i) e =
    more_at {C = FirstPast n codes} 8 (omega arith)
    (record { to = λ b. (too_large_exactly n h codes i).0 e; from = λ p (w : FirstPast n codes p). (refl, unfit_is (sym ((too_large_exactly n h codes p).1 w) ∙ e)) }) (λ b. done)

module _ (n : ℕ) (codes : List ℕ) (numbers : List ℤ) where
  list_in_words : InWords (listed_rows n codes numbers) (list_causes n codes numbers)
  list_in_words =
      more_at 6 (omega arith) (at_0 (is_lt 5 n)) (λ h. more 9 (omega arith) (is_not (is_eq (length numbers) (coefficient_count n)))
      (more_at 7 (omega arith) (is_valid_row n codes) (λ b. fit_in_words n codes (ltb-false 5 n h) (steps n codes) refl)))

  -- what is told of an accepted list is no refusal
  apart : (r p : ℕ) (m : List ℤ) → outcome (given (product n codes).k) (coefficients n (product n codes)) ≡ outcome (refused r p) m → ⊥
  apart r p m e = clash refl (ap (λ (o : ListOutcome). is_given o.answer) e)

  entry : Entry (listed n codes numbers) (outcome (given (product n codes).k) (coefficients n (product n codes))) (λ r p m. outcome (refused r p) m) numbers
      (listed_rows n codes numbers) []
  unfolding listed
  entry = record {
    is = refl;
    same = λ r p s q m o e. (
      ap (λ (z : ListOutcome). number_of z.answer) e,
      ap (λ (z : ListOutcome). number z.answer) e,
      ap (λ (z : ListOutcome). z.numbers) e,
    );
    later = λ f r p m. (λ e. absurd (apart r p m e), λ y. absurd y.0);
  }

  pub list : RefusedWhere (listed n codes numbers) (λ r p m. outcome (refused r p) m) numbers (list_causes n codes numbers)
  list = refused_where entry list_in_words

  pub formed : (listed n codes numbers ≡ outcome (given (product n codes).k) (coefficients n (product n codes))) ↔ NoCause (list_causes n codes numbers)
  formed = done_where entry list_in_words apart

  -- an accepted list: no row holds, and its product is told
  pub accepted : (k : ℕ) (after : List ℤ) → listed n codes numbers ≡ outcome (given k) after
      → NoCause (list_causes n codes numbers) × ((product n codes).k ≡ k) × (coefficients n (product n codes) ≡ after)
  accepted k after e =
      let (x, y) = not_refused entry list_in_words (λ r p m z. clash refl (ap (λ (o : ListOutcome). is_given o.answer) (sym e ∙ z))) in
      (y, ap (λ (o : ListOutcome). number o.answer) (sym x ∙ e), ap (λ (o : ListOutcome). o.numbers) (sym x ∙ e))
