-- What a list is answered, row by row, as the definition has it. Assumes nothing.
use mathlib.Core.Path.{◌≡◌, refl, sym, ap}
use mathlib.Core.Bool.{Bool, true, false, ◌&&◌}
use mathlib.Core.List.{List, [], ◌∷◌}
use Prim.Native.Nat.{ℕ, suc, ◌≤◌, ◌<◌}
use native.Mathlib.Omega.{arith}
use borrow.Author.Tests.{eq-eqb, ne_eqb, lt-ltb, le-ltb}
use lib.IntN.{ℤ}
use lib.ListN.{length}
use Rattle.ints.specs.Lists.{pick, all}
use Rattle.ints.proofs.Bools.{clash, and_left, and_right}
use Rattle.circuit.specs.Codes.{valid}
use Rattle.exact.specs.Lists.{product}
use Rattle.exact.specs.Fits.{Steps, all_fit, unfit_at, steps}
use Rattle.exact.specs.Answers.{Answer, given, refused, by_steps, list_answer}
use Rattle.exact.proofs.Answered.{is_given, list_refused}
use Rattle.tables.specs.Checks.{first_row, coefficient_count}
use Rattle.tables.specs.Lists.{first_invalid, coefficients, outcome, listed}

-- ---- codes

-- one code before the rest
one_valid : (t rest : Bool) (m k : ℕ) → (k ≤ m → rest ≡ true) → suc k ≤ pick t (suc m) 0 → (t && rest) ≡ true
one_valid true rest m k f h = f (omega arith)
one_valid false rest m k f h = absurd (omega arith)

pub all_valid : (n : ℕ) (l : List ℕ) → length l ≤ first_invalid n l → all (valid n) l ≡ true
unfolding all
all_valid n [] h = refl
all_valid n (g ∷ l) h = one_valid (valid n g) (all (valid n) l) (first_invalid n l) (length l) (all_valid n l) h

pub valid_first : (n : ℕ) (l : List ℕ) → all (valid n) l ≡ true → length l ≤ first_invalid n l
unfolding all
valid_first n [] h = omega arith
valid_first n (g ∷ l) h =
    let rest = valid_first n l (and_right (valid n g) (all (valid n) l) h) in
    rw (and_left (valid n g) (all (valid n) l) h) (omega arith)

-- ---- the rows

module _ (n : ℕ) (codes : List ℕ) (numbers : List ℤ) where
  pub list_6 : 5 < n → outcome (refused 6 0) numbers ≡ listed n codes numbers
  unfolding listed first_row
  list_6 h = rw (lt-ltb 5 n h)

  module _ (h : n ≤ 5) where
    pub list_9 : (length numbers ≡ coefficient_count n → ⊥) → outcome (refused 9 0) numbers ≡ listed n codes numbers
    unfolding listed first_row
    list_9 p = rw (le-ltb 5 n h, ne_eqb (length numbers) (coefficient_count n) p)

    module _ (p : length numbers ≡ coefficient_count n) where
      pub list_7 : first_invalid n codes < length codes → outcome (refused 7 (first_invalid n codes)) numbers ≡ listed n codes numbers
      unfolding listed first_row
      list_7 q = rw (le-ltb 5 n h, eq-eqb (length numbers) (coefficient_count n) p, lt-ltb (first_invalid n codes) (length codes) q)

      module _ (q : length codes ≤ first_invalid n codes) where
        -- then the steps alone decide
        pub list_8 : (i : ℕ) → refused 8 i ≡ list_answer n codes → outcome (refused 8 i) numbers ≡ listed n codes numbers
        unfolding listed first_row
        list_8 i e =
            rw (le-ltb 5 n h, eq-eqb (length numbers) (coefficient_count n) p, le-ltb (first_invalid n codes) (length codes) q, list_refused n codes (sym e))

        pub list_formed : (k : ℕ) → given k ≡ list_answer n codes → outcome (given k) (coefficients n (product n codes)) ≡ listed n codes numbers
        unfolding listed list_answer first_row
        list_formed k e = by (steps n codes) refl e
          where
            by : (s : Steps) → steps n codes ≡ s → given k ≡ by_steps (product n codes).k s → outcome (given k) (coefficients n (product n codes)) ≡ listed n codes numbers
            by all_fit x y =
                rw (le-ltb 5 n h, eq-eqb (length numbers) (coefficient_count n) p, le-ltb (first_invalid n codes) (length codes) q, x)
                (ap (λ (a : Answer). outcome a (coefficients n (product n codes))) y)
            by (unfit_at i) x y = clash refl (ap is_given y)
