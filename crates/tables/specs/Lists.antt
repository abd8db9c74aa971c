-- What a list becomes, for every input: its exponent, or the refusal's number and position, and what the lent places
-- then hold. The contract of `library_circuit_matrix` is this definition (SPECIFICATION, chapter 4). Assumes nothing.
use Rattle.std.specs.Prelude.{false, true, List, [], ◌∷◌, ℕ, zero, suc, ◌*◌, ◌^◌, ℤ, eqb, ltb, length}
use Rattle.ints.specs.Lists.{pick}
use Rattle.cyclotomic.specs.Zomega.{Zω}
use Rattle.circuit.specs.Codes.{valid}
use Rattle.exact.specs.Matrix.{Exact}
use Rattle.exact.specs.Lists.{product}
use Rattle.exact.specs.Fits.{Steps, all_fit, unfit_at, steps}
use Rattle.exact.specs.Answers.{Answer, given, refused}
use Rattle.exact.specs.Phase.{flat}
use Rattle.tables.specs.Checks.{Row, row, row_at, first_row, first_position, by_rows, wide_row, coefficients_row}

-- ---- codes

-- the position of the first code that is not valid at the width; the number of codes if all are
abbrev pub first_invalid : ℕ → List ℕ → ℕ
first_invalid n [] = 0
first_invalid n (g ∷ l) = pick (valid n g) (suc (first_invalid n l)) 0

-- ---- the matrix of a list

-- the coefficients of the first m entries, four for each
abbrev pub coefficients_of : ℕ → (ℕ → Zω) → List ℤ
coefficients_of zero e = []
coefficients_of (suc m) e = (e 0).a ∷ (e 0).b ∷ (e 0).c ∷ (e 0).d ∷ coefficients_of m (λ i. e (suc i))

-- all coefficients of a matrix, in the order of the places (SPECIFICATION 1.7)
unfoldable pub coefficients : ℕ → Exact → List ℤ
coefficients n x = coefficients_of (2 ^ n * 2 ^ n) (flat n x.e)

-- the answer, and what the lent places hold after it
pub record ListOutcome : Type 0 where
  pub answer : Answer
  pub numbers : List ℤ

abbrev pub outcome : Answer → List ℤ → ListOutcome
outcome a l = record { answer = a; numbers = l }

-- row 7, at the first code that is not valid, and row 8, at the first gate whose step does not fit (SPECIFICATION 4.2)
abbrev pub valid_row : ℕ → List ℕ → Row
valid_row n codes = row_at (ltb (first_invalid n codes) (length codes)) 7 (first_invalid n codes)

abbrev pub fit_row : Steps → Row
fit_row all_fit = row false 8
fit_row (unfit_at i) = row_at true 8 i

-- rows 6, 9, 7, 8 in this order (SPECIFICATION 9.2)
abbrev pub listed_rows : ℕ → List ℕ → List ℤ → List Row
listed_rows n codes numbers = wide_row n ∷ coefficients_row n numbers ∷ valid_row n codes ∷ fit_row (steps n codes) ∷ []

-- an accepted list leaves the coefficients of its product in the lent places, a refused one leaves them (SPECIFICATION
-- 4.3)
unfoldable pub listed : ℕ → List ℕ → List ℤ → ListOutcome
listed n codes numbers =
    by_rows (listed_rows n codes numbers) (outcome (given (product n codes).k) (coefficients n (product n codes))) (λ r p. outcome (refused r p) numbers)
