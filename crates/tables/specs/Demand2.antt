-- Demand 2, its first half (SPECIFICATION 8.2), of what the entry for lists answers: `library_circuit_matrix` answers
-- `listed`, for every input. Assumes nothing.
use Rattle.std.specs.Prelude.{◌≡◌, true, List, ◌↔◌, ℕ, ◌≤◌, ◌<◌, ℤ, length}
use Rattle.ints.specs.Lists.{all}
use Rattle.circuit.specs.Codes.{valid}
use Rattle.exact.specs.Matrix.{SameValue, Lowest}
use Rattle.exact.specs.Lists.{product}
use Rattle.exact.specs.Paper.{paper_product}
use Rattle.exact.specs.Fits.{step_within, FirstPast}
use Rattle.exact.specs.Answers.{given, refused}
use Rattle.exact.specs.Places.{held}
use Rattle.tables.specs.Checks.{coefficient_count}
use Rattle.tables.specs.Lists.{coefficients, outcome, listed}

-- The matrix of an accepted list is the paper's product of its gates by value, and is in lowest denominator. Where the
-- width, the count of lent places and the codes are not refused, the list is too large exactly where a step passes the
-- limit, at the first such step; and it is accepted, with its product, where none does
pub record Demand2 (n : ℕ) (codes : List ℕ) (numbers : List ℤ) : Type 0 where
  pub value : (k : ℕ) (after : List ℤ) → listed n codes numbers ≡ outcome (given k) after → SameValue n (paper_product n codes) (held n k after)
  pub lowest : (k : ℕ) (after : List ℤ) → listed n codes numbers ≡ outcome (given k) after → Lowest n (held n k after)
  pub too_large : n ≤ 5 → length numbers ≡ coefficient_count n → all (valid n) codes ≡ true → (i : ℕ) → ((listed n codes numbers).answer ≡ refused 8 i) ↔ FirstPast n codes i
  pub accepted : n ≤ 5 → length numbers ≡ coefficient_count n → all (valid n) codes ≡ true → ((j : ℕ) → j < length codes → step_within n codes j ≡ true)
      → listed n codes numbers ≡ outcome (given (product n codes).k) (coefficients n (product n codes))
