-- The fingerprint of a matrix that may be asked of a table: what the entry answers, and where it refuses, exactly
-- (SPECIFICATION 5.5, 9.1, 9.2). Assumes nothing.
use Rattle.std.specs.Prelude.{◌≡◌, ◌↔◌, List, ℕ, ℤ}
use Rattle.exact.specs.Answers.{Answer, given, refused}
use Rattle.exact.specs.Fingerprint.{fingerprint}
use Rattle.exact.specs.Places.{held}
use Rattle.tables.specs.Checks.{query_rows, by_rows}
use Rattle.tables.specs.Tables.{Query, matrix_of}
use Rattle.tables.specs.Exactly.{First, NoCause, query_causes}

-- rows 6, 9, 10, 11; else the fingerprint of the matrix (SPECIFICATION 5.5)
unfoldable pub fingerprinted : ℕ → ℕ → List ℤ → Answer
fingerprinted n k numbers = by_rows (query_rows n k numbers) (given (fingerprint n (held n k numbers))) refused

-- a matrix is refused by a row exactly where it is the first of 6, 9, 10, 11 that holds; and where none holds, and only
-- there, its fingerprint is given
pub record FingerprintExactly : Type 0 where
  pub not_given : (q : Query) (r p : ℕ) → (fingerprinted q.width q.exponent q.numbers ≡ refused r p) ↔ First r p (query_causes q)
  pub is_given_lem : (q : Query) → (fingerprinted q.width q.exponent q.numbers ≡ given (fingerprint q.width (matrix_of q))) ↔ NoCause (query_causes q)
