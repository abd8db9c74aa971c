-- What the checks of a query tell besides the row: all coefficients are within the limit, which the fingerprint and the
-- search ask for. Assumes nothing.
use Rattle.std.specs.Prelude.{◌≡◌, Bool, true, not, List, ℕ, ◌≤◌, ◌<◌, ℤ, pos, nat_abs, length, get_or}
use Rattle.coefficients.specs.Coefficients.{limit}
use Rattle.exact.proofs.Words.{AllSmall}
use Rattle.exact.specs.Places.{read}
use Rattle.refusal.specs.Told.{Reason, by_row}
use Rattle.tables.specs.Checks.{any_below, first_row, query_rows}
use Rattle.tables.specs.Tables.{Query}

-- whether no coefficient is -32768; then all are within the limit
pub record InRange (l : List ℤ) (r : Bool) : Type 0 where
  pub told : r ≡ not (any_below l)
  pub small : r ≡ true → (i : ℕ) → i < length l → nat_abs (get_or l i (pos 0)) ≤ limit

-- the checks of a query, by the row that refuses; a query that none refuses is within the limit
pub record Checked (q : Query) (r : Reason) : Type 0 where
  pub told : r ≡ by_row (first_row (query_rows q.width q.exponent q.numbers))
  pub small : r.number ≡ 0 → AllSmall q.width (read q.width q.numbers)

-- a query that may be asked: none of its rows refuses it, and it is within the limit
abbrev pub Askable : Query → Type 0
Askable q = (first_row (query_rows q.width q.exponent q.numbers) ≡ 0) × AllSmall q.width (read q.width q.numbers)
