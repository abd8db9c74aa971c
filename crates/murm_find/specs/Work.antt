-- What the checks of a find tell. Assumes nothing.
use Rattle.std.specs.Prelude.{◌≡◌, List, ◌++◌, ℕ, ℤ}
use Rattle.exact.proofs.Words.{AllSmall}
use Rattle.exact.specs.Places.{read}
use Rattle.refusal.specs.Told.{Reason, by_row}
use Rattle.walk.specs.Index.{By}
use Rattle.tables.specs.Checks.{first_row, query_rows, Arrays}
use Rattle.tables.specs.Tables.{Table, Query, look_rows, find_rows}

-- the checks of a find, by the row that refuses; of a query that none refuses all coefficients are within the limit
pub record FindChecked (t : Table) (by : By) (f u c places n k : ℕ) (l : List ℤ) (r : Reason) : Type 0 where
  pub told : r ≡ by_row (first_row (look_rows t by f u c places ++ query_rows n k l))
  pub small : r.number ≡ 0 → AllSmall n (read n l)

-- the same of arrays that are lent
pub record LentChecked (t : Table) (a : Arrays) (q : Query) (r : Reason) : Type 0 where
  pub told : r ≡ by_row (first_row (find_rows t a q))
  pub small : r.number ≡ 0 → AllSmall q.width (read q.width q.numbers)
