-- Which node answers a query, said of what a caller has: a record, arrays and a query (SPECIFICATION 7.4 to 7.6); and,
-- beside it, that where no two nodes have one fingerprint it is the first node that has the query's. Assumes nothing.
use Rattle.std.specs.Prelude.{◌≡◌, List, ℕ, ◌+◌, ◌*◌, ◌-◌, ◌<◌, eqb, get_or}
use Rattle.ints.specs.Lists.{pick}
use Rattle.walk.specs.Modes.{by_print}
use Rattle.walk.specs.Finds.{Finding, find_of}
use Rattle.walk.specs.Finds as f
use Rattle.walk.specs.Meaning.{ScanMeans, find_first}
use Rattle.walk.specs.Answers.{refused, Outcome, outcome, then_write}
use Rattle.tables.specs.Checks.{first_row, first_position, by_rows, Arrays}
use Rattle.tables.specs.Tables.{Table, count_at, Query, matrix_of, limits_at, part_at, find_rows, found_in, answer_rows, written_in, synthesized}
use Rattle.tables.specs.Built.{Built, FilledFrom}

-- ---- the rule

pub record AnswerRule : Type 0 where
  -- a find that no row refuses, by the scan or through an index that is filled from the table: the lowest node of the
  -- query's width that has its fingerprint and is equal up to phase; the first bad chain below it refuses by 13; else
  -- none
  pub lowest : (t : Table) (a : Arrays) → FilledFrom t a → (q : Query) → first_row (find_rows t a q) ≡ 0
      → (found_in t a q ≡ find_of (limits_at t.limits q.width) (part_at t a q.width) (matrix_of q))
      × ScanMeans (limits_at t.limits q.width) (part_at t a q.width) (matrix_of q)

-- ---- beside it: the rule of the first node alone, with the rows of a find and of an answer

unfoldable pub first_found_in : Table → Arrays → Query → Finding
first_found_in t a q =
    by_rows (find_rows t a q) (find_first (limits_at t.limits q.width) (part_at t a q.width) (matrix_of q)) (λ r p. f.refused r p)

unfoldable pub first_synthesized : Table → Arrays → Query → List ℕ → Outcome
first_synthesized t a q out =
    by_rows (answer_rows t a q out) (then_write (λ k. written_in t a q.width k out) out (first_found_in t a q)) (λ r p. outcome (refused r p) out)

-- no two nodes of width w have one fingerprint, in their places of the array
abbrev pub DistinctAt : Table → Arrays → ℕ → Type 0
DistinctAt t a w =
    (i j : ℕ) → i < j → j < count_at t w → get_or a.prints ((w - 1) * t.limits.entries + i) 0 ≡ get_or a.prints ((w - 1) * t.limits.entries + j) 0 → ⊥

pub record FirstNode : Type 0 where
  -- where no two nodes of the query's width have one fingerprint, a find and an answer are those of the first node
  -- alone, by either look-up and with any index
  pub find_distinct : (t : Table) (a : Arrays) (q : Query) → DistinctAt t a q.width → found_in t a q ≡ first_found_in t a q
  pub answer_distinct : (t : Table) (a : Arrays) (q : Query) → DistinctAt t a q.width → (out : List ℕ) → synthesized t a q out ≡ first_synthesized t a q out
  -- so it is with every table that is built by the fingerprint alone
  pub by_print_lem : (t : Table) (a : Arrays) → Built by_print t a → (w : ℕ) → DistinctAt t a w
