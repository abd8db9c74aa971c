-- A fill, a find, a write and an answer of a lent table, by its rows: where no row holds the index is filled, and the
-- others are what the part of the width gives; an answer is refused by the rows of its find and by 12. Assumes nothing.
use mathlib.Core.Path.{◌≡◌, refl, sym, ap, ◌∙◌}
use mathlib.Core.Bool.{Bool, true, false}
use mathlib.Core.List.{List, [], ◌∷◌, ◌++◌}
use Prim.Native.Nat.{ℕ, zero, suc, ◌<◌}
use native.Mathlib.Omega.{arith}
use borrow.Author.Tests.{lt-ltb}
use lib.ListN.{length}
use Rattle.ints.specs.Lists.{pick}
use Rattle.walk.specs.Index.{By, indexed}
use Rattle.walk.specs.Finds.{Finding, node, find_of}
use Rattle.walk.specs.Finds as f
use Rattle.walk.specs.Answers.{refused, Outcome, outcome, write_of, then_write, answer_of}
use Rattle.walk.proofs.Meaning.{no_nodes, found_below}
use Rattle.tables.specs.Checks.{Row, first_row, Arrays, room_row, index_row, query_rows}
use Rattle.tables.specs.Tables.{Table, Query, matrix_of, record_row, table_rows_of, list_row, not_a_width, count_at, limits_at, part_at, look_rows, look_rows_of, find_rows, found_in}
use Rattle.tables.specs.Tables.{filled_index, filled, not_filled, fill_left, fill_of}
use Rattle.tables.specs.Tables.{node_row, write_rows, written_in, answer_rows, synthesized}
use Rattle.tables.proofs.Rows.{Numbered, numbered_query, index_number, NoPositions, no_positions_append, no_positions_index, no_positions_query, rows_pass, rows_refuse_at_0, first_here, first_past, first_last, first_none, first_some, first_row_append, append_none}

-- ---- rows

pub numbered_look : (t : Table) (by : By) (f u c places : ℕ) → Numbered (look_rows t by f u c places)
numbered_look t by f u c places = (omega arith, (omega arith, (omega (arith, index_number t.limits by places), tt)))

pub numbered_find : (t : Table) (a : Arrays) (q : Query) → Numbered (find_rows t a q)
numbered_find t a q =
    (omega arith, (omega arith, (omega (arith, index_number t.limits a.by (length a.index)), numbered_query q.width q.exponent q.numbers)))

-- none of them tells a position
pub no_positions_look : (t : Table) (by : By) (a : Arrays) → NoPositions (look_rows_of t by a)
no_positions_look t by a = (refl, (refl, no_positions_index t.limits by (length a.index)))

pub no_positions_find : (t : Table) (a : Arrays) (q : Query) → NoPositions (find_rows t a q)
no_positions_find t a q =
    no_positions_append (look_rows_of t a.by a) (query_rows q.width q.exponent q.numbers) (no_positions_look t a.by a)
    (no_positions_query q.width q.exponent q.numbers)

pub no_positions_answer : (t : Table) (a : Arrays) (q : Query) (out : List ℕ) → NoPositions (answer_rows t a q out)
no_positions_answer t a q out = no_positions_append (find_rows t a q) (list_row t out ∷ []) (no_positions_find t a q) (refl, tt)

-- where no row of an answer holds, none of the find's does, and the lent list is long enough
pub passed : (t : Table) (a : Arrays) (q : Query) (out : List ℕ) → first_row (answer_rows t a q out) ≡ 0
    → (first_row (find_rows t a q) ≡ 0) × ((list_row t out).holds ≡ false)
passed t a q out e =
    let (g, h) = append_none (find_rows t a q) (list_row t out ∷ []) (numbered_find t a q) e in
    (g, (first_none (list_row t out) [] (omega arith) h).0)

-- where no row of the table and none that follow hold, the record and the arrays are not refused
pub good_table : (t : Table) (a : Arrays) (rs : List Row) → first_row (table_rows_of t a ++ rs) ≡ 0
    → ((record_row t).holds ≡ false) × ((room_row t.limits a).holds ≡ false) × (first_row rs ≡ 0)
good_table t a rs e =
    let (g, h) = first_none (record_row t) _ (omega arith) e in
    let (i, j) = first_none (room_row t.limits a) _ (omega arith) h in
    (g, i, j)

-- and where 17 is tried too, neither is the index
pub good_look : (t : Table) (by : By) (a : Arrays) (rs : List Row) → first_row (look_rows_of t by a ++ rs) ≡ 0
    → ((record_row t).holds ≡ false) × ((room_row t.limits a).holds ≡ false) × ((index_row t.limits by (length a.index)).holds ≡ false) × (first_row rs ≡ 0)
good_look t by a rs e =
    let (g, h, i) = good_table t a _ e in
    let (j, k) = first_none (index_row t.limits by (length a.index)) rs (omega (arith, index_number t.limits by (length a.index))) i in
    (g, h, j, k)

-- back: where none of these refuses, the rows that follow decide
pub look_passed : (t : Table) (by : By) (a : Arrays) (rs : List Row) → (record_row t).holds ≡ false → (room_row t.limits a).holds ≡ false
    → (index_row t.limits by (length a.index)).holds ≡ false → first_row (look_rows_of t by a ++ rs) ≡ first_row rs
look_passed t by a rs r m p = first_past (record_row t) _ r ∙ first_past (room_row t.limits a) _ m ∙ first_past (index_row t.limits by (length a.index)) rs p

-- of a node that the width has, no row of a write holds
pub rows_passed : (t : Table) (a : Arrays) (w k : ℕ) (out : List ℕ) → (record_row t).holds ≡ false → (room_row t.limits a).holds ≡ false → k < count_at t w
    → (list_row t out).holds ≡ false → first_row (write_rows t a w k out) ≡ 0
rows_passed t a w k out r m h l =
    first_past (record_row t) _ r ∙ first_past (room_row t.limits a) _ m ∙ first_past (node_row t w k) _ (rw (lt-ltb k (count_at t w) h))
    ∙ first_last (list_row t out) l

-- ---- a fill

module _ (t : Table) (a : Arrays) where
  pub fill_passed : first_row (look_rows_of t indexed a) ≡ 0 → fill_of t a ≡ fill_left filled (filled_index t a)
  unfolding fill_of
  fill_passed = rows_pass (look_rows_of t indexed a) _ (λ r p. fill_left (not_filled r p) a.index)

  pub fill_refused : (r : ℕ) → 0 < r → first_row (look_rows_of t indexed a) ≡ r → fill_of t a ≡ fill_left (not_filled r 0) a.index
  unfolding fill_of
  fill_refused = rows_refuse_at_0 (look_rows_of t indexed a) _ (λ r p. fill_left (not_filled r p) a.index) (no_positions_look t indexed a)

-- ---- a find

module _ (t : Table) (a : Arrays) (q : Query) where
  -- what the part of the query's width gives
  abbrev pub part_found : Finding
  part_found = find_of (limits_at t.limits q.width) (part_at t a q.width) (matrix_of q)

  pub find_passed : first_row (find_rows t a q) ≡ 0 → found_in t a q ≡ part_found
  unfolding found_in
  find_passed = rows_pass (find_rows t a q) _ (λ r p. f.refused r p)

  pub find_refused : (r : ℕ) → 0 < r → first_row (find_rows t a q) ≡ r → found_in t a q ≡ f.refused r 0
  unfolding found_in
  find_refused = rows_refuse_at_0 (find_rows t a q) _ (λ r p. f.refused r p) (no_positions_find t a q)

  -- a width that the table does not have has no node
  pub no_part : not_a_width t q.width ≡ true → part_found ≡ f.none
  no_part e = no_nodes (limits_at t.limits q.width) (part_at t a q.width) (matrix_of q) (rw e)

-- ---- a write

module _ (t : Table) (a : Arrays) (w k : ℕ) (out : List ℕ) where
  abbrev pub part_written : Outcome
  part_written = write_of (limits_at t.limits w) (part_at t a w) k out

  pub write_passed : first_row (write_rows t a w k out) ≡ 0 → written_in t a w k out ≡ part_written
  unfolding written_in
  write_passed = rows_pass (write_rows t a w k out) _ (λ r p. outcome (refused r p) out)

  pub write_refused : (r : ℕ) → 0 < r → first_row (write_rows t a w k out) ≡ r → written_in t a w k out ≡ outcome (refused r 0) out
  unfolding written_in
  write_refused = rows_refuse_at_0 (write_rows t a w k out) _ (λ r p. outcome (refused r p) out) (refl, (refl, (refl, (refl, tt))))

-- ---- an answer

module _ (t : Table) (a : Arrays) (q : Query) (out : List ℕ) where
  abbrev pub part_asked : Outcome
  part_asked = answer_of (limits_at t.limits q.width) (part_at t a q.width) (matrix_of q) out

  -- the write of a node found meets no row
  node_written_lem : first_row (answer_rows t a q out) ≡ 0 → (k m : ℕ) → part_found t a q ≡ node k m → written_in t a q.width k out ≡ part_written t a q.width k out
  node_written_lem e k m g =
      let (h, l) = passed t a q out e in
      let (r, s, z) = good_table t a _ h in
      write_passed t a q.width k out (rows_passed t a q.width k out r s (found_below (limits_at t.limits q.width) (part_at t a q.width) (matrix_of q) g) l)

  pub answer_passed : first_row (answer_rows t a q out) ≡ 0 → synthesized t a q out ≡ part_asked
  unfolding synthesized answer_of
  answer_passed e =
      rows_pass (answer_rows t a q out) _ (λ r p. outcome (refused r p) out) e
      ∙ ap (then_write (λ k. written_in t a q.width k out) out) (find_passed t a q (passed t a q out e).0)
      ∙ by (part_found t a q) refl
    where
      by : (g : Finding) → part_found t a q ≡ g
          → then_write (λ k. written_in t a q.width k out) out g ≡ then_write (λ k. part_written t a q.width k out) out g
      by (node k m) h = node_written_lem e k m h
      by f.none h = refl
      by (f.refused r p) h = refl

  pub answer_refused : (r : ℕ) → 0 < r → first_row (answer_rows t a q out) ≡ r → synthesized t a q out ≡ outcome (refused r 0) out
  unfolding synthesized
  answer_refused = rows_refuse_at_0 (answer_rows t a q out) _ (λ r p. outcome (refused r p) out) (no_positions_answer t a q out)

  -- an answer whose find meets no row: 12, or what the part answers
  pub asked_is : first_row (find_rows t a q) ≡ 0 → pick (list_row t out).holds (outcome (refused 12 0) out) part_asked ≡ synthesized t a q out
  asked_is e = by (list_row t out).holds refl
    where
      rest : first_row (answer_rows t a q out) ≡ first_row (list_row t out ∷ [])
      rest = first_row_append (find_rows t a q) (list_row t out ∷ []) (numbered_find t a q) e

      by : (b : Bool) → (list_row t out).holds ≡ b → pick b (outcome (refused 12 0) out) part_asked ≡ synthesized t a q out
      by true h = sym (answer_refused 12 (omega arith) (rest ∙ first_here (list_row t out) [] h))
      by false h = sym (answer_passed (rest ∙ first_last (list_row t out) h))

  -- the part's answer is its find, followed by the write of the node found
  pub asked_by : {g : Finding} → part_found t a q ≡ g → part_asked ≡ then_write (λ k. part_written t a q.width k out) out g
  unfolding answer_of
  asked_by e = ap (then_write (λ k. part_written t a q.width k out) out) e

  -- with a lent list that is long enough for every good record, an answer is the find, followed by the write
  pub followed : ((record_row t).holds ≡ false → (list_row t out).holds ≡ false)
      → then_write (λ k. written_in t a q.width k out) out (found_in t a q) ≡ synthesized t a q out
  unfolding synthesized
  followed long = by (first_row (find_rows t a q)) refl
    where
      by : (r : ℕ) → first_row (find_rows t a q) ≡ r → then_write (λ k. written_in t a q.width k out) out (found_in t a q) ≡ synthesized t a q out
      by zero e =
          let rest = first_row_append (find_rows t a q) (list_row t out ∷ []) (numbered_find t a q) e in
          sym (rows_pass (answer_rows t a q out) _ (λ r p. outcome (refused r p) out) (rest ∙ first_last (list_row t out) (long (good_table t a _ e).0)))
      by (suc r) e =
          ap (then_write (λ k. written_in t a q.width k out) out) (find_refused t a q (suc r) (omega arith) e)
          ∙ sym (answer_refused (suc r) (omega arith) (first_some (find_rows t a q) (list_row t out ∷ []) (suc r) (omega arith) e))
