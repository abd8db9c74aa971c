-- What a build leaves in three lent arrays and an index and returns, what a fill leaves in the index, and what a lent
-- table answers, for every input and by either look-up (SPECIFICATION, chapters 6 and 7). The contracts of `build`,
-- `fill_index`, `find`, `write` and `synthesize` are these definitions, and the demands are stated of them. Assumes
-- nothing.
use Rattle.std.specs.Prelude.{Bool, false, not, ◌&&◌, ◌||◌, List, [], ◌∷◌, ◌++◌, map, ℕ, zero, suc, ◌*◌, ◌-◌, ◌/◌, ℤ, eqb, ltb, length, get_or, take, drop}
use Rattle.ints.specs.Lists.{pick, over}
use Rattle.exact.specs.Matrix.{Exact}
use Rattle.exact.specs.Places.{held}
use Rattle.walk.specs.Walk.{Build, gate, any}
use Rattle.walk.specs.Modes.{Mode}
use Rattle.walk.specs.AtWidth.{built, print_of, parent_of}
use Rattle.walk.specs.Index.{By, indexed, kept}
use Rattle.walk.specs.Finds.{WidthLimits, Part, part_with, Finding, find_of}
use Rattle.walk.specs.Finds as f
use Rattle.walk.specs.Answers.{refused, Outcome, outcome, write_of, then_write}
use Rattle.tables.specs.Checks.{Row, row, first_row, first_position, by_rows, Limits, limit_rows, Arrays, short_row, room_row, index_row, parts_row, query_rows}

-- ---- the record

-- a width's row of the record: how many nodes, the completed depth, whether it is saturated (SPECIFICATION 6.10)
pub record Width : Type 0 where
  pub count : ℕ
  pub depth : ℕ
  pub saturated : Bool

-- the record: the limits, and the rows of widths 1 to 5 in this order (SPECIFICATION 6.10)
pub record Table : Type 0 where
  pub limits : Limits
  pub widths : List Width

-- the row of a width that was not built (SPECIFICATION 6.10)
abbrev pub not_built : Width
not_built = record { count = 0; depth = 0; saturated = false }

-- a width's row; 0 and the numbers above 5 have that of a width that was not built
abbrev pub width_at : Table → ℕ → Width
width_at t zero = not_built
width_at t (suc v) = get_or t.widths v not_built

-- the widths that a record has
abbrev pub all_widths : List ℕ
all_widths = 1 ∷ 2 ∷ 3 ∷ 4 ∷ 5 ∷ []

-- ---- a build

-- the walk of a width under the limits (SPECIFICATION 6.4)
abbrev pub walk_of : Mode → Limits → ℕ → Build
walk_of mode l w = built mode w l.basis l.gates l.entries

-- the row of a width, by its walk
abbrev pub width_of : Build → Width
width_of b = record { count = length b.nodes; depth = b.depth; saturated = b.saturated }

-- the row of a width under the limits; above Q that of a width that was not built (SPECIFICATION 6.10)
abbrev pub row_of : Mode → Limits → ℕ → Width
row_of mode l w = pick (ltb l.qubits w) not_built (width_of (walk_of mode l w))

-- the record that a build of the limits returns
unfoldable pub record_of : Mode → Limits → Table
record_of mode l = record { limits = l; widths = map (row_of mode l) all_widths }

-- the columns of a width, by its nodes in order: fingerprints, parents, codes (SPECIFICATION 6.11)
unfoldable pub prints_of : Mode → Limits → ℕ → List ℕ
prints_of mode l w = map (print_of w) (walk_of mode l w).nodes

unfoldable pub parents_of : Mode → Limits → ℕ → List ℕ
parents_of mode l w = map parent_of (walk_of mode l w).nodes

unfoldable pub codes_of : Mode → Limits → ℕ → List ℕ
codes_of mode l w = map gate (walk_of mode l w).nodes

-- g worked on the n places from a on
abbrev pub within : ℕ → ℕ → (List ℕ → List ℕ) → List ℕ → List ℕ
within a n g xs = take a xs ++ (g (take n (drop a xs)) ++ drop n (drop a xs))

-- parts of n places, one after the other, of which those of widths 1 to w were worked, each by the g of its width
unfoldable pub parts_to : (ℕ → List ℕ → List ℕ) → ℕ → ℕ → List ℕ → List ℕ
parts_to g n zero old = old
parts_to g n (suc w) old = within (w * n) n (g (suc w)) (parts_to g n w old)

-- an array after widths 1 to w were filled: each part begins with its column, and all other places are as they were
-- (SPECIFICATION 6.2, 6.11)
abbrev pub filled_to : (ℕ → List ℕ) → ℕ → ℕ → List ℕ → List ℕ
filled_to column E w old = parts_to (λ v. over (column v)) E w old

-- how many places of an index of so many each width has: where row 17 does not hold, Q times as many are all
-- (SPECIFICATION 7.16)
abbrev pub part_size : Limits → ℕ → ℕ
part_size l places = places / l.qubits

-- the index after widths 1 to w were built: each part goes with the nodes of its width; by the scan it is as it was
-- (SPECIFICATION 7.14)
abbrev pub index_to : Mode → Limits → By → ℕ → List ℕ → List ℕ
index_to mode l by w index = parts_to (λ v. kept by (prints_of mode l v) (length (walk_of mode l v).nodes)) (part_size l (length index)) w index

-- the arrays after widths 1 to w were built
abbrev pub built_to : Mode → Limits → ℕ → Arrays → Arrays
built_to mode l w a = record {
  prints = filled_to (prints_of mode l) l.entries w a.prints;
  parents = filled_to (parents_of mode l) l.entries w a.parents;
  codes = filled_to (codes_of mode l) l.entries w a.codes;
  by = a.by;
  index = index_to mode l a.by w a.index;
}

-- a table's record, or a refusal: first its number, then its position
pub data BuildReply : Type 0 where
  table : Table → BuildReply
  refusal : ℕ → ℕ → BuildReply

-- the reply, and what the lent arrays hold after it
pub record Left : Type 0 where
  pub reply : BuildReply
  pub arrays : Arrays

abbrev pub left : BuildReply → Arrays → Left
left r a = record { reply = r; arrays = a }

-- rows 1, 2, 3, 4, 5, 17 in this order (SPECIFICATION 9.2)
abbrev pub build_rows : Limits → Arrays → List Row
build_rows l a = limit_rows l ++ (room_row l a ∷ parts_row l a ∷ [])

-- a table is built, in a mode (SPECIFICATION, chapter 6); a refusal leaves the arrays as they were (9.4)
unfoldable pub build_of : Mode → Limits → Arrays → Left
build_of mode l a = by_rows (build_rows l a) (left (table (record_of mode l)) (built_to mode l l.qubits a)) (λ r p. left (refusal r p) a)

-- ---- what a table is asked

-- a width, an exponent, and the coefficients of a matrix in the order of the places (SPECIFICATION 7.1)
pub record Query : Type 0 where
  pub width : ℕ
  pub exponent : ℕ
  pub numbers : List ℤ

abbrev pub query : ℕ → ℕ → List ℤ → Query
query n k numbers = record { width = n; exponent = k; numbers = numbers }

-- the matrix asked
abbrev pub matrix_of : Query → Exact
matrix_of q = held q.width q.exponent q.numbers

-- the count of a width up to Q is bad: 0, or above E (SPECIFICATION 9.3)
abbrev pub bad_count_of : ℕ → ℕ → ℕ → ℕ → Bool
bad_count_of qubits entries w count = not (ltb qubits w) && (eqb count 0 || ltb entries count)

-- the same of a record
abbrev pub bad_count : Table → ℕ → Bool
bad_count t w = bad_count_of t.limits.qubits t.limits.entries w (width_at t w).count

-- row 13 of the record: one of the rows 1 to 4 refuses its limits, or a count is bad (SPECIFICATION 9.3)
abbrev pub record_row : Table → Row
record_row t = row (not (eqb (first_row (limit_rows t.limits)) 0) || any (bad_count t) all_widths) 13

-- 13 of the record, then 5 of arrays of these lengths: what is tried before a table is asked anything (SPECIFICATION
-- 9.2)
abbrev pub table_rows : Table → ℕ → ℕ → ℕ → List Row
table_rows t f u c = record_row t ∷ short_row t.limits f u c ∷ []

abbrev pub table_rows_of : Table → Arrays → List Row
table_rows_of t a = table_rows t (length a.prints) (length a.parents) (length a.codes)

-- row 12: a lent list of so many places has fewer than the gate limit (SPECIFICATION 9.1)
abbrev pub places_row : Table → ℕ → Row
places_row t room = row (ltb room t.limits.gates) 12

abbrev pub list_row : Table → List ℕ → Row
list_row t out = places_row t (length out)

-- the table has no such width: 0, or above Q
abbrev pub not_a_width : Table → ℕ → Bool
not_a_width t w = eqb w 0 || ltb t.limits.qubits w

-- how many entries a width has; one that the table does not have has none, whatever the record says of it
-- (SPECIFICATION 7.3)
abbrev pub count_at : Table → ℕ → ℕ
count_at t w = pick (not_a_width t w) 0 (width_at t w).count

-- the part of width n in one array (SPECIFICATION 6.2)
abbrev pub part_of : ℕ → ℕ → List ℕ → List ℕ
part_of n E xs = take E (drop ((n - 1) * E) xs)

-- and in the three and the index, with a count of its entries
abbrev pub part_by : Limits → ℕ → Arrays → ℕ → Part
part_by l count a w =
    part_with a.by (part_of w l.entries a.prints) (part_of w l.entries a.parents) (part_of w l.entries a.codes)
    count (part_of w (part_size l (length a.index)) a.index)

abbrev pub part_at : Table → Arrays → ℕ → Part
part_at t a w = part_by t.limits (count_at t w) a w

-- the limits of a width of the table
abbrev pub limits_at : Limits → ℕ → WidthLimits
limits_at l w = record { width = w; basis = l.basis; gates = l.gates; entries = l.entries }

-- ---- a fill of the index

-- 13 of the record, 5, and 17 by the look-up: what is tried before nodes are looked up (SPECIFICATION 9.2)
abbrev pub look_rows : Table → By → ℕ → ℕ → ℕ → ℕ → List Row
look_rows t by f u c places = table_rows t f u c ++ (index_row t.limits by places ∷ [])

abbrev pub look_rows_of : Table → By → Arrays → List Row
look_rows_of t by a = look_rows t by (length a.prints) (length a.parents) (length a.codes) (length a.index)

-- the index that goes with a table: each width's part is filled from its entries, nodes rising (SPECIFICATION 7.14)
unfoldable pub filled_index : Table → Arrays → List ℕ
filled_index t a =
    parts_to (λ w. kept indexed (part_of w t.limits.entries a.prints) (count_at t w)) (part_size t.limits (length a.index))
    t.limits.qubits a.index

-- filled, or a refusal: first its number, then its position
pub data FillReply : Type 0 where
  filled : FillReply
  not_filled : ℕ → ℕ → FillReply

-- the reply, and what the index holds after it
pub record FillLeft : Type 0 where
  pub reply : FillReply
  pub index : List ℕ

abbrev pub fill_left : FillReply → List ℕ → FillLeft
fill_left r i = record { reply = r; index = i }

-- the index is cleared and filled from a table: 13 of the record, 5, 17 (SPECIFICATION 7.17); a refusal leaves it (9.4)
unfoldable pub fill_of : Table → Arrays → FillLeft
fill_of t a = by_rows (look_rows_of t indexed a) (fill_left filled (filled_index t a)) (λ r p. fill_left (not_filled r p) a.index)

-- ---- a find

-- 13 of the record, 5, 17, 6, 9, 10, 11 in this order (SPECIFICATION 9.2)
abbrev pub find_rows : Table → Arrays → Query → List Row
find_rows t a q = look_rows_of t a.by a ++ query_rows q.width q.exponent q.numbers

-- the node that answers a matrix is found (SPECIFICATION 7.10)
unfoldable pub found_in : Table → Arrays → Query → Finding
found_in t a q = by_rows (find_rows t a q) (find_of (limits_at t.limits q.width) (part_at t a q.width) (matrix_of q)) (λ r p. f.refused r p)

-- ---- a write

-- row 16: the width has no node k (SPECIFICATION 9.1)
abbrev pub node_row : Table → ℕ → ℕ → Row
node_row t w k = row (not (ltb k (count_at t w))) 16

-- 16, then 12 of a lent list of so many places
abbrev pub node_rows : Table → ℕ → ℕ → ℕ → List Row
node_rows t w k room = node_row t w k ∷ places_row t room ∷ []

-- 13 of the record, 5, 16, 12 in this order (SPECIFICATION 9.2)
abbrev pub write_rows : Table → Arrays → ℕ → ℕ → List ℕ → List Row
write_rows t a w k out = table_rows_of t a ++ node_rows t w k (length out)

-- the list of node k of width w is written (SPECIFICATION 7.11); a refusal leaves the lent list as it was (9.4)
unfoldable pub written_in : Table → Arrays → ℕ → ℕ → List ℕ → Outcome
written_in t a w k out = by_rows (write_rows t a w k out) (write_of (limits_at t.limits w) (part_at t a w) k out) (λ r p. outcome (refused r p) out)

-- ---- an answer

-- those of a find, then 12 (SPECIFICATION 9.2)
abbrev pub answer_rows : Table → Arrays → Query → List ℕ → List Row
answer_rows t a q out = find_rows t a q ++ (list_row t out ∷ [])

-- a matrix is answered: the find, followed by the write (SPECIFICATION, chapter 7); a refusal leaves the lent list as
-- it was (9.4)
unfoldable pub synthesized : Table → Arrays → Query → List ℕ → Outcome
synthesized t a q out =
    by_rows (answer_rows t a q out) (then_write (λ k. written_in t a q.width k out) out (found_in t a q)) (λ r p. outcome (refused r p) out)
