-- Demand 3 is not vacuous: tables of X alone, which meet every condition of it, and memory that no build left, of which
-- it says what it should (SPECIFICATION 8.14). Assumes nothing.
use Rattle.std.specs.Prelude.{◌≡◌, true, false, List, [], ◌∷◌, ℕ, ◌≤◌, ◌<◌, pos, length}
use Rattle.circuit.specs.Codes.{mark}
use Rattle.exact.specs.Matrix.{PowerOf}
use Rattle.exact.proofs.Words.{Equal}
use Rattle.exact.specs.Lists.{product}
use Rattle.exact.specs.Unitary.{Unitary}
use Rattle.exact.specs.Fingerprint.{fingerprint}
use Rattle.walk.specs.Modes.{by_print, keeping}
use Rattle.walk.specs.AtWidth.{NoSharedPrint}
use Rattle.walk.specs.Known.{SkippedRightly}
use Rattle.walk.specs.Index.{scan, indexed}
use Rattle.tables.specs.Checks.{Limits, limits_of, Arrays, arrays, arrays_by, places_of, in_parts, parts_row}
use Rattle.tables.specs.Tables.{Table, width_at, row_of, walk_of, record_of, built_to, table, refusal, left, build_of, filled, not_filled, fill_left, fill_of, Query, query, matrix_of}
use Rattle.tables.specs.Built.{Built, FilledFrom}
use Rattle.tables.specs.Demand3.{Gives, GivesNone, Refuses, NotRefused, NoSmaller, Reaches, Complete}
use Rattle.tables.specs.EitherLookup.{through}
use Rattle.tables.specs.AnswerRule.{first_found_in, first_synthesized}
use Rattle.walk.specs.Finds as f
use Rattle.walk.specs.Answers.{none, outcome}
use Rattle.tables.specs.FindWrite.{Finds, FindsNone, FindRefuses, Writes, WriteRefuses}

-- ---- limits and arrays

-- the smallest table with two nodes: basis 2 is X alone (SPECIFICATION 11.2)
abbrev pub x_limits : Limits
x_limits = record { qubits = 1; gates = 8; entries = 2; basis = 2 }

-- with the most gates up to which (c) is claimed
abbrev pub deep_limits : Limits
deep_limits = record { qubits = 1; gates = 29; entries = 2; basis = 2 }

-- Q, G and E are each larger; the basis is the same
abbrev pub larger_limits : Limits
larger_limits = record { qubits = 2; gates = 9; entries = 3; basis = 2 }

-- the basis has bit 25, that of Ch, besides: a kind that lists alone take
abbrev pub ch_limits : Limits
ch_limits = record { qubits = 1; gates = 8; entries = 2; basis = 33554434 }

-- the arrays and, where it is used, the index have the places that the limits want; they may hold anything
pub record Places (l : Limits) (a : Arrays) : Type 0 where
  pub in_prints : places_of l ≤ length a.prints
  pub in_parents : places_of l ≤ length a.parents
  pub in_codes : places_of l ≤ length a.codes
  pub in_index : (parts_row l a).holds ≡ false

-- ---- queries of width 1 and exponent 0

-- X: 0 1, 1 0
abbrev pub ask_x : Query
ask_x =
    query 1 0
    (pos 0 ∷ pos 0 ∷ pos 0 ∷ pos 0 ∷ pos 1 ∷ pos 0 ∷ pos 0 ∷ pos 0 ∷ pos 1 ∷ pos 0 ∷ pos 0 ∷ pos 0 ∷ pos 0 ∷ pos 0 ∷ pos 0 ∷ pos 0 ∷ [])

-- T: 1 0, 0 omega
abbrev pub ask_t : Query
ask_t =
    query 1 0
    (pos 1 ∷ pos 0 ∷ pos 0 ∷ pos 0 ∷ pos 0 ∷ pos 0 ∷ pos 0 ∷ pos 0 ∷ pos 0 ∷ pos 0 ∷ pos 0 ∷ pos 0 ∷ pos 0 ∷ pos 1 ∷ pos 0 ∷ pos 0 ∷ [])

-- the zero matrix
abbrev pub ask_zero : Query
ask_zero =
    query 1 0
    (pos 0 ∷ pos 0 ∷ pos 0 ∷ pos 0 ∷ pos 0 ∷ pos 0 ∷ pos 0 ∷ pos 0 ∷ pos 0 ∷ pos 0 ∷ pos 0 ∷ pos 0 ∷ pos 0 ∷ pos 0 ∷ pos 0 ∷ pos 0 ∷ [])

-- ---- memory that no build left

-- a list of 8 places
abbrev pub eight_places : List ℕ
eight_places = 0 ∷ 0 ∷ 0 ∷ 0 ∷ 0 ∷ 0 ∷ 0 ∷ 0 ∷ []

-- the fingerprint of node 0 is 7; node 1 is X
abbrev pub damaged : Arrays
damaged = arrays (7 ∷ fingerprint 1 (matrix_of ask_x) ∷ []) (mark ∷ 0 ∷ []) (mark ∷ 4096 ∷ [])

-- node 1 is X, and has the fingerprint of T
abbrev pub mistaken : Arrays
mistaken = arrays (7 ∷ fingerprint 1 (matrix_of ask_t) ∷ []) (mark ∷ 0 ∷ []) (mark ∷ 4096 ∷ [])

-- node 1 is its own parent
abbrev pub circular : Arrays
circular = arrays (7 ∷ fingerprint 1 (matrix_of ask_x) ∷ []) (mark ∷ 1 ∷ []) (mark ∷ 4096 ∷ [])

-- node 1 has the fingerprint of X and the code of Y, 61440
abbrev pub foreign : Arrays
foreign = arrays (7 ∷ fingerprint 1 (matrix_of ask_x) ∷ []) (mark ∷ 0 ∷ []) (mark ∷ 61440 ∷ [])

-- node 1 is X, and node 0 lacks one of its two marks
abbrev pub no_parent_mark : Arrays
no_parent_mark = arrays (7 ∷ fingerprint 1 (matrix_of ask_x) ∷ []) (0 ∷ 0 ∷ []) (mark ∷ 4096 ∷ [])

abbrev pub no_code_mark : Arrays
no_code_mark = arrays (7 ∷ fingerprint 1 (matrix_of ask_x) ∷ []) (mark ∷ 0 ∷ []) (0 ∷ 4096 ∷ [])

-- both fingerprints are 7
abbrev pub forgotten : Arrays
forgotten = arrays (7 ∷ 7 ∷ []) (mark ∷ 0 ∷ []) (mark ∷ 4096 ∷ [])

-- ---- the same through an index of 4 places

-- a built table whose index is empty
abbrev pub emptied : Arrays → Arrays
emptied a = through (built_to by_print x_limits 1 a) (mark ∷ mark ∷ mark ∷ mark ∷ [])

-- no place is empty: three lead past the count, the last to node 1
abbrev pub crowded : Arrays
crowded = arrays_by indexed (7 ∷ fingerprint 1 (matrix_of ask_x) ∷ []) (mark ∷ 0 ∷ []) (mark ∷ 4096 ∷ []) (2 ∷ 2 ∷ 2 ∷ 1 ∷ [])

-- every place leads to node 1, which has the fingerprint of T and is X
abbrev pub misled : Arrays
misled = arrays_by indexed (7 ∷ fingerprint 1 (matrix_of ask_t) ∷ []) (mark ∷ 0 ∷ []) (mark ∷ 4096 ∷ []) (1 ∷ 1 ∷ 1 ∷ 1 ∷ [])

-- the damaged memory with one place, which is no part for two entries; and no places at all
abbrev pub one_place : Arrays
one_place = through damaged (0 ∷ [])

abbrev pub no_places : Arrays
no_places = arrays_by indexed [] [] [] []

-- a record of the same limits with counts at widths that the table does not have
abbrev pub strange : Table
strange = record { limits = x_limits; widths = row_of by_print x_limits 1 ∷ row_of by_print x_limits 1 ∷ row_of by_print x_limits 1 ∷ [] }

-- a record of the same limits whose width 1 has one node, fewer than E
abbrev pub fewer : Table
fewer = record { limits = x_limits; widths = record { count = 1; depth = 0; saturated = false } ∷ [] }

-- ---- one fingerprint several times

-- nodes 0 and 1 both have the fingerprint of X; node 1 is X. By the scan and through an index that was filled from them
abbrev pub clashing : Arrays
clashing = arrays (fingerprint 1 (matrix_of ask_x) ∷ fingerprint 1 (matrix_of ask_x) ∷ []) (mark ∷ 0 ∷ []) (mark ∷ 4096 ∷ [])

-- three entries of X alone
abbrev pub three_limits : Limits
three_limits = record { qubits = 1; gates = 8; entries = 3; basis = 2 }

abbrev pub three : Table
three = record { limits = three_limits; widths = record { count = 3; depth = 1; saturated = false } ∷ [] }

-- all three have the fingerprint of X; nodes with these parents have the gate X
abbrev pub alike : ℕ → ℕ → Arrays
alike u v =
    arrays (fingerprint 1 (matrix_of ask_x) ∷ fingerprint 1 (matrix_of ask_x) ∷ fingerprint 1 (matrix_of ask_x) ∷ [])
    (mark ∷ u ∷ v ∷ []) (mark ∷ 4096 ∷ 4096 ∷ [])

pub record Samples : Type 0 where
  -- the queries are the matrices of X, 4096, and of T, 20480
  pub x_is : Equal 1 (matrix_of ask_x) (product 1 (4096 ∷ []))
  pub t_is : Equal 1 (matrix_of ask_t) (product 1 (20480 ∷ []))
  -- with these limits a build is not refused, and leaves a built table
  pub builds : (a : Arrays) → Places x_limits a → build_of by_print x_limits a ≡ left (table (record_of by_print x_limits)) (built_to by_print x_limits 1 a)
  pub a_table : (a : Arrays) → Places x_limits a → Built by_print (record_of by_print x_limits) (built_to by_print x_limits 1 a)
  -- (c): every condition is met, so what (c) states holds of each query of width 1, and width 1 is not saturated
  pub no_shared : NoSharedPrint 1 2 8
  pub skipped_rightly : SkippedRightly by_print 1 2 8 2
  pub complete : (a : Arrays) → Places x_limits a → (q : Query) → q.width ≡ 1 → Complete (record_of by_print x_limits) (built_to by_print x_limits 1 a) q
  pub unsaturated : (walk_of by_print x_limits 1).saturated ≡ false
  -- at 29 gates: the same, from no clash, from K, and where clashing nodes are kept; no list of X within 29 gates has
  -- the product of T
  pub deep_complete : (a : Arrays) → Places deep_limits a → (q : Query) → q.width ≡ 1 → Complete (record_of by_print deep_limits) (built_to by_print deep_limits 1 a) q
  pub deep_rightly : (a : Arrays) → Places deep_limits a → (q : Query) → SkippedRightly by_print q.width 2 29 2
      → Complete (record_of by_print deep_limits) (built_to by_print deep_limits 1 a) q
  pub deep_keeping : (a : Arrays) → Places deep_limits a → (q : Query) → Complete (record_of keeping deep_limits) (built_to keeping deep_limits 1 a) q
  pub deep_no_t : (a : Arrays) → Places deep_limits a → (m : List ℕ) → Reaches (record_of keeping deep_limits) ask_t m → length m ≤ 29 → ⊥
  -- with E 1 the width is saturated at depth 0, and K holds of it by `to_the_depth`, which looks no further than depth 0
  pub saturated_rightly : ((walk_of by_print (limits_of 1 8 1 2) 1).saturated ≡ true) × SkippedRightly by_print 1 2 8 1
  -- X gets the list X; T gets none, and so no list of X within 8 gates has its product
  pub gives_x : (a : Arrays) → Places x_limits a → (out : List ℕ) → 8 ≤ length out → Gives (record_of by_print x_limits) (built_to by_print x_limits 1 a) ask_x out (4096 ∷ [])
  pub none_t : (a : Arrays) → Places x_limits a → (out : List ℕ) → 8 ≤ length out → GivesNone (record_of by_print x_limits) (built_to by_print x_limits 1 a) ask_t out
  pub no_t : (a : Arrays) → Places x_limits a → (m : List ℕ) → Reaches (record_of by_print x_limits) ask_t m → length m ≤ 8 → ⊥
  -- (b): a larger table gives the same list where the lent list has G places, and refuses by 12 where it has fewer
  pub no_smaller : NoSmaller x_limits larger_limits
  -- and any limits are no smaller than themselves
  pub same_limits : (l : Limits) → NoSmaller l l
  pub larger_table : (a : Arrays) → Places larger_limits a → Built by_print (record_of by_print larger_limits) (built_to by_print larger_limits 2 a)
  pub larger_x : (a : Arrays) → Places larger_limits a → (out : List ℕ) → 9 ≤ length out
      → Gives (record_of by_print larger_limits) (built_to by_print larger_limits 2 a) ask_x out (4096 ∷ [])
  pub larger_12 : (a : Arrays) → Places larger_limits a → (out : List ℕ) → length out < 9
      → Refuses (record_of by_print larger_limits) (built_to by_print larger_limits 2 a) ask_x out 12
  -- (a): the damaged memory is no built table; it answers X by a list, whose product is a power of omega times X, and X
  -- is unitary
  pub not_a_table : Built by_print (record_of by_print x_limits) damaged → ⊥
  pub damaged_x : Gives (record_of by_print x_limits) damaged ask_x eight_places (4096 ∷ [])
  pub damaged_right : PowerOf 1 (matrix_of ask_x) (product 1 (4096 ∷ [])) × Unitary 1 (matrix_of ask_x)
  -- a list whose product is another is not answered; a parent that is not below its node is refused by 13
  pub mistaken_t : GivesNone (record_of by_print x_limits) mistaken ask_t eight_places
  pub circular_x : Refuses (record_of by_print x_limits) circular ask_x eight_places 13
  -- node 0 without the mark of its parent, or without that of its code, is refused by 13
  pub unmarked_x : Refuses (record_of by_print x_limits) no_parent_mark ask_x eight_places 13 × Refuses (record_of by_print x_limits) no_code_mark ask_x eight_places 13
  -- a kind that lists alone take is refused by 13 in a chain, and by 3 in a basis, whatever the arrays are
  pub foreign_x : Refuses (record_of by_print x_limits) foreign ask_x eight_places 13
  pub ch_basis : (a : Arrays) → build_of by_print ch_limits a ≡ left (refusal 3 0) a
  -- (c) is of built tables: X gets none where its fingerprint is not there
  pub forgotten_x : GivesNone (record_of by_print x_limits) forgotten ask_x eight_places
  pub not_complete : Complete (record_of by_print x_limits) forgotten ask_x → ⊥
  -- (d): the zero matrix is not unitary, is not refused, and gets none
  pub zero_not_unitary : Unitary 1 (matrix_of ask_zero) → ⊥
  pub zero_passes : (a : Arrays) → Places x_limits a → (out : List ℕ) → 8 ≤ length out → NotRefused (record_of by_print x_limits) (built_to by_print x_limits 1 a) ask_zero out
  pub none_zero : (a : Arrays) → Places x_limits a → (out : List ℕ) → 8 ≤ length out → GivesNone (record_of by_print x_limits) (built_to by_print x_limits 1 a) ask_zero out
  -- the same of a find and a write: a built table finds X, and writes its list
  pub finds_x : (a : Arrays) → Places x_limits a → (k : ℕ) × Finds (record_of by_print x_limits) (built_to by_print x_limits 1 a) ask_x k 1 × Writes (record_of by_print x_limits) (built_to by_print x_limits 1 a) 1 k eight_places (4096 ∷ [])
  pub finds_none_t : (a : Arrays) → Places x_limits a → FindsNone (record_of by_print x_limits) (built_to by_print x_limits 1 a) ask_t
  -- whatever the memory holds, a node found has the product asked; a write looks at no product
  pub damaged_find : Finds (record_of by_print x_limits) damaged ask_x 1 1
  pub damaged_write : Writes (record_of by_print x_limits) damaged 1 1 eight_places (4096 ∷ [])
  pub mistaken_find : FindsNone (record_of by_print x_limits) mistaken ask_t
  pub mistaken_write : Writes (record_of by_print x_limits) mistaken 1 1 eight_places (4096 ∷ [])
  -- the order of rows: 13 of a chain comes last, 12 before it, 16 before 12
  pub circular_find : FindRefuses (record_of by_print x_limits) circular ask_x 13
  pub circular_write : WriteRefuses (record_of by_print x_limits) circular 1 1 eight_places 13
  pub circular_short : WriteRefuses (record_of by_print x_limits) circular 1 1 [] 12 × Refuses (record_of by_print x_limits) circular ask_x [] 12
  pub no_node : WriteRefuses (record_of by_print x_limits) circular 1 2 [] 16
  -- what lies past the count is neither found nor written
  pub past_count : FindsNone fewer damaged ask_x × WriteRefuses fewer damaged 1 1 eight_places 16
  -- there are such arrays, looked up either way
  pub some_places : Places x_limits (arrays (0 ∷ 0 ∷ []) (0 ∷ 0 ∷ []) (0 ∷ 0 ∷ [])) × Places x_limits (arrays_by indexed (0 ∷ 0 ∷ []) (0 ∷ 0 ∷ []) (0 ∷ 0 ∷ []) (0 ∷ 0 ∷ 0 ∷ 0 ∷ []))
  -- an index of 4 places is one part of them, and so is one of 8; 3, 2, 6, and 8 or 12 in two parts for 3 entries are
  -- not what the limits want
  pub four_places : (in_parts x_limits 4 ≡ true) × (in_parts x_limits 3 ≡ false) × (in_parts x_limits 2 ≡ false) × (in_parts larger_limits 8 ≡ false) × (in_parts larger_limits 16 ≡ true)
  pub six_places : (in_parts x_limits 6 ≡ false) × (in_parts larger_limits 12 ≡ false) × (in_parts x_limits 8 ≡ true) × (in_parts x_limits 0 ≡ false)
  -- what is not in parts is refused by 17: after 5, before the query is looked at; the scan does not look at it
  pub one_build : (build_of by_print x_limits one_place ≡ left (refusal 17 0) one_place) × (build_of by_print x_limits no_places ≡ left (refusal 5 0) no_places)
  pub one_fill : (fill_of (record_of by_print x_limits) one_place ≡ fill_left (not_filled 17 0) (0 ∷ [])) × (fill_of (record_of by_print x_limits) no_places ≡ fill_left (not_filled 5 0) [])
  pub one_answer : Refuses (record_of by_print x_limits) one_place ask_x eight_places 17 × Refuses (record_of by_print x_limits) one_place (query 6 0 []) [] 17
      × Refuses (record_of by_print x_limits) no_places ask_x eight_places 5
  -- a fill from the damaged memory, and what it then answers
  pub damaged_fill : fill_of (record_of by_print x_limits) (through damaged (0 ∷ 1 ∷ 2 ∷ mark ∷ [])) ≡ fill_left filled (mark ∷ 1 ∷ mark ∷ 0 ∷ [])
  pub damaged_filled : Gives (record_of by_print x_limits) (through damaged (mark ∷ 1 ∷ mark ∷ 0 ∷ [])) ask_x eight_places (4096 ∷ [])
  -- an index that was not filled from the built table at hand misses X, so that none says nothing: that it was is asked
  -- with reason
  pub emptied_table : (a : Arrays) → Places x_limits a → Built by_print (record_of by_print x_limits) (emptied a)
  pub emptied_x : (a : Arrays) → Places x_limits a → GivesNone (record_of by_print x_limits) (emptied a) ask_x eight_places
  pub emptied_not_complete : (a : Arrays) → Places x_limits a → Complete (record_of by_print x_limits) (emptied a) ask_x → ⊥
  pub emptied_not_filled : (a : Arrays) → Places x_limits a → FilledFrom (record_of by_print x_limits) (emptied a) → ⊥
  -- by the scan nothing is asked of an index, and any may be lent
  pub scan_filled : (t : Table) (a : Arrays) → a.by ≡ scan → FilledFrom t a
  -- places at or past the count are passed over, and X is found behind them; what a place leads to is rechecked
  pub crowded_x : Gives (record_of by_print x_limits) crowded ask_x eight_places (4096 ∷ [])
  pub misled_t : GivesNone (record_of by_print x_limits) misled ask_t eight_places
  -- widths that the table does not have have no nodes, whatever the record says
  pub strange_count : 0 < (width_at strange 2).count
  pub no_width : WriteRefuses strange damaged 2 0 eight_places 16 × WriteRefuses strange damaged 0 0 eight_places 16 × WriteRefuses strange damaged 4294967295 0 eight_places 16
  -- where clashing nodes are kept: a build of the same limits, demand 3 with no condition on fingerprints, X and T
  pub keeping_builds : (a : Arrays) → Places x_limits a → build_of keeping x_limits a ≡ left (table (record_of keeping x_limits)) (built_to keeping x_limits 1 a)
  pub keeping_complete : (a : Arrays) → Places x_limits a → (q : Query) → Complete (record_of keeping x_limits) (built_to keeping x_limits 1 a) q
  pub keeping_unsaturated : (walk_of keeping x_limits 1).saturated ≡ false
  pub keeping_x : (a : Arrays) → Places x_limits a → (out : List ℕ) → 8 ≤ length out → Gives (record_of keeping x_limits) (built_to keeping x_limits 1 a) ask_x out (4096 ∷ [])
  pub keeping_none_t : (a : Arrays) → Places x_limits a → (out : List ℕ) → 8 ≤ length out → GivesNone (record_of keeping x_limits) (built_to keeping x_limits 1 a) ask_t out
  pub keeping_no_t : (a : Arrays) → Places x_limits a → (m : List ℕ) → Reaches (record_of keeping x_limits) ask_t m → length m ≤ 8 → ⊥
  -- the first node with the fingerprint is passed and the second answers, by either look-up
  pub clashing_x : Gives (record_of by_print x_limits) clashing ask_x eight_places (4096 ∷ [])
  pub clashing_find : Finds (record_of by_print x_limits) clashing ask_x 1 1
  pub clashing_fill : fill_of (record_of by_print x_limits) (through clashing (0 ∷ 0 ∷ 0 ∷ 0 ∷ [])) ≡ fill_left filled (mark ∷ 0 ∷ 1 ∷ mark ∷ [])
  pub clashing_filled : Gives (record_of by_print x_limits) (through clashing (mark ∷ 0 ∷ 1 ∷ mark ∷ [])) ask_x eight_places (4096 ∷ [])
  -- the rule of the first node alone misses it
  pub clashing_first : (first_found_in (record_of by_print x_limits) clashing ask_x ≡ f.none) × (first_synthesized (record_of by_print x_limits) clashing ask_x eight_places ≡ outcome none eight_places)
  -- a bad chain before the match is refused by 13; one behind it is not walked
  pub bad_before : Refuses three (alike 1 0) ask_x eight_places 13 × FindRefuses three (alike 1 0) ask_x 13
  pub bad_behind : Gives three (alike 0 2) ask_x eight_places (4096 ∷ []) × Finds three (alike 0 2) ask_x 1 1
