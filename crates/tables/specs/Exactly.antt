-- Which input is refused, by which number and at which position, exactly (SPECIFICATION 9.1 to 9.3): the rows of each
-- public entry in words, in their order; a build, a fill, a find, a write, an answer and a list are refused by a row
-- exactly where it holds and none before it does. The rows are told again here, as what is so and not as a test, so
-- that the tests of Checks, Tables and Lists are checked against them. Tests of lower crates, as `subset`, `valid` and
-- `all_divisible`, are taken as they are. Assumes nothing.
use Rattle.std.specs.Prelude.{◌≡◌, ◌↔◌, ◌⊎◌, true, false, List, [], ◌∷◌, ◌++◌, ℕ, ◌*◌, ◌^◌, ◌≤◌, ◌<◌, ℤ, pos, negsuc, length, get_or}
use Rattle.coefficients.specs.Coefficients.{limit}
use Rattle.circuit.specs.Sets.{supported, subset}
use Rattle.circuit.specs.Codes.{valid}
use Rattle.exact.specs.Matrix.{all_divisible}
use Rattle.exact.specs.Lists.{product}
use Rattle.exact.specs.Fits.{FirstPast}
use Rattle.exact.specs.Answers as e
use Rattle.exact.specs.Places.{read}
use Rattle.walk.specs.Index.{By, indexed}
use Rattle.walk.specs.Finds as f
use Rattle.walk.specs.Answers.{refused, outcome}
use Rattle.walk.specs.Modes.{Mode}
use Rattle.walk.specs.Meaning.{Fault, BadFound}
use Rattle.tables.specs.Checks.{Limits, Arrays, places_of, coefficient_count}
use Rattle.tables.specs.Tables.{Table, width_at, record_of, built_to, table, refusal, left, build_of, filled_index, filled, not_filled, fill_left, fill_of, Query, matrix_of}
use Rattle.tables.specs.Tables.{limits_at, part_at, found_in, written_in, synthesized}
use Rattle.tables.specs.Lists as lists
use Rattle.tables.specs.Lists.{coefficients, listed}

-- ---- rows in words

-- a row: what is so where it refuses at a position, and its number
pub record Cause : Type 1 where
  pub number : ℕ
  pub at : ℕ → Type 0

-- a row that tells no position: it is 0
abbrev pub cause : ℕ → Type 0 → Cause
cause r C = record { number = r; at = λ p. C × (p ≡ 0) }

-- a row that tells the position p of which C p is so
abbrev pub cause_at : ℕ → (ℕ → Type 0) → Cause
cause_at r C = record { number = r; at = C }

-- the row does not hold, at any position
abbrev pub Past : Cause → Type 0
Past x = (p : ℕ) → x.at p → ⊥

-- a row numbered r holds at the position p, and no row before it holds (SPECIFICATION 9.2)
abbrev pub First : ℕ → ℕ → List Cause → Type 0
First r p [] = ⊥
First r p (x ∷ xs) = ((x.number ≡ r) × x.at p) ⊎ (Past x × First r p xs)

-- no row holds
abbrev pub NoCause : List Cause → Type 0
NoCause [] = Unit {0}
NoCause (x ∷ xs) = Past x × NoCause xs

-- ---- a build

module _ (l : Limits) where
  -- rows 1 to 4
  abbrev pub limit_causes : List Cause
  limit_causes =
      cause 1 ((l.qubits ≡ 0) ⊎ (5 < l.qubits))
      ∷ cause 2 (l.entries ≡ 0)
      ∷ cause 3 ((l.basis ≡ 0) ⊎ (subset l.basis supported ≡ false))
      ∷ cause 4 ((64 < l.gates) ⊎ (1000000 < l.entries)) ∷ []

  -- an array has fewer than Q × E places
  abbrev pub Short : Arrays → Type 0
  Short a = (length a.prints < places_of l) ⊎ (length a.parents < places_of l) ⊎ (length a.codes < places_of l)

  -- an index of so many places, not none, is Q parts of one size, a power of two, at least twice E
  pub record InParts (places : ℕ) : Type 0 where
    pub some : 0 < places
    pub power : ℕ
    pub in_all : places ≡ l.qubits * 2 ^ power
    pub large : 2 * l.entries ≤ 2 ^ power

  -- nodes are looked up through an index that is not such parts
  abbrev pub NotInParts : By → ℕ → Type 0
  NotInParts by places = (by ≡ indexed) × (InParts places → ⊥)

  -- rows 1 to 5 and 17, in the order of a build
  abbrev pub build_causes : Arrays → List Cause
  build_causes a = limit_causes ++ (cause 5 (Short a) ∷ cause 17 (NotInParts a.by (length a.index)) ∷ [])

-- ---- an answer

-- a bad record: its limits are refused, or the count of a width up to Q is 0 or above E (SPECIFICATION 9.3)
pub data BadRecord (t : Table) : Type 0 where
  bad_limits : (r p : ℕ) → First r p (limit_causes t.limits) → BadRecord t
  bad_count_lem : (w : ℕ) → 0 < w → w ≤ t.limits.qubits → ((width_at t w).count ≡ 0) ⊎ (t.limits.entries < (width_at t w).count) → BadRecord t

-- one of the coefficients is -32768, one below the limit's negative
pub record Below (numbers : List ℤ) : Type 0 where
  pub place : ℕ
  pub inside : place < length numbers
  pub is : get_or numbers place (pos 0) ≡ negsuc limit

-- rows 6, 9, 10, 11
abbrev pub query_causes : Query → List Cause
query_causes q =
    cause 6 (5 < q.width)
    ∷ cause 9 (length q.numbers ≡ coefficient_count q.width → ⊥)
    ∷ cause 10 (Below q.numbers)
    ∷ cause 11 ((0 < q.exponent) × (all_divisible q.width (read q.width q.numbers) ≡ true)) ∷ []

-- the table has the width, and the way from a node of its part that is looked at meets a fault (SPECIFICATION 7.5)
pub record BadChain (t : Table) (a : Arrays) (q : Query) : Type 0 where
  pub some : 0 < q.width
  pub has : q.width ≤ t.limits.qubits
  pub fault : BadFound (limits_at t.limits q.width) (part_at t a q.width) (matrix_of q)

-- 13 of the record, 5: the order of all that is asked of a table
abbrev pub table_causes : Table → Arrays → List Cause
table_causes t a = cause 13 (BadRecord t) ∷ cause 5 (Short t.limits a) ∷ []

-- then 17, by the look-up: a fill is by the index
abbrev pub look_causes : Table → By → Arrays → List Cause
look_causes t by a = table_causes t a ++ (cause 17 (NotInParts t.limits by (length a.index)) ∷ [])

-- then 6, 9, 10, 11, 12, 13 of a chain: the order of an answer
abbrev pub answer_causes : Table → Arrays → Query → List ℕ → List Cause
answer_causes t a q out = look_causes t a.by a ++ (query_causes q ++ (cause 12 (length out < t.limits.gates) ∷ cause 13 (BadChain t a q) ∷ []))

-- the same but for 12: the order of a find
abbrev pub find_causes : Table → Arrays → Query → List Cause
find_causes t a q = look_causes t a.by a ++ (query_causes q ++ (cause 13 (BadChain t a q) ∷ []))

-- the table does not have the width, or the width has k nodes or fewer
pub data NoNode (t : Table) (w k : ℕ) : Type 0 where
  no_width : (w ≡ 0) ⊎ (t.limits.qubits < w) → NoNode t w k
  too_few : (width_at t w).count ≤ k → NoNode t w k

-- the way from a node meets a fault
abbrev pub BadNode : Table → Arrays → ℕ → ℕ → Type 0
BadNode t a w k = Fault w t.limits.basis t.limits.gates (part_at t a w).parents (part_at t a w).codes k

-- 16, 12, 13 of the node's chain: the order of a write
abbrev pub write_causes : Table → Arrays → ℕ → ℕ → List ℕ → List Cause
write_causes t a w k out = table_causes t a ++ (cause 16 (NoNode t w k) ∷ cause 12 (length out < t.limits.gates) ∷ cause 13 (BadNode t a w k) ∷ [])

-- ---- a list

-- code p is the first that is not valid at the width
pub record FirstNotValid (n : ℕ) (codes : List ℕ) (p : ℕ) : Type 0 where
  pub inside : p < length codes
  pub before : (j : ℕ) → j < p → valid n (get_or codes j 0) ≡ true
  pub not_valid : valid n (get_or codes p 0) ≡ false

-- rows 6, 9, 7, 8: the order of a list
abbrev pub list_causes : ℕ → List ℕ → List ℤ → List Cause
list_causes n codes numbers =
    cause 6 (5 < n)
    ∷ cause 9 (length numbers ≡ coefficient_count n → ⊥)
    ∷ cause_at 7 (FirstNotValid n codes)
    ∷ cause_at 8 (FirstPast n codes) ∷ []

-- ---- exactly

-- what an entry comes to is the refusal by r at p, with m in lent memory, exactly where the row of r is the first that
-- holds, at p, and m is what was lent
abbrev pub RefusedWhere : {A M : Type 0} → A → (ℕ → ℕ → M → A) → M → List Cause → Type 0
RefusedWhere {A} {M} x refuse lent causes = (m : M) (r p : ℕ) → (x ≡ refuse r p m) ↔ (First r p causes × (m ≡ lent))

-- so it is with every entry; and where no row holds, a build, a fill and a list do what was asked
pub record Exactly : Type 0 where
  pub build : (mode : Mode) (l : Limits) (a : Arrays) → RefusedWhere (build_of mode l a) (λ r p b. left (refusal r p) b) a (build_causes l a)
  pub built : (mode : Mode) (l : Limits) (a : Arrays) → (build_of mode l a ≡ left (table (record_of mode l)) (built_to mode l l.qubits a)) ↔ NoCause (build_causes l a)
  pub fill : (t : Table) (a : Arrays) → RefusedWhere (fill_of t a) (λ r p i. fill_left (not_filled r p) i) a.index (look_causes t indexed a)
  pub fills : (t : Table) (a : Arrays) → (fill_of t a ≡ fill_left filled (filled_index t a)) ↔ NoCause (look_causes t indexed a)
  pub answer : (t : Table) (a : Arrays) (q : Query) (out : List ℕ)
      → RefusedWhere (synthesized t a q out) (λ r p after. outcome (refused r p) after) out (answer_causes t a q out)
  pub find : (t : Table) (a : Arrays) (q : Query) (r p : ℕ) → (found_in t a q ≡ f.refused r p) ↔ First r p (find_causes t a q)
  pub write : (t : Table) (a : Arrays) (w k : ℕ) (out : List ℕ)
      → RefusedWhere (written_in t a w k out) (λ r p after. outcome (refused r p) after) out (write_causes t a w k out)
  pub list : (n : ℕ) (codes : List ℕ) (numbers : List ℤ)
      → RefusedWhere (listed n codes numbers) (λ r p after. lists.outcome (e.refused r p) after) numbers (list_causes n codes numbers)
  pub formed : (n : ℕ) (codes : List ℕ) (numbers : List ℤ)
      → (listed n codes numbers ≡ lists.outcome (e.given (product n codes).k) (coefficients n (product n codes))) ↔ NoCause (list_causes n codes numbers)
