-- The table of refusals (SPECIFICATION 9.1): rows 1 to 5 and 17, and a query's rows 6, 9, 10, 11; rows 12, 13 and 16
-- are in Tables.antt, 7 and 8 in Lists.antt. A row is a test, a number and a position, and rows stand in the order in
-- which they are tried, so that an order is read off a list, and every entry is one `by_rows`. Assumes nothing.
use Rattle.std.specs.Prelude.{Bool, false, not, ◌&&◌, ◌||◌, List, [], ◌∷◌, ℕ, ◌*◌, ◌^◌, ℤ, negsuc, eqb, ltb, length}
use Rattle.ints.specs.Lists.{pick, range}
use Rattle.coefficients.specs.Coefficients.{limit, eq_z}
use Rattle.circuit.specs.Sets.{supported, subset}
use Rattle.exact.specs.Matrix.{all_divisible}
use Rattle.exact.specs.Places.{read}
use Rattle.walk.specs.Walk.{any}
use Rattle.walk.specs.Index.{By, scan, indexed}

-- ---- rows: the first that holds is told (SPECIFICATION 9.2)

-- a row: its condition, its number, and the position that it tells
pub record Row : Type 0 where
  pub holds : Bool
  pub number : ℕ
  pub position : ℕ

abbrev pub row_at : Bool → ℕ → ℕ → Row
row_at b a p = record { holds = b; number = a; position = p }

-- a row that tells no position: it is 0
abbrev pub row : Bool → ℕ → Row
row b a = row_at b a 0

-- the number of the first row whose condition holds, and its position; 0 where none does
unfoldable pub first_row : List Row → ℕ
first_row [] = 0
first_row (r ∷ rs) = pick r.holds r.number (first_row rs)

abbrev pub first_position : List Row → ℕ
first_position [] = 0
first_position (r ∷ rs) = pick r.holds r.position (first_position rs)

-- an entry: what is asked where no row holds, and otherwise a refusal by the first row's number and position
abbrev pub by_rows : {A : Type 0} → List Row → A → (ℕ → ℕ → A) → A
by_rows rows asked refuse = pick (eqb (first_row rows) 0) asked (refuse (first_row rows) (first_position rows))

-- ---- the four limits

-- the width limit Q, the gate limit G, the entry limit E and the basis B (SPECIFICATION 6.1)
pub record Limits : Type 0 where
  pub qubits : ℕ
  pub gates : ℕ
  pub entries : ℕ
  pub basis : ℕ

abbrev pub limits_of : ℕ → ℕ → ℕ → ℕ → Limits
limits_of q g e b = record { qubits = q; gates = g; entries = e; basis = b }

-- rows 1 to 4: Q not from 1 to 5; no entries; B empty, or not all of it supported; G or E too large (SPECIFICATION 9.1)
abbrev pub widths_row : ℕ → Row
widths_row qubits = row (eqb qubits 0 || ltb 5 qubits) 1

abbrev pub entries_row : ℕ → Row
entries_row entries = row (eqb entries 0) 2

abbrev pub basis_row : ℕ → Row
basis_row basis = row (eqb basis 0 || not (subset basis supported)) 3

abbrev pub large_row : ℕ → ℕ → Row
large_row gates entries = row (ltb 64 gates || ltb 1000000 entries) 4

abbrev pub limit_rows : Limits → List Row
limit_rows l = widths_row l.qubits ∷ entries_row l.entries ∷ basis_row l.basis ∷ large_row l.gates l.entries ∷ []

-- ---- the three arrays and the index

-- fingerprints, parents and codes, each as long as the caller has made it (SPECIFICATION 6.2); how nodes are looked up,
-- and the index for it, at which the scan does not look (7.13)
pub record Arrays : Type 0 where
  pub prints : List ℕ
  pub parents : List ℕ
  pub codes : List ℕ
  pub by : By
  pub index : List ℕ

abbrev pub arrays_by : By → List ℕ → List ℕ → List ℕ → List ℕ → Arrays
arrays_by by f u c i = record { prints = f; parents = u; codes = c; by = by; index = i }

-- looked up by the scan, with no index lent
abbrev pub arrays : List ℕ → List ℕ → List ℕ → Arrays
arrays f u c = arrays_by scan f u c []

-- how many places a table has in each array (SPECIFICATION 6.2)
abbrev pub places_of : Limits → ℕ
places_of l = l.qubits * l.entries

-- one of three arrays of these lengths has fewer places than that
abbrev pub too_short : Limits → ℕ → ℕ → ℕ → Bool
too_short l f u c = ltb f (places_of l) || (ltb u (places_of l) || ltb c (places_of l))

-- row 5 (SPECIFICATION 9.1)
abbrev pub short_row : Limits → ℕ → ℕ → ℕ → Row
short_row l f u c = row (too_short l f u c) 5

abbrev pub room_row : Limits → Arrays → Row
room_row l a = short_row l (length a.prints) (length a.parents) (length a.codes)

-- so many places are one part for each width up to Q, all of one size, which is a power of two and at least twice E
-- (SPECIFICATION 7.16). Since 2^m is above m, the m below the number of places are all that can be meant
unfoldable pub in_parts : Limits → ℕ → Bool
in_parts l places = any (λ m. eqb places (l.qubits * 2 ^ m) && not (ltb (2 ^ m) (2 * l.entries))) (range 0 places)

-- row 17, of an index of so many places; the scan asks for none (SPECIFICATION 9.1)
abbrev pub index_row : Limits → By → ℕ → Row
index_row l scan places = row false 17
index_row l indexed places = row (not (in_parts l places)) 17

abbrev pub parts_row : Limits → Arrays → Row
parts_row l a = index_row l a.by (length a.index)

-- ---- a query

-- how many coefficients a matrix of width n has (SPECIFICATION 1.7)
abbrev pub coefficient_count : ℕ → ℕ
coefficient_count n = 4 * 4 ^ n

-- some coefficient is -32768, one below the limit's negative (SPECIFICATION 1.3)
unfoldable pub any_below : List ℤ → Bool
any_below [] = false
any_below (x ∷ l) = eq_z x (negsuc limit) || any_below l

-- rows 6 and 9, of a list too: the width is too large; the coefficients are not as many as they must be
abbrev pub wide_row : ℕ → Row
wide_row n = row (ltb 5 n) 6

abbrev pub coefficients_row : ℕ → List ℤ → Row
coefficients_row n numbers = row (not (eqb (length numbers) (coefficient_count n))) 9

-- rows 6, 9, 10, 11: then one is -32768; not in lowest denominator
abbrev pub query_rows : ℕ → ℕ → List ℤ → List Row
query_rows n k numbers =
    wide_row n ∷ coefficients_row n numbers ∷ row (any_below numbers) 10 ∷ row (ltb 0 k && all_divisible n (read n numbers)) 11 ∷ []
