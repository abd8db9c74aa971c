-- What a caller reads off the number that a C function returns, and what the record given as numbers loses: nothing
-- (SPECIFICATION, chapter 14). The statements are of `listed` and `synthesized`, which the entries answer for every
-- input. Assumes nothing.
use Rattle.std.specs.Prelude.{◌≡◌, Bool, true, false, List, [], ◌∷◌, ℕ, ◌*◌, ◌/◌, ◌%◌, ◌≤◌, ◌<◌, ℤ, eqb, ltb, length}
use Rattle.ints.specs.Lists.{pick}
use Rattle.exact.specs.Answers.{Answer, given, refused}
use Rattle.walk.specs.Index.{scan}
use Rattle.walk.specs.Answers.{Reply}
use Rattle.walk.specs.Answers as answers
use Rattle.tables.specs.Checks.{limits_of, Arrays}
use Rattle.tables.specs.Lists.{listed}
use Rattle.tables.specs.Tables.{Table, not_built, width_at, Query, synthesized}
use Rattle.murm_c.specs.Numbers.{capped, list_number, reply_number, counts_table}

-- ---- reading

-- what a caller reads off the number: a value (an exponent or a gate count); none; or a refusal: first its number, then
-- its position
pub data Reading : Type 0 where
  value : ℕ → Reading
  nothing : Reading
  refusal : ℕ → ℕ → Reading

-- 4294967295 is none, a lower number is a value, and a higher one is a refusal: its number and its position are
-- quotient and remainder by 2^32 (SPECIFICATION 14.2)
abbrev pub reading : ℕ → Reading
reading x = pick (ltb x 4294967295) (value x) (pick (eqb x 4294967295) nothing (refusal (x / 4294967296) (x % 4294967296)))

-- what the answer to a list says, its position capped
abbrev pub list_says : Answer → Reading
list_says (given k) = value k
list_says (refused r p) = refusal r (capped p)

-- what the answer to a matrix says
abbrev pub reply_says : Reply → Reading
reply_says (answers.given m) = value m
reply_says answers.none = nothing
reply_says (answers.refused r p) = refusal r (capped p)

-- ---- the record

-- two records with the same limits and the same count at each width; depths and flags may be any (SPECIFICATION 14.3)
pub record SameCounts (t u : Table) : Type 0 where
  pub limits : t.limits ≡ u.limits
  pub counts : (w : ℕ) → (width_at t w).count ≡ (width_at u w).count

-- a record that keeps of another its limits and the counts of widths 1 to 5: the one that `murm_synthesize` makes of
-- numbers
abbrev pub counts_of : Table → Table
counts_of t =
    counts_table t.limits (width_at t 1).count (width_at t 2).count (width_at t 3).count (width_at t 4).count (width_at t 5).count

-- the record of the table of SPECIFICATION 10.7, but for its depth and its flag
abbrev pub sample_with : ℕ → Bool → Table
sample_with d s = record {
  limits = limits_of 1 8 10 24;
  widths = record { count = 4; depth = d; saturated = s } ∷ not_built ∷ not_built ∷ not_built ∷ not_built ∷ [];
}

-- ---- the laws (SPECIFICATION 14.5)

pub record Laws : Type 0 where
  -- the number tells the cases apart: what is read off it is what the entry answers
  pub list_read : (n : ℕ) (codes : List ℕ) (numbers : List ℤ) → reading (list_number (listed n codes numbers).answer) ≡ list_says (listed n codes numbers).answer
  pub reply_read : (t : Table) (a : Arrays) (q : Query) (out : List ℕ) → a.by ≡ scan
      → reading (reply_number (synthesized t a q out).reply) ≡ reply_says (synthesized t a q out).reply
  -- a position up to 4294967295 is told as it is, a larger one as 4294967295; so of a list of up to 2^32 codes every
  -- position is told as it is
  pub position_kept : (p : ℕ) → p ≤ 4294967295 → capped p ≡ p
  pub position_capped : (p : ℕ) → 4294967295 < p → capped p ≡ 4294967295
  pub position_told : (n : ℕ) (codes : List ℕ) (numbers : List ℤ) (r p : ℕ) → length codes ≤ 4294967296 → (listed n codes numbers).answer ≡ refused r p
      → reading (list_number (listed n codes numbers).answer) ≡ refusal r p
  -- a value is small: an exponent is below 65535, a gate count is at most G, and G is then at most 64
  pub exponent_most : (n : ℕ) (codes : List ℕ) (numbers : List ℤ) (k : ℕ) → (listed n codes numbers).answer ≡ given k → k < 65535
  pub count_most : (t : Table) (a : Arrays) (q : Query) (out : List ℕ) (m : ℕ) → (synthesized t a q out).reply ≡ answers.given m
      → (m ≤ t.limits.gates) × (t.limits.gates ≤ 64)
  -- the refusals that are told: of a list from 6 to 9, of a matrix by the scan from 5 to 13 and at position 0
  pub list_refusals : (n : ℕ) (codes : List ℕ) (numbers : List ℤ) (r p : ℕ) → (listed n codes numbers).answer ≡ refused r p → (6 ≤ r) × (r ≤ 9)
  pub reply_refusals : (t : Table) (a : Arrays) (q : Query) (out : List ℕ) (r p : ℕ) → a.by ≡ scan → (synthesized t a q out).reply ≡ answers.refused r p
      → (5 ≤ r) × (r ≤ 13) × (p ≡ 0)
  -- so that every number returned is below 14 × 2^32, far below 2^64
  pub list_fits : (n : ℕ) (codes : List ℕ) (numbers : List ℤ) → list_number (listed n codes numbers).answer < 14 * 4294967296
  pub reply_fits : (t : Table) (a : Arrays) (q : Query) (out : List ℕ) → a.by ≡ scan → reply_number (synthesized t a q out).reply < 14 * 4294967296
  -- the record as numbers loses nothing: what is answered, and what the lent list then holds, depend on the limits and
  -- the counts alone
  pub record_kept : (t : Table) (a : Arrays) (q : Query) (out : List ℕ) → synthesized t a q out ≡ synthesized (counts_of t) a q out
  pub counts_alone : (t u : Table) → SameCounts t u → (a : Arrays) (q : Query) (out : List ℕ) → synthesized t a q out ≡ synthesized u a q out
  -- that is more than that equal records are answered alike: these two have the same counts and are not equal
  pub counts_differ : SameCounts (sample_with 3 false) (sample_with 9 true) × (sample_with 3 false ≡ sample_with 9 true → ⊥)
  -- samples of readings: 7 at 52, 8 at a position past 32 bits, none, a value
  pub readings : (reading (list_number (refused 7 52)) ≡ refusal 7 52) × (reading (list_number (refused 8 4294967296)) ≡ refusal 8 4294967295)
      × (reading 4294967295 ≡ nothing) × (reading 64 ≡ value 64)
