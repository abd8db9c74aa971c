-- The scan and the index side by side (SPECIFICATION 7.13 to 7.17, 8.16): an index that is filled from a table, damaged
-- or not, leads to the scan's node for every fingerprint, and so answers as the scan; a fill leaves such an index, and
-- so does a build, place by place. Assumes nothing.
use Rattle.std.specs.Prelude.{◌≡◌, List, false, ℕ, ◌*◌, ◌^◌, ◌≤◌, ◌<◌, length}
use Rattle.walk.specs.Modes.{Mode}
use Rattle.walk.specs.Index.{scan, indexed}
use Rattle.walk.specs.Finds.{looked_in}
use Rattle.tables.specs.Checks.{Limits, Arrays, arrays, arrays_by}
use Rattle.tables.specs.Tables.{Table, table, left, build_of, filled, fill_left, fill_of, Query, record_row, part_size, part_at, found_in, written_in, synthesized}
use Rattle.tables.specs.Built.{FilledFrom}

-- the same arrays, looked up by the scan
abbrev pub scanned : Arrays → Arrays
scanned a = arrays a.prints a.parents a.codes

-- the same arrays with another index, through which they are looked up
abbrev pub through : Arrays → List ℕ → Arrays
through a i = arrays_by indexed a.prints a.parents a.codes i

-- the size of a width's part is a power of two and at least twice E, and the parts of all widths are all places
-- (SPECIFICATION 7.16)
pub record PartSizes (l : Limits) (places : ℕ) : Type 0 where
  pub power : ℕ
  pub size : part_size l places ≡ 2 ^ power
  pub in_all : l.qubits * part_size l places ≡ places
  pub large : 2 * l.entries ≤ part_size l places

pub record EitherLookup : Type 0 where
  -- whatever the table holds, equal fingerprints among them: at each width that it has, a fingerprint leads to the same
  -- node from any node on
  pub looks_same : (t : Table) (a : Arrays) → FilledFrom t a → (record_row t).holds ≡ false → (w : ℕ) → 0 < w → w ≤ t.limits.qubits
      → (from fingerprint : ℕ) → looked_in (part_at t a w) from fingerprint ≡ looked_in (part_at t (scanned a) w) from fingerprint
  -- so that a find and an answer are the scan's, refusals too
  pub find_same : (t : Table) (a : Arrays) → FilledFrom t a → (q : Query) → found_in t a q ≡ found_in t (scanned a) q
  pub answer_same : (t : Table) (a : Arrays) → FilledFrom t a → (q : Query) (out : List ℕ) → synthesized t a q out ≡ synthesized t (scanned a) q out
  -- a write does not look up
  pub write_same : (t : Table) (a : Arrays) (w k : ℕ) (out : List ℕ) → written_in t a w k out ≡ written_in t (scanned a) w k out
  -- a fill that is not refused leaves an index that is filled from the table
  pub fill_filled : (t : Table) (a : Arrays) (i : List ℕ) → fill_of t a ≡ fill_left filled i → FilledFrom t (through a i)
  -- each place is given anew: any other index of as many places is left the same. So a second fill changes nothing
  pub fill_anew : (t : Table) (a : Arrays) (i : List ℕ) → fill_of t a ≡ fill_left filled i → (other : List ℕ) → length other ≡ length a.index
      → fill_of t (through a other) ≡ fill_left filled i
  -- a build leaves in the three arrays and returns what it does by the scan, and in the index what a fill from its
  -- table leaves, whatever stands in the index before the fill
  pub build_same : (mode : Mode) (l : Limits) (a b : Arrays) (t : Table) → build_of mode l a ≡ left (table t) b → build_of mode l (scanned a) ≡ left (table t) (scanned b)
  pub build_filled : (mode : Mode) (l : Limits) (a b : Arrays) (t : Table) → a.by ≡ indexed → build_of mode l a ≡ left (table t) b
      → (other : List ℕ) → length other ≡ length a.index → fill_of t (through b other) ≡ fill_left filled b.index
  -- the scan leaves the index
  pub scan_leaves : (mode : Mode) (l : Limits) (a b : Arrays) (t : Table) → a.by ≡ scan → build_of mode l a ≡ left (table t) b → b.index ≡ a.index
  -- an index keeps its length
  pub fill_length : (t : Table) (a : Arrays) → length (fill_of t a).index ≡ length a.index
