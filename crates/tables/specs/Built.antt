-- A built table, and an index filled from a table (SPECIFICATION 8.11, 8.16). A built table is said of the places that
-- hold nodes, not as the result of a call, so that the other places may hold anything, and copied arrays are a built
-- table too. Assumes nothing.
use Rattle.std.specs.Prelude.{◌≡◌, false, ℕ, ◌+◌, ◌*◌, ◌-◌, ◌≤◌, ◌<◌, length, get_or}
use Rattle.walk.specs.Walk.{root, gate}
use Rattle.walk.specs.Modes.{Mode}
use Rattle.walk.specs.AtWidth.{print_of, parent_of}
use Rattle.walk.specs.Index.{indexed}
use Rattle.tables.specs.Checks.{first_row, Limits, limit_rows, Arrays, room_row, parts_row}
use Rattle.tables.specs.Tables.{Table, record_of, walk_of, filled_index}

-- the place of node j of width w holds the node: its fingerprint, its parent and its gate (SPECIFICATION 6.11)
pub record HoldsNode (mode : Mode) (l : Limits) (a : Arrays) (w j : ℕ) : Type 0 where
  pub print : get_or a.prints ((w - 1) * l.entries + j) 0 ≡ print_of w (get_or (walk_of mode l w).nodes j root)
  pub parent : get_or a.parents ((w - 1) * l.entries + j) 0 ≡ parent_of (get_or (walk_of mode l w).nodes j root)
  pub code : get_or a.codes ((w - 1) * l.entries + j) 0 ≡ gate (get_or (walk_of mode l w).nodes j root)

-- no row refuses the limits, the record is what a build of them in the mode returns, the arrays have room, and the
-- place of each node holds it (SPECIFICATION 8.11)
pub record Built (mode : Mode) (t : Table) (a : Arrays) : Type 0 where
  pub accepted : first_row (limit_rows t.limits) ≡ 0
  pub returned : t ≡ record_of mode t.limits
  pub room : (room_row t.limits a).holds ≡ false
  pub nodes : (w : ℕ) → 0 < w → w ≤ t.limits.qubits → (j : ℕ) → j < length (walk_of mode t.limits w).nodes → HoldsNode mode t.limits a w j

-- row 17 does not hold, and an index is what a fill from the table leaves, whatever the table is, damaged or not; the
-- scan asks nothing of it (SPECIFICATION 8.16)
pub record FilledFrom (t : Table) (a : Arrays) : Type 0 where
  pub parts : (parts_row t.limits a).holds ≡ false
  pub is : a.by ≡ indexed → a.index ≡ filled_index t a
