-- What holds of built tables beside demand 3: the demand from a weaker condition, the order of the nodes, and built
-- tables as what a build leaves unchanged. No demand rests on it. Assumes nothing.
use Rattle.std.specs.Prelude.{◌≡◌, ◌↔◌, ℕ, suc, ◌≤◌, ◌<◌, length, get_or, List, reverse}
use Rattle.exact.specs.Matrix.{PowerOf}
use Rattle.exact.specs.Lists.{product}
use Rattle.exact.specs.Fits.{fitting_gates}
use Rattle.walk.specs.Walk.{root, list_at}
use Rattle.walk.specs.Modes.{Mode, by_print}
use Rattle.walk.specs.AtWidth.{at_width, built, print_of, parent_of}
use Rattle.walk.specs.Known.{KnownIsPresent, SkippedRightly}
use Rattle.tables.specs.Checks.{Limits, Arrays}
use Rattle.tables.specs.Tables.{Table, walk_of, table, left, build_of, width_at, Query}
use Rattle.tables.specs.Built.{Built, FilledFrom}
use Rattle.tables.specs.Demand3.{Gives, Reaches, Complete}

-- ---- the nodes of a width, in their order

-- a parent lies below its node, and parents never fall; the depth of a node is one more than its parent's, depths never
-- fall and rise by at most one, and none is above G; no two nodes are equal up to a power of omega, and where a
-- fingerprint alone makes known no two have one (SPECIFICATION 6.14)
pub record Ordered (mode : Mode) (l : Limits) (w : ℕ) : Type 0 where
  pub below : (j : ℕ) → 0 < j → j < length (walk_of mode l w).nodes → parent_of (get_or (walk_of mode l w).nodes j root) < j
  pub parents_rise : (i j : ℕ) → 0 < i → i ≤ j → j < length (walk_of mode l w).nodes → parent_of (get_or (walk_of mode l w).nodes i root) ≤ parent_of (get_or (walk_of mode l w).nodes j root)
  pub one_deeper : (j : ℕ) → 0 < j → j < length (walk_of mode l w).nodes
      → length (list_at (walk_of mode l w).nodes j) ≡ suc (length (list_at (walk_of mode l w).nodes (parent_of (get_or (walk_of mode l w).nodes j root))))
  pub depths_rise : (i j : ℕ) → i ≤ j → j < length (walk_of mode l w).nodes → length (list_at (walk_of mode l w).nodes i) ≤ length (list_at (walk_of mode l w).nodes j)
  pub depths_step : (j : ℕ) → suc j < length (walk_of mode l w).nodes → length (list_at (walk_of mode l w).nodes (suc j)) ≤ suc (length (list_at (walk_of mode l w).nodes j))
  pub short : (j : ℕ) → j < length (walk_of mode l w).nodes → length (list_at (walk_of mode l w).nodes j) ≤ l.gates
  pub nodes_differ : (i j : ℕ) → i < j → j < length (walk_of mode l w).nodes
      → PowerOf w (product w (reverse (list_at (walk_of mode l w).nodes i))) (product w (reverse (list_at (walk_of mode l w).nodes j))) → ⊥
  pub prints_differ : mode ≡ by_print → (i j : ℕ) → i < j → j < length (walk_of mode l w).nodes
      → print_of w (get_or (walk_of mode l w).nodes i root) ≡ print_of w (get_or (walk_of mode l w).nodes j root) → ⊥

-- ---- beside the demand

pub record Beside : Type 0 where
  -- demand 3's (c) from hypothesis K: every candidate of the walk that was skipped as known has a node present for it
  -- (SPECIFICATION 8.14)
  pub complete_rightly : (mode : Mode) (t : Table) (a : Arrays) → Built mode t a → FilledFrom t a → t.limits.gates ≤ fitting_gates
      → (q : Query) → SkippedRightly mode q.width t.limits.basis t.limits.gates t.limits.entries → Complete t a q
  -- K asks nothing of candidates past the completed depth: where a width is saturated, that is less than the gate limit
  pub to_the_depth : (mode : Mode) (n basis G E depth : ℕ) → (built mode n basis G E).depth ≡ depth
      → KnownIsPresent (at_width mode n basis) (PowerOf n) depth (built mode n basis G E).nodes → SkippedRightly mode n basis G E
  -- shortest, whatever the index holds: none alone needs one that is filled from the table
  pub shortest_rightly : (mode : Mode) (t : Table) (a : Arrays) → Built mode t a → t.limits.gates ≤ fitting_gates
      → (q : Query) → SkippedRightly mode q.width t.limits.basis t.limits.gates t.limits.entries
      → (out l : List ℕ) → Gives t a q out l → (m : List ℕ) → Reaches t q m → length l ≤ length m
  -- counts are at least 1 and at most E (SPECIFICATION 6.14)
  pub counts : (mode : Mode) (t : Table) (a : Arrays) → Built mode t a → (w : ℕ) → 0 < w → w ≤ t.limits.qubits
      → (0 < (width_at t w).count) × ((width_at t w).count ≤ t.limits.entries)
  -- the nodes that a built table holds are in order
  pub ordered : (mode : Mode) (t : Table) (a : Arrays) → Built mode t a → (w : ℕ) → 0 < w → w ≤ t.limits.qubits → Ordered mode t.limits w
  -- a table is built, and an index is filled from it, exactly where a build of its limits in its arrays returns its
  -- record and changes no place (SPECIFICATION 8.11, 8.16)
  pub built_again : (mode : Mode) (t : Table) (a : Arrays) → (Built mode t a × FilledFrom t a) ↔ (build_of mode t.limits a ≡ left (table t) a)
