-- The rows that are tried before a table is asked, how many entries a width has, and the rows of a node. Assumes
-- nothing.
use mathlib.Core.Path.{◌≡◌, sym, ap, ◌∙◌}
use mathlib.Core.Bool.{true, false}
use Prim.Native.Nat.{ℕ, zero, suc, ◌≤◌, ◌<◌}
use borrow.Author.Tests.{ne_eqb, lt-ltb, le-ltb}
use native.Mathlib.Omega.{arith}
use lib.Dec.{eqb, ltb}
use Rattle.ints.proofs.Bools.{or_right}
use Rattle.tables.specs.Checks.{first_row, too_short as arrays_short}
use Rattle.tables.specs.Tables.{Table, Width, width_at, record_row, table_rows, count_at, node_rows}
use Rattle.tables.proofs.Rows.{Numbered, first_here, first_past, first_last}

module _ (t : Table) (f u c : ℕ) where
  pub bad : (record_row t).holds ≡ true → 13 ≡ first_row (table_rows t f u c)
  bad e = sym (first_here _ _ e)

  module _ (good : (record_row t).holds ≡ false) where
    pub short : arrays_short t.limits f u c ≡ true → 5 ≡ first_row (table_rows t f u c)
    short e = sym (first_past _ _ good ∙ first_here _ _ e)

    pub asked : arrays_short t.limits f u c ≡ false → 0 ≡ first_row (table_rows t f u c)
    asked e = sym (first_past _ _ good ∙ first_last _ e)

pub count_above : (t : Table) (w : ℕ) → t.limits.qubits < w → 0 ≡ count_at t w
count_above t w h = rw (or_right (eqb w 0) (ltb t.limits.qubits w) (lt-ltb t.limits.qubits w h))

-- the row of width 0 has no entries
pub count_is : (t : Table) (w : ℕ) {v : Width} → w ≤ t.limits.qubits → v ≡ width_at t w → v.count ≡ count_at t w
count_is t zero h e = ap (λ (v : Width). v.count) e
count_is t (suc w) h e = ap (λ (v : Width). v.count) e ∙ rw (ne_eqb (suc w) 0 (λ z. absurd (omega (arith, z))), le-ltb t.limits.qubits (suc w) h)

-- ---- the rows of a table are numbered

pub numbered_table : (t : Table) (f u c : ℕ) → Numbered (table_rows t f u c)
numbered_table t f u c = (omega arith, (omega arith, tt))

-- ---- rows 16 and 12

module _ (t : Table) (w k room : ℕ) where
  pub no_node : count_at t w ≤ k → 16 ≡ first_row (node_rows t w k room)
  unfolding first_row
  no_node h = rw (le-ltb k (count_at t w) h)

  module _ (there : k < count_at t w) where
    pub too_short : room < t.limits.gates → 12 ≡ first_row (node_rows t w k room)
    unfolding first_row
    too_short h = rw (lt-ltb k (count_at t w) there, lt-ltb room t.limits.gates h)

    pub long_enough : t.limits.gates ≤ room → 0 ≡ first_row (node_rows t w k room)
    unfolding first_row
    long_enough h = rw (lt-ltb k (count_at t w) there, le-ltb room t.limits.gates h)
