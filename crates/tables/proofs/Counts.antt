-- How many nodes a width's walk and a width of a record have, what the record of a built table says of each width, and
-- that row 13 does not refuse it. Assumes nothing.
use mathlib.Core.Path.{◌≡◌, refl, ap, ◌∙◌}
use mathlib.Core.Logic.{inr}
use mathlib.Core.Bool.{Bool, true, false, not, ◌&&◌, ◌||◌}
use mathlib.Core.List.{List, [], ◌∷◌, map}
use Prim.Native.Nat.{ℕ, zero, suc, ◌+◌, ◌≤◌, ◌<◌}
use native.Mathlib.Omega.{arith}
use borrow.Author.Tests.{ltb-true, ltb-false, le-ltb, eq-eqb, ne_eqb}
use lib.Dec.{eqb, ltb}
use lib.ListN.{length, get_or}
use Rattle.ints.specs.Lists.{range, all}
use Rattle.ints.proofs.Bools.{neither, clash, and_left, and_right}
use Rattle.walk.specs.Walk.{any}
use Rattle.walk.specs.Modes.{Mode}
use Rattle.walk.specs.AtWidth.{at_width}
use Rattle.walk.proofs.Nodes.{first}
use Rattle.walk.proofs.Layers.{walk_shape}
use Rattle.tables.specs.Checks.{first_row, Limits, limit_rows, Arrays}
use Rattle.tables.specs.Tables.{Table, Width, not_built, width_at, all_widths, walk_of, width_of, row_of, record_of, bad_count, record_row, not_a_width, count_at}
use Rattle.tables.specs.Built.{Built}
use Rattle.tables.specs.Exactly.{bad_count_lem}
use Rattle.tables.proofs.InWords.{is_record}
use Rattle.tables.proofs.Accepted.{above, accepted}

-- ---- a width of a record

-- a width that a table has, and back
pub has_width : (t : Table) (w : ℕ) → 0 < w → w ≤ t.limits.qubits → not_a_width t w ≡ false
has_width t w p h = rw (ne_eqb w 0 (omega arith), le-ltb t.limits.qubits w h)

pub a_width : (t : Table) (w : ℕ) → not_a_width t w ≡ false → (0 < w) × (w ≤ t.limits.qubits)
a_width t w e =
    let p = neither (eqb w 0) (ltb t.limits.qubits w) e in
    (above w p.0, ltb-false t.limits.qubits w p.1)

-- a width with entries is one that the table has
pub counted : (t : Table) (w : ℕ) {k : ℕ} → k < count_at t w → (0 < w) × (w ≤ t.limits.qubits) × (count_at t w ≡ (width_at t w).count)
counted t w h = by (not_a_width t w) refl
  where
    by : (b : Bool) → not_a_width t w ≡ b → (0 < w) × (w ≤ t.limits.qubits) × (count_at t w ≡ (width_at t w).count)
    by true e = let z : count_at t w ≡ 0 = rw e in absurd (omega (arith, h, z))
    by false e = let (p, q) = a_width t w e in (p, q, rw e)

-- no width of a record that is not refused has more than E
pub record_count : (t : Table) (w : ℕ) → (record_row t).holds ≡ false → count_at t w ≤ t.limits.entries
record_count t w r = by (not_a_width t w) refl
  where
    by : (b : Bool) → not_a_width t w ≡ b → count_at t w ≤ t.limits.entries
    by true e = rw e (omega arith)
    by false e =
        let (p, q) = a_width t w e in
        let few : t.limits.entries < (width_at t w).count → ⊥ = λ z. clash ((is_record t).from (bad_count_lem w p q (inr z))) r in
        rw e (omega (arith, few))

-- ---- a width's walk

-- it has a node, and at most E
pub walk_count : (mode : Mode) (l : Limits) (w : ℕ) → 0 < l.entries → (0 < length (walk_of mode l w).nodes) × (length (walk_of mode l w).nodes ≤ l.entries)
walk_count mode l w h =
    let s = walk_shape (at_width mode w l.basis) l.gates l.entries in
    ((first (at_width mode w l.basis) s.layered.grown).0, s.count h)

-- ---- a width of the record that a build returns

-- the rows of m widths from i on, by their places
rows_at : (mode : Mode) (l : Limits) (m i v : ℕ) → v < m → get_or (map (row_of mode l) (range i m)) v not_built ≡ row_of mode l (i + v)
unfolding range
rows_at mode l zero i v h = absurd (omega arith)
rows_at mode l (suc m) i zero h = let e : i ≡ i + 0 = omega arith in ap (row_of mode l) e
rows_at mode l (suc m) i (suc v) h = let e : suc i + v ≡ i + suc v = omega arith in rows_at mode l m (suc i) v (omega arith) ∙ ap (row_of mode l) e

-- widths 1 to 5 are at their places
record_at : (mode : Mode) (l : Limits) (w : ℕ) → 0 < w → w ≤ 5 → width_at (record_of mode l) w ≡ row_of mode l w
unfolding record_of range
record_at mode l zero p q = absurd (omega arith)
record_at mode l (suc v) p q = let e : 1 + v ≡ suc v = omega arith in rows_at mode l 5 1 v (omega arith) ∙ ap (row_of mode l) e

-- a width that was built has its walk's row
row_is : (mode : Mode) (l : Limits) (w : ℕ) → w ≤ l.qubits → row_of mode l w ≡ width_of (walk_of mode l w)
row_is mode l w q = rw (le-ltb l.qubits w q)

-- ---- a built table

module _ {mode : Mode} (t : Table) (a : Arrays) (b : Built mode t a) where
  -- each width up to Q has its walk's count, depth and whether it is saturated
  pub width_is : (w : ℕ) → 0 < w → w ≤ t.limits.qubits → width_at t w ≡ width_of (walk_of mode t.limits w)
  width_is w p q =
      let e : w ≤ 5 = omega (arith, (accepted t.limits b.accepted).widths) in
      ap (λ (z : Table). width_at z w) b.returned ∙ record_at mode t.limits w p e ∙ row_is mode t.limits w q

  -- so it has as many entries as its walk has nodes
  pub count_at_lem : (w : ℕ) → 0 < w → w ≤ t.limits.qubits → count_at t w ≡ length (walk_of mode t.limits w).nodes
  count_at_lem w p q = rw (has_width t w p q) (ap (λ (v : Width). v.count) (width_is w p q))

  -- no count is 0, and none is above E
  pub counts : (w : ℕ) → 0 < w → w ≤ t.limits.qubits → (0 < (width_at t w).count) × ((width_at t w).count ≤ t.limits.entries)
  counts w p q =
      let c = walk_count mode t.limits w (accepted t.limits b.accepted).some in
      rw (width_is w p q) c

  -- row 13 does not refuse for the count of any width
  good_count : (w : ℕ) → 0 < w → bad_count t w ≡ false
  good_count w p = by (ltb t.limits.qubits w) refl
    where
      by : (s : Bool) → ltb t.limits.qubits w ≡ s
          → (not s && (eqb (width_at t w).count 0 || ltb t.limits.entries (width_at t w).count)) ≡ false
      by true e = refl
      by false e =
          let c = counts w p (ltb-false t.limits.qubits w e) in
          rw (ne_eqb (width_at t w).count 0 (omega (arith, c.0)), le-ltb t.limits.entries (width_at t w).count c.1)

  good_counts : (ws : List ℕ) → all (ltb 0) ws ≡ true → any (bad_count t) ws ≡ false
  unfolding all
  good_counts [] p = refl
  good_counts (w ∷ ws) p =
      rw (good_count w (ltb-true 0 w (and_left (ltb 0 w) (all (ltb 0) ws) p))) (good_counts ws (and_right (ltb 0 w) (all (ltb 0) ws) p))

  -- row 13 does not refuse the record
  pub good_record : (record_row t).holds ≡ false
  unfolding all
  good_record = rw (eq-eqb (first_row (limit_rows t.limits)) 0 b.accepted, good_counts all_widths refl)
