-- The index of a table: where the part of each width lies, that a part filled from a table, damaged or not, leads to
-- the node that the scan finds, and that a fill from a built table leaves what its build leaves. Assumes nothing.
use mathlib.Core.Path.{◌≡◌, refl, sym, ap, ◌∙◌}
use mathlib.Core.Bool.{true, false}
use mathlib.Core.List.{List}
use Prim.Native.Nat.{ℕ, zero, suc, ◌+◌, ◌-◌, ◌*◌, ◌^◌, ◌≤◌, ◌<◌}
use native.Mathlib.Omega.{arith}
use native.Mathlib.Nat.{mul-le-mul_right, mul-div-le, div-eq_of_eq-mul_right, zero-mul}
use borrow.Author.Tests.{not-false}
use lib.ListN.{length, get_or, take, drop}
use lib.Seq.{get_or-take, get_or-drop}
use Rattle.walk.specs.Lookup.{Lookup, lowest_from}
use Rattle.walk.specs.Modes.{Mode}
use Rattle.walk.specs.AtWidth.{print_of}
use Rattle.walk.specs.Index.{By, scan, indexed, looked_up, filled, kept}
use Rattle.walk.specs.Finds.{looked_in}
use Rattle.walk.specs.Walk.{root}
use Rattle.walk.proofs.Sequences.{map_at}
use Rattle.walk.proofs.Indexed.{kept_looks_up, kept_length, kept_cong}
use Rattle.tables.specs.Checks.{Limits, Arrays, in_parts, index_row}
use Rattle.tables.specs.Tables.{Table, walk_of, prints_of, parts_to, part_size, index_to, record_row, count_at, part_of, part_at, filled_index}
use Rattle.tables.specs.Built.{Built, FilledFrom}
use Rattle.tables.specs.EitherLookup.{PartSizes}
use Rattle.tables.proofs.InWords.{in_parts_to, not-both}
use Rattle.tables.proofs.Accepted.{accepted, record_limits}
use Rattle.tables.proofs.Filled.{part_length, room_at, parts_length, parts_part, parts_same, parts_cong, parts_anew}
use Rattle.tables.proofs.Counts.{record_count, walk_count, count_at_lem}

-- ---- the parts of so many places

some_factor : (q m p : ℕ) → 0 < p → p ≡ q * m → 0 < q
some_factor zero m p h e = absurd (omega (arith, h, e, zero-mul m))
some_factor (suc q) m p h e = omega arith

module _ (l : Limits) (places : ℕ) where
  -- however many there are, the parts of all widths lie in them
  pub parts_fit : l.qubits * part_size l places ≤ places
  parts_fit = mul-div-le places l.qubits

  pub part_fits : (v : ℕ) → v < l.qubits → v * part_size l places + part_size l places ≤ places
  part_fits v h = omega (arith, room_at v l.qubits (part_size l places) h, parts_fit)

  -- where row 17 does not refuse them they are all, and each is a power of two, at least twice E
  pub part_sizes : in_parts l places ≡ true → PartSizes l places
  part_sizes e =
      let w = in_parts_to l places e in
      let z : part_size l places ≡ 2 ^ w.power = div-eq_of_eq-mul_right (some_factor l.qubits (2 ^ w.power) places w.some w.in_all) w.in_all in
      record { power = w.power; size = z; in_all = ap (λ (m : ℕ). l.qubits * m) z ∙ sym w.in_all; large = omega (arith, z, w.large) }

-- row 17 refuses what is not in parts, where nodes are looked up through the index
pub indexed_parts : (l : Limits) (by : By) (places : ℕ) → by ≡ indexed → (index_row l by places).holds ≡ false → in_parts l places ≡ true
indexed_parts l scan places e h = not-both refl e
indexed_parts l indexed places e h = not-false _ h

-- the part of a width lies behind those of the widths below it
part_of_lem : (v n : ℕ) (xs : List ℕ) → part_of (suc v) n xs ≡ take n (drop (v * n) xs)
part_of_lem v n xs = let e : suc v - 1 ≡ v = omega arith in ap (λ (z : ℕ). take n (drop (z * n) xs)) e

-- ---- parts that go each with some nodes

-- a part that goes with its nodes already
kept_again : (by : By) (fps : List ℕ) (count : ℕ) (old : List ℕ) → kept by fps count (kept by fps count old) ≡ kept by fps count old
kept_again scan fps count old = refl
kept_again indexed fps count old = ap (λ (n : ℕ). filled fps n count) (kept_length indexed fps old count)

module _ (l : Limits) (by : By) (prints : ℕ → List ℕ) (count : ℕ → ℕ) where
  -- an index after the parts of widths 1 to w were made to go with so many nodes of these fingerprints
  abbrev pub kept_to : ℕ → List ℕ → List ℕ
  kept_to w index = parts_to (λ v. kept by (prints v) (count v)) (part_size l (length index)) w index

  -- of all widths
  abbrev pub all_kept : List ℕ → List ℕ
  all_kept index = kept_to l.qubits index

  keeps : (n w : ℕ) (xs : List ℕ) → length xs ≡ n → length (kept by (prints w) (count w) xs) ≡ n
  keeps n w xs e = kept_length by (prints w) xs (count w) ∙ e

  pub kept_to_length : (w : ℕ) (index : List ℕ) → w ≤ l.qubits → length (kept_to w index) ≡ length index
  kept_to_length w index h =
      parts_length (λ v. kept by (prints v) (count v)) (part_size l (length index)) (keeps (part_size l (length index))) w index
      (omega (arith, mul-le-mul_right (part_size l (length index)) h, parts_fit l (length index)))

  pub all_length : (index : List ℕ) → length (all_kept index) ≡ length index
  all_length index = kept_to_length l.qubits index (omega arith)

  all_part : (index : List ℕ) (v : ℕ) → v < l.qubits
      → take (part_size l (length index)) (drop (v * part_size l (length index)) (all_kept index))
      ≡ kept by (prints (suc v)) (count (suc v)) (take (part_size l (length index)) (drop (v * part_size l (length index)) index))
  all_part index v h =
      parts_part (λ v. kept by (prints v) (count v)) (part_size l (length index)) (keeps (part_size l (length index))) l.qubits v index (parts_fit l (length index)) h

  -- the same, of the part of width w
  pub all_at : (index : List ℕ) (w : ℕ) → 0 < w → w ≤ l.qubits
      → part_of w (part_size l (length index)) (all_kept index) ≡ kept by (prints w) (count w) (part_of w (part_size l (length index)) index)
  all_at index zero p h = absurd (omega arith)
  all_at index (suc v) p h =
      part_of_lem v (part_size l (length index)) (all_kept index) ∙ all_part index v (omega arith)
      ∙ ap (kept by (prints (suc v)) (count (suc v))) (sym (part_of_lem v (part_size l (length index)) index))

  -- once more changes nothing
  pub all_again : (index : List ℕ) → all_kept (all_kept index) ≡ all_kept index
  all_again index =
      ap (λ (m : ℕ). parts_to (λ v. kept by (prints v) (count v)) (part_size l m) l.qubits (all_kept index)) (all_length index)
      ∙ parts_same (λ v. kept by (prints v) (count v)) (part_size l (length index)) l.qubits (all_kept index)
      (λ v h. ap (kept by (prints (suc v)) (count (suc v))) (all_part index v h)
      ∙ kept_again by (prints (suc v)) (count (suc v)) _ ∙ sym (all_part index v h))

-- the scan leaves an index
pub scan_leaves : (l : Limits) (prints : ℕ → List ℕ) (count : ℕ → ℕ) (index : List ℕ) → all_kept l scan prints count index ≡ index
scan_leaves l prints count index = parts_same (λ v. kept scan (prints v) (count v)) (part_size l (length index)) l.qubits index (λ v h. refl)

-- through the index each place is given anew
pub all_anew : (l : Limits) (prints : ℕ → List ℕ) (count : ℕ → ℕ) (index other : List ℕ) → in_parts l (length index) ≡ true → 0 < l.entries
    → length other ≡ length index → all_kept l indexed prints count other ≡ all_kept l indexed prints count index
all_anew l prints count index other e p h =
    let s = part_sizes l (length index) e in
    ap (λ (m : ℕ). parts_to (λ v. kept indexed (prints v) (count v)) (part_size l m) l.qubits other) h
    ∙ parts_anew (λ v. kept indexed (prints v) (count v)) (part_size l (length index)) (λ w xs z. kept_length indexed (prints w) xs (count w) ∙ z)
    (λ w xs ys z. ap (λ (n : ℕ). filled (prints w) n (count w)) z) l.qubits other index (omega (arith, s.large)) (s.in_all ∙ sym h) h

-- what a build does to an index up to width w keeps its length
pub index_to_length : (mode : Mode) (l : Limits) (by : By) (w : ℕ) (index : List ℕ) → w ≤ l.qubits → length (index_to mode l by w index) ≡ length index
index_to_length mode l by = kept_to_length l by (prints_of mode l) _

-- ---- an index filled from a table, whatever the table holds

module _ (t : Table) (a : Arrays) where
  -- the part of a width that the table has
  fill_part : (w : ℕ) → 0 < w → w ≤ t.limits.qubits
      → part_of w (part_size t.limits (length a.index)) (filled_index t a)
      ≡ kept indexed (part_of w t.limits.entries a.prints) (count_at t w) (part_of w (part_size t.limits (length a.index)) a.index)
  unfolding filled_index
  fill_part = all_at t.limits indexed (λ w. part_of w t.limits.entries a.prints) (count_at t) a.index

  pub fill_keeps : length (filled_index t a) ≡ length a.index
  unfolding filled_index
  fill_keeps = all_length t.limits indexed (λ w. part_of w t.limits.entries a.prints) (count_at t) a.index

  -- each part has its places
  index_part : (w : ℕ) → 0 < w → w ≤ t.limits.qubits
      → length (part_of w (part_size t.limits (length a.index)) a.index) ≡ part_size t.limits (length a.index)
  index_part w p h =
      part_length ((w - 1) * part_size t.limits (length a.index)) (part_size t.limits (length a.index)) a.index
      (part_fits t.limits (length a.index) (w - 1) (omega arith))

  -- where the record is not refused, a fingerprint leads to the node that the scan finds
  pub looks_scan : FilledFrom t a → (record_row t).holds ≡ false → (w : ℕ) → 0 < w → w ≤ t.limits.qubits → (from y : ℕ)
      → looked_in (part_at t a w) from y ≡ lowest_from (part_of w t.limits.entries a.prints) (count_at t w) from y
  looks_scan f r w p h from y = by a.by refl
    where
      size : ℕ
      size = part_size t.limits (length a.index)

      fps : List ℕ
      fps = part_of w t.limits.entries a.prints

      through : By → List ℕ → Lookup
      through b index = looked_up b index fps (count_at t w) from y

      by : (b : By) → a.by ≡ b → looked_in (part_at t a w) from y ≡ lowest_from fps (count_at t w) from y
      by scan e = ap (λ (b : By). through b (part_of w size a.index)) e
      by indexed e =
          let s = part_sizes t.limits (length a.index) (indexed_parts t.limits a.by (length a.index) e f.parts) in
          let c = record_count t w r in
          let l = record_limits t r in
          let n = index_part w p h in
          ap (λ (b : By). through b (part_of w size a.index)) e
          ∙ ap (λ (i : List ℕ). through indexed i) (ap (part_of w size) (f.is e) ∙ fill_part w p h)
          ∙ kept_looks_up indexed fps (part_of w size a.index) (count_at t w) from y (λ z. (omega (arith, c, n, s.large), omega (arith, c, l.entries)))

-- ---- a built table

module _ {mode : Mode} (t : Table) (a : Arrays) (b : Built mode t a) where
  -- the fingerprints of a width's part are those of its nodes
  pub prints_at : (w : ℕ) → 0 < w → w ≤ t.limits.qubits → (j : ℕ) → j < length (walk_of mode t.limits w).nodes
      → get_or (part_of w t.limits.entries a.prints) j 0 ≡ get_or (prints_of mode t.limits w) j 0
  unfolding prints_of
  prints_at w p h j l =
      let c = (walk_count mode t.limits w (accepted t.limits b.accepted).some).1 in
      get_or-take t.limits.entries (drop ((w - 1) * t.limits.entries) a.prints) j 0 (omega (arith, c))
      ∙ get_or-drop ((w - 1) * t.limits.entries) a.prints j 0 ∙ (b.nodes w p h j l).print ∙ sym (map_at (print_of w) root (walk_of mode t.limits w).nodes j l)

  -- a fill leaves what a build of the limits leaves
  pub fill_is_build : filled_index t a ≡ index_to mode t.limits indexed t.limits.qubits a.index
  unfolding filled_index
  fill_is_build =
      parts_cong (λ w. kept indexed (part_of w t.limits.entries a.prints) (count_at t w))
      (λ w. kept indexed (prints_of mode t.limits w) (length (walk_of mode t.limits w).nodes)) (part_size t.limits (length a.index)) t.limits.qubits a.index
      (λ v h xs. let c = count_at_lem t a b (suc v) (omega arith) h in
      ap (λ (m : ℕ). kept indexed (part_of (suc v) t.limits.entries a.prints) m xs) c
      ∙ kept_cong indexed _ _ xs (length (walk_of mode t.limits (suc v)).nodes) (prints_at (suc v) (omega arith) h))
