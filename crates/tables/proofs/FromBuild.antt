-- What a build leaves: a built table of its limits, and an index that is filled from it, where no row refuses, and
-- otherwise what it found. Assumes nothing.
use mathlib.Core.Path.{◌≡◌, refl, sym, ap, ◌∙◌, subst}
use mathlib.Core.Bool.{Bool, true, false}
use mathlib.Core.List.{List, [], ◌∷◌, map}
use Prim.Native.Nat.{ℕ, zero, suc, ◌+◌, ◌-◌, ◌*◌, ◌≤◌, ◌<◌}
use native.Mathlib.Omega.{arith}
use borrow.Author.Tests.{eqb-true}
use lib.Dec.{eqb}
use lib.ListN.{length, get_or, length-map}
use Rattle.ints.proofs.Bools.{clash}
use Rattle.exact.proofs.Values.{pick_ind}
use Rattle.walk.specs.Walk.{Node, root, gate}
use Rattle.walk.specs.Modes.{Mode}
use Rattle.walk.specs.AtWidth.{print_of, parent_of}
use Rattle.walk.specs.Index.{By, scan, indexed}
use Rattle.walk.proofs.Sequences.{map_at}
use Rattle.tables.specs.Checks.{first_row, Limits, limit_rows, Arrays, arrays_by, places_of, room_row, index_row, parts_row}
use Rattle.tables.specs.Tables.{Table, walk_of, record_of, prints_of, parents_of, codes_of, filled_to, index_to, built_to}
use Rattle.tables.specs.Tables.{BuildReply, table, refusal, Left, left, build_rows, build_of}
use Rattle.tables.specs.Built.{Built, FilledFrom}
use Rattle.tables.proofs.Rows.{numbered_limits, index_number, NoPositions, no_positions_append, no_positions_index, no_positions_limits, rows_pass, rows_refuse_at_0, first_none, first_past, first_last, first_row_append, append_none}
use Rattle.tables.proofs.Accepted.{accepted, roomy, room_is}
pub use Rattle.tables.proofs.Counts.{walk_count}
use Rattle.tables.proofs.Filled.{filled_length, filled_at, filled_same}
use Rattle.tables.proofs.Indexes.{all_again, scan_leaves, index_to_length, fill_is_build}

-- ---- an array filled by what p says of the nodes of each width

module _ (mode : Mode) (l : Limits) (some : 0 < l.entries) (p : ℕ → Node → ℕ) (column : ℕ → List ℕ) (is : (w : ℕ) → column w ≡ map (p w) (walk_of mode l w).nodes) where
  -- a column has a number for each node of its width
  pub column_count : (w : ℕ) → length (column w) ≡ length (walk_of mode l w).nodes
  column_count w = ap length (is w) ∙ length-map (walk_of mode l w).nodes (p w)

  pub column_short : (w : ℕ) → length (column w) ≤ l.entries
  column_short w = omega (arith, column_count w, (walk_count mode l w some).1)

  -- the array has as many places as it had
  pub column_length : (old : List ℕ) → places_of l ≤ length old → length (filled_to column l.entries l.qubits old) ≡ length old
  column_length old = filled_length column l.entries column_short l.qubits old

  -- the place of node j of width w holds what p says of it
  pub column_at : (old : List ℕ) → places_of l ≤ length old → (w : ℕ) → 0 < w → w ≤ l.qubits → (j : ℕ) → j < length (walk_of mode l w).nodes
      → get_or (filled_to column l.entries l.qubits old) ((w - 1) * l.entries + j) 0 ≡ p w (get_or (walk_of mode l w).nodes j root)
  column_at old r zero h q j b = absurd (omega arith)
  column_at old r (suc v) h q j b =
      let e : suc v - 1 ≡ v = omega arith in
      rw e (filled_at column l.entries column_short l.qubits v j old r (omega arith) (omega (arith, column_count (suc v)))
      ∙ ap (λ (xs : List ℕ). get_or xs j 0) (is (suc v)) ∙ map_at (p (suc v)) root (walk_of mode l (suc v)).nodes j b)

-- ---- limits and arrays that no row refuses: the record, and the arrays filled up to Q, are a built table

-- none of the limits, of the arrays and of the index is refused
pub build_passed : (l : Limits) (a : Arrays) → first_row (build_rows l a) ≡ 0
    → (first_row (limit_rows l) ≡ 0) × ((room_row l a).holds ≡ false) × ((parts_row l a).holds ≡ false)
build_passed l a e =
    let (g, h) = append_none (limit_rows l) (room_row l a ∷ parts_row l a ∷ []) (numbered_limits l) e in
    let (i, j) = first_none (room_row l a) (parts_row l a ∷ []) (omega arith) h in
    (g, i, (first_none (parts_row l a) [] (omega (arith, index_number l a.by (length a.index))) j).0)

built_record : (mode : Mode) (l : Limits) (a : Arrays) → first_row (build_rows l a) ≡ 0 → Built mode (record_of mode l) (built_to mode l l.qubits a)
unfolding record_of prints_of parents_of codes_of
built_record mode l a e =
    let (g, i, j) = build_passed l a e in
    let r = roomy l a i in
    let h = (accepted l g).some in
    record {
      accepted = g;
      returned = refl;
      room = room_is l (built_to mode l l.qubits a)
          (omega (arith, r.0, column_length mode l h print_of (prints_of mode l) (λ w. refl) a.prints r.0))
          (omega (arith, r.1, column_length mode l h (λ w. parent_of) (parents_of mode l) (λ w. refl) a.parents r.1))
          (omega (arith, r.2, column_length mode l h (λ w. gate) (codes_of mode l) (λ w. refl) a.codes r.2));
      nodes = λ w p q j b. record {
        print = column_at mode l h print_of (prints_of mode l) (λ w. refl) a.prints r.0 w p q j b;
        parent = column_at mode l h (λ w. parent_of) (parents_of mode l) (λ w. refl) a.parents r.1 w p q j b;
        code = column_at mode l h (λ w. gate) (codes_of mode l) (λ w. refl) a.codes r.2 w p q j b;
      };
    }

-- and back
pub rows_none : (l : Limits) (a : Arrays) → first_row (limit_rows l) ≡ 0 → (room_row l a).holds ≡ false → (parts_row l a).holds ≡ false → first_row (build_rows l a) ≡ 0
rows_none l a e r p =
    first_row_append (limit_rows l) (room_row l a ∷ parts_row l a ∷ []) (numbered_limits l) e ∙ first_past (room_row l a) _ r ∙ first_last (parts_row l a) p

-- a second build does not change an index
index_again : (mode : Mode) (l : Limits) (by : By) (index : List ℕ) → index_to mode l by l.qubits (index_to mode l by l.qubits index) ≡ index_to mode l by l.qubits index
index_again mode l by index = all_again l by (prints_of mode l) (λ v. length (walk_of mode l v).nodes) index

filled_record : (mode : Mode) (l : Limits) (a : Arrays) → first_row (build_rows l a) ≡ 0 → FilledFrom (record_of mode l) (built_to mode l l.qubits a)
unfolding record_of
filled_record mode l a e = record {
  parts = ap (λ (m : ℕ). (index_row l a.by m).holds) (index_to_length mode l a.by l.qubits a.index (omega arith)) ∙ (build_passed l a e).2;
  is = λ f. sym (index_again mode l a.by a.index) ∙ ap (λ (z : By). index_to mode l z l.qubits (index_to mode l a.by l.qubits a.index)) f
      ∙ sym (fill_is_build (record_of mode l) (built_to mode l l.qubits a) (built_record mode l a e));
}

-- ---- a build, by the first row that holds

no_positions_build : (l : Limits) (a : Arrays) → NoPositions (build_rows l a)
no_positions_build l a = no_positions_append (limit_rows l) (room_row l a ∷ parts_row l a ∷ []) (no_positions_limits l) (refl, no_positions_index l a.by (length a.index))

-- it is refused by that row's number, and leaves the arrays as they were
pub build_refusal : (mode : Mode) (l : Limits) (a : Arrays) (r : ℕ) → 0 < r → first_row (build_rows l a) ≡ r → build_of mode l a ≡ left (refusal r 0) a
unfolding build_of
build_refusal mode l a = rows_refuse_at_0 (build_rows l a) _ (λ r p. left (refusal r p) a) (no_positions_build l a)

-- there is none: it returns the record, and widths 1 to Q are filled
pub build_fills : (mode : Mode) (l : Limits) (a : Arrays) → first_row (build_rows l a) ≡ 0 → build_of mode l a ≡ left (table (record_of mode l)) (built_to mode l l.qubits a)
unfolding build_of
build_fills mode l a = rows_pass (build_rows l a) _ (λ r p. left (refusal r p) a)

-- ---- a build, by what it answered

-- a record was returned
abbrev is_table : BuildReply → Bool
is_table (table t) = true
is_table (refusal r p) = false

-- the record of a reply, and for a refusal the other one
abbrev table_or : Table → BuildReply → Table
table_or u (table t) = t
table_or u (refusal r p) = u

-- one that returned a record met no row, and returned and left what the definition says
pub build_returned : (mode : Mode) (l : Limits) (a b : Arrays) (t : Table) → build_of mode l a ≡ left (table t) b
    → (first_row (build_rows l a) ≡ 0) × (record_of mode l ≡ t) × (built_to mode l l.qubits a ≡ b)
unfolding build_of
build_returned mode l a b t =
    pick_ind (λ (z : Left). z ≡ left (table t) b → (first_row (build_rows l a) ≡ 0) × (record_of mode l ≡ t) × (built_to mode l l.qubits a ≡ b))
    (eqb (first_row (build_rows l a)) 0)
    (λ e f. (eqb-true (first_row (build_rows l a)) 0 e, ap (λ (z : Left). table_or t z.reply) f, ap (λ (z : Left). z.arrays) f))
    (λ e f. clash (ap (λ (z : Left). is_table z.reply) f) refl)

-- so it left a built table of its limits, and an index that is filled from it
pub build_built : (mode : Mode) (l : Limits) (a b : Arrays) (t : Table) → build_of mode l a ≡ left (table t) b → Built mode t b × (t.limits ≡ l) × FilledFrom t b
unfolding record_of
build_built mode l a b t n =
    let (e, u, x) = build_returned mode l a b t n in (
      subst (λ (z : Arrays). Built mode t z) x (subst (λ (z : Table). Built mode z (built_to mode l l.qubits a)) u (built_record mode l a e)),
      sym (ap (λ (z : Table). z.limits) u),
      subst (λ (z : Arrays). FilledFrom t z) x (subst (λ (z : Table). FilledFrom z (built_to mode l l.qubits a)) u (filled_record mode l a e)),
    )

-- a refused one left the arrays as they were
pub build_refused : (mode : Mode) (l : Limits) (a b : Arrays) (r p : ℕ) → build_of mode l a ≡ left (refusal r p) b → b ≡ a
unfolding build_of
build_refused mode l a b r p =
    pick_ind (λ (z : Left). z ≡ left (refusal r p) b → b ≡ a) (eqb (first_row (build_rows l a)) 0)
    (λ e f. clash refl (ap (λ (z : Left). is_table z.reply) f)) (λ e f. sym (ap (λ (z : Left). z.arrays) f))

-- ---- a build in arrays that hold its nodes

module _ (mode : Mode) (l : Limits) (some : 0 < l.entries) (p : ℕ → Node → ℕ) (column : ℕ → List ℕ) (is : (w : ℕ) → column w ≡ map (p w) (walk_of mode l w).nodes) where
  column_same : (old : List ℕ) → places_of l ≤ length old
      → ((w : ℕ) → 0 < w → w ≤ l.qubits → (j : ℕ) → j < length (walk_of mode l w).nodes
      → get_or old ((w - 1) * l.entries + j) 0 ≡ p w (get_or (walk_of mode l w).nodes j root)) → filled_to column l.entries l.qubits old ≡ old
  column_same old r f =
      filled_same column l.entries (column_short mode l some p column is) l.qubits old r
      (λ v j lt d. let b : j < length (walk_of mode l (suc v)).nodes = omega (arith, column_count mode l some p column is (suc v)) in
      let e : suc v - 1 ≡ v = omega arith in
      ap (λ (z : ℕ). get_or old (z * l.entries + j) 0) (sym e) ∙ f (suc v) (omega arith) (omega arith) j b
      ∙ sym (ap (λ (xs : List ℕ). get_or xs j 0) (is (suc v)) ∙ map_at (p (suc v)) root (walk_of mode l (suc v)).nodes j b))

-- the index: by the scan it is left, and otherwise the fill is the build
index_same : {mode : Mode} (t : Table) (a : Arrays) → Built mode t a → FilledFrom t a → index_to mode t.limits a.by t.limits.qubits a.index ≡ a.index
index_same {mode} t a b f = by a.by refl
  where
    by : (z : By) → a.by ≡ z → index_to mode t.limits a.by t.limits.qubits a.index ≡ a.index
    by scan e =
        ap (λ (z : By). index_to mode t.limits z t.limits.qubits a.index) e
        ∙ scan_leaves t.limits (prints_of mode t.limits) (λ v. length (walk_of mode t.limits v).nodes) a.index
    by indexed e = ap (λ (z : By). index_to mode t.limits z t.limits.qubits a.index) e ∙ sym (fill_is_build t a b) ∙ sym (f.is e)

pub built_again : {mode : Mode} (t : Table) (a : Arrays) → Built mode t a → FilledFrom t a → build_of mode t.limits a ≡ left (table t) a
unfolding prints_of parents_of codes_of
built_again {mode} t a b x =
    let l = t.limits in
    let h = (accepted l b.accepted).some in
    let r = roomy l a b.room in
    let f = column_same mode l h print_of (prints_of mode l) (λ w. refl) a.prints r.0 (λ w p q j d. (b.nodes w p q j d).print) in
    let u = column_same mode l h (λ w. parent_of) (parents_of mode l) (λ w. refl) a.parents r.1 (λ w p q j d. (b.nodes w p q j d).parent) in
    let c = column_same mode l h (λ w. gate) (codes_of mode l) (λ w. refl) a.codes r.2 (λ w p q j d. (b.nodes w p q j d).code) in
    build_fills mode l a (rows_none l a b.accepted b.room x.parts)
    ∙ (λ k. left (table (sym b.returned k)) (arrays_by a.by (f k) (u k) (c k) (index_same t a b x k)))
