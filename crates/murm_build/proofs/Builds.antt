-- What a build and a fill answer, by the row that refuses, or that none does. Assumes nothing.
use mathlib.Core.Path.{◌≡◌, refl, sym, ap, ◌∙◌}
use mathlib.Core.List.{List, []}
use Prim.Native.Nat.{ℕ}
use Rattle.refusal.specs.Told.{Reason, number_of, position_of}
use Rattle.refusal.specs.declared.Refusal.{Refusal}
use Rattle.refusal.proofs.Numbers.{Refuses}
use Rattle.walk.specs.Modes.{Mode}
use Rattle.walk.specs.Index.{indexed}
use Rattle.tables.specs.Checks.{first_row, Limits, Arrays, arrays_by}
use Rattle.tables.specs.Tables.{Table, record_of, prints_of, parents_of, codes_of, filled_to, index_to, table, refusal, left, build_rows, build_of}
use Rattle.tables.specs.Tables.{look_rows_of, filled_index, filled, not_filled, fill_left, fill_of}
use Rattle.tables.proofs.FromBuild.{build_refusal, build_fills}
use Rattle.tables.proofs.Asked.{fill_passed, fill_refused}

module _ (mode : Mode) (l : Limits) (a : Arrays) where
  -- a row refuses
  pub refused_build : {r : Refusal} → Refuses r (first_row (build_rows l a)) → left (refusal (number_of r) (position_of r)) a ≡ build_of mode l a
  refused_build x = ap (λ (z : Reason). left (refusal z.number z.position) a) x.told ∙ sym (build_refusal mode l a _ x.some refl)

  -- none: the record, the three arrays filled up to Q, and the index
  pub passed_build : first_row (build_rows l a) ≡ 0 → (t : Table) (f u c i : List ℕ) → t ≡ record_of mode l
      → f ≡ filled_to (prints_of mode l) l.entries l.qubits a.prints
      → u ≡ filled_to (parents_of mode l) l.entries l.qubits a.parents
      → c ≡ filled_to (codes_of mode l) l.entries l.qubits a.codes
      → i ≡ index_to mode l a.by l.qubits a.index
      → left (table t) (arrays_by a.by f u c i) ≡ build_of mode l a
  passed_build e t f u c i et ef eu ec ei = rw (et, ef, eu, ec, ei) (sym (build_fills mode l a e))

-- ---- a fill

module _ (t : Table) (f u c i : List ℕ) where
  pub refused_fill : {r : Refusal} → Refuses r (first_row (look_rows_of t indexed (arrays_by indexed f u c i)))
      → fill_left (not_filled (number_of r) (position_of r)) i ≡ fill_of t (arrays_by indexed f u c i)
  refused_fill x =
      ap (λ (z : Reason). fill_left (not_filled z.number z.position) i) x.told ∙ sym (fill_refused t (arrays_by indexed f u c i) _ x.some refl)

  -- the parents and codes play no part in what is left
  pub passed_fill : first_row (look_rows_of t indexed (arrays_by indexed f u c i)) ≡ 0 → {i' : List ℕ} → i' ≡ filled_index t (arrays_by indexed f [] [] i)
      → fill_left filled i' ≡ fill_of t (arrays_by indexed f u c i)
  unfolding filled_index
  passed_fill e h = ap (fill_left filled) h ∙ sym (fill_passed t (arrays_by indexed f u c i) e)
