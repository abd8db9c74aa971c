-- The scan and the index side by side: the statements of specs/EitherLookup. Assumes nothing.
use mathlib.Core.Path.{◌≡◌, refl, sym, ap, ◌∙◌, subst}
use mathlib.Core.Bool.{Bool, true, false}
use mathlib.Core.List.{List, [], ◌++◌}
use Prim.Native.Nat.{ℕ, zero, suc, ◌<◌}
use native.Mathlib.Omega.{arith}
use lib.ListN.{length}
use Rattle.ints.proofs.Bools.{clash}
use Rattle.exact.specs.Matrix.{Exact}
use Rattle.exact.specs.Fingerprint.{fingerprint}
use Rattle.walk.specs.Modes.{Mode}
use Rattle.walk.specs.Index.{By, scan, indexed}
use Rattle.walk.specs.Lookup.{Lookup, found}
use Rattle.walk.specs.Lookup as lookup
use Rattle.walk.specs.Chains.{chain_of}
use Rattle.walk.specs.Finds.{WidthLimits, Part, Finding, by_chain, by_lookup, looked_in, find_from, find_by}
use Rattle.walk.specs.Answers.{refused, outcome, write_of, then_write}
use Rattle.tables.specs.Checks.{Row, first_row, Limits, Arrays, arrays_by, in_parts, index_row}
use Rattle.tables.specs.Tables.{Table, walk_of, prints_of, index_to, table, left, build_of, Query, matrix_of, not_a_width, count_at, part_of, limits_at, part_at, look_rows_of}
use Rattle.tables.specs.Tables.{filled_index, FillReply, filled, not_filled, FillLeft, fill_left, fill_of, find_rows, found_in, written_in, answer_rows, synthesized}
use Rattle.tables.specs.Built.{FilledFrom}
use Rattle.tables.specs.EitherLookup.{scanned, through, EitherLookup}
use Rattle.tables.proofs.Counts.{a_width, good_record}
use Rattle.tables.proofs.Accepted.{record_limits}
use Rattle.tables.proofs.Indexes.{indexed_parts, all_again, all_anew, scan_leaves, index_to_length, fill_keeps, looks_scan}
use Rattle.tables.proofs.FromBuild.{build_passed, rows_none, build_fills, build_returned, build_built}
use Rattle.tables.proofs.Rows.{rows_pass}
use Rattle.tables.proofs.Asked.{good_look, look_passed, fill_passed, fill_refused, part_found, find_passed, find_refused, no_part, answer_refused}

-- ---- a find by two parts whose nodes have the same chains and that look up the same from each start

module _ (limits : WidthLimits) (part other : Part) (u : part.parents ≡ other.parents) (c : part.codes ≡ other.codes) (x : Exact)
    (same : (from y : ℕ) → looked_in part from y ≡ looked_in other from y) where
  -- what a node gives does not depend on how it was found
  given_same : (further others : ℕ → Finding) → ((k : ℕ) → further k ≡ others k) → (g : Lookup) → by_lookup limits part x further g ≡ by_lookup limits other x others g
  given_same further others e (found k) =
      λ j. by_chain limits.width x k (e (suc k) j) (chain_of limits.width limits.basis (u j) (c j) limits.gates k)
  given_same further others e lookup.none = refl

  from_same : (y m from : ℕ) → find_from limits part y x m from ≡ find_from limits other y x m from
  unfolding find_from
  from_same y zero from = refl
  from_same y (suc m) from =
      ap (by_lookup limits part x (λ next. find_from limits part y x m next)) (same from y)
      ∙ given_same (find_from limits part y x m) (find_from limits other y x m) (from_same y m) (looked_in other from y)

-- ---- a table whose index was filled from it

-- a write does not look up
write_same : (t : Table) (a : Arrays) (w k : ℕ) (out : List ℕ) → written_in t a w k out ≡ written_in t (scanned a) w k out
unfolding written_in write_of
write_same t a w k out = refl

module _ (t : Table) (a : Arrays) (x : FilledFrom t a) where
  -- 17 does not refuse either
  rows_same : (rs : List Row) → first_row (look_rows_of t a.by a ++ rs) ≡ first_row (look_rows_of t scan (scanned a) ++ rs)
  unfolding first_row
  rows_same rs = rw x.parts

  module _ (q : Query) where
    part_same : first_row (find_rows t a q) ≡ 0 → part_found t a q ≡ part_found t (scanned a) q
    unfolding find_by
    part_same e = by (not_a_width t q.width) refl
      where
        by : (b : Bool) → not_a_width t q.width ≡ b → part_found t a q ≡ part_found t (scanned a) q
        by true h = no_part t a q h ∙ sym (no_part t (scanned a) q h)
        by false h =
            let w = a_width t q.width h in
            from_same (limits_at t.limits q.width) (part_at t a q.width) (part_at t (scanned a) q.width) refl refl (matrix_of q)
            (looks_scan t a x (good_look t a.by a _ e).0 q.width w.0 w.1) (fingerprint q.width (matrix_of q)) (count_at t q.width) 0

    find_same : found_in t a q ≡ found_in t (scanned a) q
    find_same = by (first_row (find_rows t a q)) refl
      where
        by : (r : ℕ) → first_row (find_rows t a q) ≡ r → found_in t a q ≡ found_in t (scanned a) q
        by zero e = find_passed t a q e ∙ part_same e ∙ sym (find_passed t (scanned a) q (sym (rows_same _) ∙ e))
        by (suc r) e = find_refused t a q (suc r) (omega arith) e ∙ sym (find_refused t (scanned a) q (suc r) (omega arith) (sym (rows_same _) ∙ e))

    answer_same : (out : List ℕ) → synthesized t a q out ≡ synthesized t (scanned a) q out
    unfolding synthesized
    answer_same out = by (first_row (answer_rows t a q out)) refl
      where
        asked : then_write (λ k. written_in t a q.width k out) out (found_in t a q) ≡ then_write (λ k. written_in t (scanned a) q.width k out) out (found_in t (scanned a) q)
        asked = λ j. then_write (λ k. write_same t a q.width k out j) out (find_same j)

        by : (r : ℕ) → first_row (answer_rows t a q out) ≡ r → synthesized t a q out ≡ synthesized t (scanned a) q out
        by zero e =
            rows_pass (answer_rows t a q out) _ (λ r p. outcome (refused r p) out) e ∙ asked
            ∙ sym (rows_pass (answer_rows t (scanned a) q out) _ (λ r p. outcome (refused r p) out) (sym (rows_same _) ∙ e))
        by (suc r) e = answer_refused t a q out (suc r) (omega arith) e ∙ sym (answer_refused t (scanned a) q out (suc r) (omega arith) (sym (rows_same _) ∙ e))

-- ---- a fill

abbrev is_filled : FillReply → Bool
is_filled filled = true
is_filled (not_filled r p) = false

module _ (t : Table) (a : Arrays) where
  -- one that is not refused met no row, and left what the definition says
  fill_returned : (i : List ℕ) → fill_of t a ≡ fill_left filled i → (first_row (look_rows_of t indexed a) ≡ 0) × (filled_index t a ≡ i)
  fill_returned i n = by (first_row (look_rows_of t indexed a)) refl
    where
      by : (r : ℕ) → first_row (look_rows_of t indexed a) ≡ r → (first_row (look_rows_of t indexed a) ≡ 0) × (filled_index t a ≡ i)
      by zero e = (e, ap (λ (z : FillLeft). z.index) (sym (fill_passed t a e) ∙ n))
      by (suc r) e = clash refl (ap (λ (z : FillLeft). is_filled z.reply) (sym n ∙ fill_refused t a (suc r) (omega arith) e))

  -- what is filled once more is the same
  filled_again : filled_index t (through a (filled_index t a)) ≡ filled_index t a
  unfolding filled_index
  filled_again = all_again t.limits indexed (λ w. part_of w t.limits.entries a.prints) (count_at t) a.index

  fill_filled : (i : List ℕ) → fill_of t a ≡ fill_left filled i → FilledFrom t (through a i)
  fill_filled i n =
      let (e, z) = fill_returned i n in
      subst (λ (j : List ℕ). FilledFrom t (through a j)) z (record {
        parts = ap (λ (m : ℕ). (index_row t.limits indexed m).holds) (fill_keeps t a) ∙ (good_look t indexed a [] e).2;
        is = λ h. sym filled_again;
      })

  pub fill_again : (i : List ℕ) → fill_of t a ≡ fill_left filled i → fill_of t (through a i) ≡ fill_left filled i
  unfolding first_row
  fill_again i n =
      let (e, z) = fill_returned i n in
      let x = fill_filled i n in
      let (r, m, p, o) = good_look t indexed a [] e in
      fill_passed t (through a i) (look_passed t indexed (through a i) [] r m x.parts) ∙ ap (fill_left filled) (sym (x.is refl))

  -- each place is given anew
  filled_anew : (other : List ℕ) → length other ≡ length a.index → in_parts t.limits (length a.index) ≡ true → 0 < t.limits.entries
      → filled_index t (through a other) ≡ filled_index t a
  unfolding filled_index
  filled_anew other h e p = all_anew t.limits (λ w. part_of w t.limits.entries a.prints) (count_at t) a.index other e p h

  fill_anew : (i : List ℕ) → fill_of t a ≡ fill_left filled i → (other : List ℕ) → length other ≡ length a.index → fill_of t (through a other) ≡ fill_left filled i
  unfolding first_row
  fill_anew i n other h =
      let (e, z) = fill_returned i n in
      let (r, m, p, o) = good_look t indexed a [] e in
      fill_passed t (through a other) (look_passed t indexed (through a other) [] r m (ap (λ (k : ℕ). (index_row t.limits indexed k).holds) h ∙ p))
      ∙ ap (fill_left filled) (filled_anew other h (indexed_parts t.limits indexed (length a.index) refl p) (record_limits t r).some ∙ z)

  fill_length : length (fill_of t a).index ≡ length a.index
  fill_length = by (first_row (look_rows_of t indexed a)) refl
    where
      by : (r : ℕ) → first_row (look_rows_of t indexed a) ≡ r → length (fill_of t a).index ≡ length a.index
      by zero e = ap (λ (z : FillLeft). length z.index) (fill_passed t a e) ∙ fill_keeps t a
      by (suc r) e = ap (λ (z : FillLeft). length z.index) (fill_refused t a (suc r) (omega arith) e)

-- ---- a build

module _ (mode : Mode) (l : Limits) (a b : Arrays) (t : Table) (n : build_of mode l a ≡ left (table t) b) where
  build_same : build_of mode l (scanned a) ≡ left (table t) (scanned b)
  build_same =
      let (e, u, x) = build_returned mode l a b t n in
      let (g, h, i) = build_passed l a e in
      build_fills mode l (scanned a) (rows_none l (scanned a) g h refl)
      ∙ (λ k. left (table (u k)) (arrays_by scan (x k).prints (x k).parents (x k).codes (scan_leaves l (prints_of mode l) (λ v. length (walk_of mode l v).nodes) [] k)))

  build_filled : a.by ≡ indexed → fill_of t b ≡ fill_left filled b.index
  unfolding first_row
  build_filled e =
      let (c, z, f) = build_built mode l a b t n in
      let h : b.by ≡ indexed = sym (ap (λ (y : Arrays). y.by) (build_returned mode l a b t n).2) ∙ e in
      fill_passed t b (look_passed t indexed b [] (good_record t b c) c.room (ap (λ (y : By). (index_row t.limits y (length b.index)).holds) (sym h) ∙ f.parts))
      ∙ ap (fill_left filled) (sym (f.is h))

  build_anew : a.by ≡ indexed → (other : List ℕ) → length other ≡ length a.index → fill_of t (through b other) ≡ fill_left filled b.index
  build_anew e other h =
      fill_anew t b b.index (build_filled e) other
      (h ∙ sym (index_to_length mode l a.by l.qubits a.index (omega arith)) ∙ ap (λ (y : Arrays). length y.index) (build_returned mode l a b t n).2)

  build_leaves : a.by ≡ scan → b.index ≡ a.index
  build_leaves e =
      sym (ap (λ (y : Arrays). y.index) (build_returned mode l a b t n).2) ∙ ap (λ (y : By). index_to mode l y l.qubits a.index) e
      ∙ scan_leaves l (prints_of mode l) (λ v. length (walk_of mode l v).nodes) a.index

pub either_lookup : EitherLookup
either_lookup = record {
  looks_same = looks_scan;
  find_same = find_same;
  answer_same = answer_same;
  write_same = write_same;
  fill_filled = fill_filled;
  fill_anew = fill_anew;
  build_same = build_same;
  build_filled = λ mode l a b t e n. build_anew mode l a b t n e;
  scan_leaves = λ mode l a b t e n. build_leaves mode l a b t n e;
  fill_length = fill_length;
}
