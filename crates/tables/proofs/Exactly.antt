-- Which input is refused, exactly: the statements of specs/Exactly, each entry by its rows in words (Entry). Assumes
-- nothing.
use mathlib.Core.Path.{◌≡◌, refl, sym, ap, ◌∙◌}
use mathlib.Core.Logic.{◌↔◌, inl}
use mathlib.Core.List.{List, [], ◌∷◌}
use Prim.Native.Nat.{ℕ, zero, suc}
use native.Mathlib.Omega.{arith}
use Rattle.walk.specs.Modes.{Mode}
use Rattle.walk.specs.Index.{indexed}
use Rattle.walk.specs.Finds as f
use Rattle.walk.specs.Answers.{refused, Outcome, outcome, write_of, then_write}
use Rattle.walk.specs.Meaning.{BadFound, FindMeans}
use Rattle.walk.proofs.Meaning.{first, second, found_first, found_second, find_means, at_below, write_means}
use Rattle.tables.specs.Checks.{first_row, Limits, Arrays}
use Rattle.tables.specs.Tables.{Table, BuildReply, table, refusal, Left, left, record_of, built_to, build_rows, build_of, Query, matrix_of}
use Rattle.tables.specs.Tables.{limits_at, part_at, look_rows_of, filled_index, FillReply, filled, not_filled, FillLeft, fill_left, fill_of, find_rows, found_in, write_rows, written_in, answer_rows, synthesized}
use Rattle.tables.specs.Exactly.{cause, First, NoCause, build_causes, BadChain, look_causes, answer_causes, find_causes, BadNode, write_causes, RefusedWhere, Exactly}
use Rattle.tables.proofs.Counts.{counted}
use Rattle.tables.proofs.Rows.{rows_pass}
use Rattle.tables.proofs.Asked.{part_found, part_asked, answer_passed}
use Rattle.tables.proofs.Replies.{asked_means}
use Rattle.tables.proofs.Entry.{Entry, refused_where, done_where, only}
use Rattle.tables.proofs.ListExactly.{list, formed}
use Rattle.tables.proofs.InWords.{build_in_words, look_in_words, find_in_words, answer_in_words, write_in_words}

-- ---- a build

abbrev build_number : BuildReply → ℕ
build_number (table t) = 0
build_number (refusal r p) = suc r

abbrev build_position : BuildReply → ℕ
build_position (table t) = 0
build_position (refusal r p) = p

module _ (mode : Mode) (l : Limits) (a : Arrays) where
  build_apart : (r p : ℕ) (m : Arrays) → left (table (record_of mode l)) (built_to mode l l.qubits a) ≡ left (refusal r p) m → ⊥
  build_apart r p m n = omega (arith, ap (λ (z : Left). build_number z.reply) n)

  build_entry : Entry (build_of mode l a) (left (table (record_of mode l)) (built_to mode l l.qubits a)) (λ r p m. left (refusal r p) m) a (build_rows l a) []
  unfolding build_of
  build_entry = record {
    is = refl;
    same = λ r p s q m n e.
        (omega (arith, ap (λ (z : Left). build_number z.reply) e), ap (λ (z : Left). build_position z.reply) e, ap (λ (z : Left). z.arrays) e);
    later = λ f r p m. (λ n. absurd (build_apart r p m n), λ y. absurd y.0);
  }

-- ---- a fill

abbrev fill_number : FillReply → ℕ
fill_number filled = 0
fill_number (not_filled r p) = suc r

abbrev fill_position : FillReply → ℕ
fill_position filled = 0
fill_position (not_filled r p) = p

module _ (t : Table) (a : Arrays) where
  fill_apart : (r p : ℕ) (m : List ℕ) → fill_left filled (filled_index t a) ≡ fill_left (not_filled r p) m → ⊥
  fill_apart r p m n = omega (arith, ap (λ (z : FillLeft). fill_number z.reply) n)

  fill_entry : Entry (fill_of t a) (fill_left filled (filled_index t a)) (λ r p m. fill_left (not_filled r p) m) a.index (look_rows_of t indexed a) []
  unfolding fill_of
  fill_entry = record {
    is = refl;
    same = λ r p s q m n e.
        (omega (arith, ap (λ (z : FillLeft). fill_number z.reply) e), ap (λ (z : FillLeft). fill_position z.reply) e, ap (λ (z : FillLeft). z.index) e);
    later = λ f r p m. (λ n. absurd (fill_apart r p m n), λ y. absurd y.0);
  }

-- ---- a find: the last cause is a chain that is met

module _ (t : Table) (a : Arrays) (q : Query) where
  -- a node that is looked at is one of a width that the table has
  bad_chain : BadFound (limits_at t.limits q.width) (part_at t a q.width) (matrix_of q) → BadChain t a q
  bad_chain x =
      let v = counted t q.width (at_below (limits_at t.limits q.width) (part_at t a q.width) (matrix_of q) x.leads) in
      record { some = v.0; has = v.1; fault = x }

  find_entry : Entry (found_in t a q) (part_found t a q) (λ r p (m : Unit {0}). f.refused r p) tt (find_rows t a q) (cause 13 (BadChain t a q) ∷ [])
  unfolding found_in
  find_entry = record {
    is = refl;
    same = λ r p s q m n e. (ap found_first e, ap found_second e, refl);
    later = λ e r p m. (
      (λ n. let (x, y, z) = (means.is_refused r p).0 n in (inl (sym y, (bad_chain x, z)), refl)),
      (λ y. let (s, c, z) = only 13 (BadChain t a q) y.0 in (means.is_refused r p).1 (c.fault, sym s, z)),
    );
  }
    where
      means : FindMeans (limits_at t.limits q.width) (part_at t a q.width) (matrix_of q)
      means = find_means (limits_at t.limits q.width) (part_at t a q.width) (matrix_of q)

-- ---- a write: the last cause is the node's chain

told_apart : (r p s q : ℕ) (m n : List ℕ) → outcome (refused r p) m ≡ outcome (refused s q) n → (r ≡ s) × (p ≡ q) × (m ≡ n)
told_apart r p s q m n e = (ap (λ (o : Outcome). first o.reply) e, ap (λ (o : Outcome). second o.reply) e, ap (λ (o : Outcome). o.list) e)

module _ (t : Table) (a : Arrays) (w k : ℕ) (out : List ℕ) where
  write_entry : Entry (written_in t a w k out) (write_of (limits_at t.limits w) (part_at t a w) k out) (λ r p m. outcome (refused r p) m) out
      (write_rows t a w k out) (cause 13 (BadNode t a w k) ∷ [])
  unfolding written_in
  write_entry = record {
    is = refl;
    same = told_apart;
    later = λ e r p m. (
      (λ n. let (x, y, z, u) = ((write_means (limits_at t.limits w) (part_at t a w) k out).is_refused r p m).0 n in (inl (sym y, (x, z)), u)),
      (λ y. let (s, c, z) = only 13 (BadNode t a w k) y.0 in ((write_means (limits_at t.limits w) (part_at t a w) k out).is_refused r p m).1 (c, sym s, z, y.1)),
    );
  }

-- ---- an answer: the last cause is a chain that its find meets

module _ (t : Table) (a : Arrays) (q : Query) (out : List ℕ) where
  abbrev asked : Outcome
  asked = then_write (λ k. written_in t a q.width k out) out (found_in t a q)

  answer_entry : Entry (synthesized t a q out) asked (λ r p m. outcome (refused r p) m) out (answer_rows t a q out) (cause 13 (BadChain t a q) ∷ [])
  unfolding synthesized
  answer_entry = record {
    is = refl;
    same = told_apart;
    later = λ e r p m. (
      (λ n. let (x, y, z, u) = ((asked_means t a q out).is_refused r p m).0 (sym (by_part e) ∙ n) in (inl (sym y, (bad_chain t a q x, z)), u)),
      (λ y. let (s, c, z) = only 13 (BadChain t a q) y.0 in by_part e ∙ ((asked_means t a q out).is_refused r p m).1 (c.fault, sym s, z, y.1)),
    );
  }
    where
      by_part : first_row (answer_rows t a q out) ≡ 0 → asked ≡ part_asked t a q out
      by_part e = sym (rows_pass (answer_rows t a q out) asked (λ r p. outcome (refused r p) out) e) ∙ answer_passed t a q out e

-- ---- all of them

pub exactly : Exactly
exactly = record {
  build = λ mode l a. refused_where (build_entry mode l a) (build_in_words l a);
  built = λ mode l a. done_where (build_entry mode l a) (build_in_words l a) (build_apart mode l a);
  fill = λ t a. refused_where (fill_entry t a) (look_in_words t indexed a);
  fills = λ t a. done_where (fill_entry t a) (look_in_words t indexed a) (fill_apart t a);
  answer = λ t a q out. refused_where (answer_entry t a q out) (answer_in_words t a q out);
  find = λ t a q r p. let z = refused_where (find_entry t a q) (find_in_words t a q) tt r p in (λ n. (z.0 n).0, λ x. z.1 (x, refl));
  write = λ t a w k out. refused_where (write_entry t a w k out) (write_in_words t a w k out);
  list = list;
  formed = formed;
}
