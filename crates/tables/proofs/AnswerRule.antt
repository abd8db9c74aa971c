-- Which node answers a query, said of what a caller has: the statements of specs/AnswerRule. Assumes nothing.
use mathlib.Core.Path.{◌≡◌, refl, sym, ap, ◌∙◌}
use mathlib.Core.Bool.{Bool, true, false}
use mathlib.Core.List.{List}
use Prim.Native.Nat.{ℕ, zero, suc, ◌+◌, ◌*◌, ◌-◌, ◌≤◌, ◌<◌}
use native.Mathlib.Omega.{arith}
use lib.ListN.{get_or, drop}
use lib.Seq.{get_or-take, get_or-drop}
use Rattle.walk.specs.Modes.{by_print}
use Rattle.walk.specs.AtWidth.{at_width}
use Rattle.walk.specs.Lookup.{Lookup, found, lowest_from}
use Rattle.walk.specs.Lookup as lookup
use Rattle.walk.specs.Finds.{Finding, find_of, looked_in}
use Rattle.walk.specs.Finds as f
use Rattle.walk.specs.Meaning.{AsScan, ScanMeans, Distinct, find_first}
use Rattle.walk.specs.Answers.{refused, Outcome, outcome, then_write}
use Rattle.walk.proofs.Lookups.{looks_up}
use Rattle.walk.proofs.Indexed.{looked_node}
use Rattle.walk.proofs.Layers.{walk_shape}
use Rattle.walk.proofs.Exactly.{prints_distinct}
use Rattle.walk.proofs.Meaning.{find_rule}
use Rattle.tables.specs.Checks.{first_row, by_rows, Arrays}
use Rattle.tables.specs.Tables.{Table, walk_of, not_a_width, count_at, Query, matrix_of, part_of, limits_at, part_at, find_rows, found_in, answer_rows, written_in, synthesized}
use Rattle.tables.specs.Built.{Built, FilledFrom}
use Rattle.tables.specs.AnswerRule.{DistinctAt, first_found_in, first_synthesized, AnswerRule, FirstNode}
use Rattle.tables.proofs.Accepted.{accepted}
use Rattle.tables.proofs.Counts.{a_width, counted, record_count, walk_count, count_at_lem, good_record}
use Rattle.tables.proofs.Indexes.{looks_scan}
use Rattle.tables.proofs.Rows.{rows_pass, rows_refuse_at_0}
use Rattle.tables.proofs.Asked.{no_positions_find, good_look, find_passed, find_refused}

module _ (t : Table) (a : Arrays) (q : Query) where
  abbrev L : f.WidthLimits
  L = limits_at t.limits q.width

  abbrev P : f.Part
  P = part_at t a q.width

  -- a width without entries is looked up in vain
  none_there : count_at t q.width ≡ 0 → AsScan L P (matrix_of q)
  none_there z from y = by (looked_in P from y) refl
    where
      by : (g : Lookup) → looked_in P from y ≡ g → looked_in P from y ≡ lowest_from P.fingerprints P.count from y
      by (found k) e = absurd (omega (arith, z, (looked_node P.by P.index P.fingerprints P.count from y k e).below))
      by lookup.none e = e ∙ sym ((looks_up P.fingerprints P.count from y).is_none.1 (record { none_has = λ m u v h. absurd (omega (arith, z, v)) }))

  as_scan : FilledFrom t a → first_row (find_rows t a q) ≡ 0 → AsScan L P (matrix_of q)
  as_scan x e = by (not_a_width t q.width) refl
    where
      by : (b : Bool) → not_a_width t q.width ≡ b → AsScan L P (matrix_of q)
      by true h = none_there (rw h)
      by false h = let w = a_width t q.width h in looks_scan t a x (good_look t a.by a _ e).0 q.width w.0 w.1

  -- the first node alone, where no two have one fingerprint
  distinct_part : first_row (find_rows t a q) ≡ 0 → DistinctAt t a q.width → Distinct L P (matrix_of q)
  distinct_part e d i j l h s =
      let c = record_count t q.width (good_look t a.by a _ e).0 in
      d i j l h (sym (place i (omega (arith, c, l, h))) ∙ s ∙ place j (omega (arith, c, h)))
    where
      place : (k : ℕ) → k < t.limits.entries → get_or (part_of q.width t.limits.entries a.prints) k 0 ≡ get_or a.prints ((q.width - 1) * t.limits.entries + k) 0
      place k b = get_or-take t.limits.entries (drop ((q.width - 1) * t.limits.entries) a.prints) k 0 b ∙ get_or-drop ((q.width - 1) * t.limits.entries) a.prints k 0

  find_distinct : DistinctAt t a q.width → found_in t a q ≡ first_found_in t a q
  unfolding first_found_in
  find_distinct d = by (first_row (find_rows t a q)) refl
    where
      by : (r : ℕ) → first_row (find_rows t a q) ≡ r → found_in t a q ≡ by_rows (find_rows t a q) (find_first L P (matrix_of q)) (λ r p. f.refused r p)
      by zero e =
          find_passed t a q e ∙ find_rule.distinct L P (matrix_of q) (distinct_part e d) ∙ sym (rows_pass (find_rows t a q) _ (λ r p. f.refused r p) e)
      by (suc r) e =
          find_refused t a q (suc r) (omega arith) e
          ∙ sym (rows_refuse_at_0 (find_rows t a q) _ (λ r p. f.refused r p) (no_positions_find t a q) (suc r) (omega arith) e)

  answer_distinct : DistinctAt t a q.width → (out : List ℕ) → synthesized t a q out ≡ first_synthesized t a q out
  unfolding synthesized first_synthesized
  answer_distinct d out =
      ap (λ (g : Finding). by_rows (answer_rows t a q out) (then_write (λ k. written_in t a q.width k out) out g) (λ r p. outcome (refused r p) out)) (find_distinct d)

by_print_lem : (t : Table) (a : Arrays) → Built by_print t a → (w : ℕ) → DistinctAt t a w
by_print_lem t a b w i j l h s =
    let (p, q, z) = counted t w h in
    let c = count_at_lem t a b w p q in
    prints_distinct w t.limits.basis (walk_shape (at_width by_print w t.limits.basis) t.limits.gates t.limits.entries).layered.grown i j l (omega (arith, c, h))
    (sym (b.nodes w p q i (omega (arith, c, h, l))).print ∙ s ∙ (b.nodes w p q j (omega (arith, c, h))).print)

pub answer_rule : AnswerRule
answer_rule = record {
  lowest = λ t a x q e. (find_passed t a q e, find_rule.lowest (limits_at t.limits q.width) (part_at t a q.width) (matrix_of q) (as_scan t a q x e));
}

pub first_node : FirstNode
first_node = record { find_distinct = find_distinct; answer_distinct = answer_distinct; by_print_lem = by_print_lem }
