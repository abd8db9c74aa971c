-- What a table finds, writes and answers, row by row, as the definitions have it. Assumes nothing.
use mathlib.Core.Path.{◌≡◌, refl, sym, ap, ◌∙◌}
use mathlib.Core.List.{List, []}
use Prim.Native.Nat.{ℕ, ◌-◌, ◌+◌}
use native.Mathlib.Omega.{arith}
use borrow.Author.Tests.{ltb-true, ltb-false, not-false}
use lib.ListN.{length, take, drop}
use Rattle.walk.specs.Chains.{chain_of}
use Rattle.walk.specs.Finds as finds
use Rattle.walk.specs.Answers.{refused, outcome, written, write_of}
use Rattle.std.specs.Prelude.{Result}
use Rattle.synthesis_arena.specs.Chains.{told_circuit}
use Rattle.synthesis_arena.specs.declared.BadChain.{BadChain}
use Rattle.refusal.specs.Told.{Reason, number_of, position_of}
use Rattle.refusal.specs.declared.Refusal.{Refusal}
use Rattle.refusal.proofs.Numbers.{Refuses}
use Rattle.tables.specs.Checks.{first_row, Arrays}
use Rattle.tables.specs.Tables.{Table, Query, count_at, node_row, find_rows, found_in, write_rows, written_in, synthesized}
use Rattle.tables.proofs.Rows.{first_none, first_some}
use Rattle.tables.proofs.Accepted.{roomy}
use Rattle.tables.proofs.Asked.{good_table, find_refused, write_passed, write_refused, answer_refused}
use Rattle.murm.specs.Work.{Writable, node_written}

-- ---- a find

pub refused_find : (t : Table) (a : Arrays) (q : Query) {r : Refusal} → Refuses r (first_row (find_rows t a q)) → finds.refused (number_of r) (position_of r) ≡ found_in t a q
refused_find t a q x = ap (λ (z : Reason). finds.refused z.number z.position) x.told ∙ sym (find_refused t a q _ x.some refl)

-- ---- a write

module _ (t : Table) (a : Arrays) (w k : ℕ) (out : List ℕ) where
  -- no row of a write refuses
  pub writable : first_row (write_rows t a w k out) ≡ 0 → Writable t w k (length a.parents) (length a.codes) (length out)
  writable e =
      let (g, h, l) = good_table t a _ e in
      let r = roomy t.limits a h in
      let (i, m) = first_none (node_row t w k) _ (omega arith) l in
      record {
        good = g;
        in_parents = r.1;
        in_codes = r.2;
        node = ltb-true k (count_at t w) (not-false _ i);
        long = ltb-false (length out) t.limits.gates (first_none _ [] (omega arith) m).0;
      }

  pub node_written_lem : first_row (write_rows t a w k out) ≡ 0 → node_written t a.parents a.codes w k out ≡ written_in t a w k out
  unfolding write_of
  node_written_lem e = sym (write_passed t a w k out e)

  pub refused_write : {r : Refusal} → Refuses r (first_row (write_rows t a w k out)) → outcome (refused (number_of r) (position_of r)) out ≡ written_in t a w k out
  refused_write x = ap (λ (z : Reason). outcome (refused z.number z.position) out) x.told ∙ sym (write_refused t a w k out _ x.some refl)

-- a chain that was read, as the part of the width has it
module _ (n basis limit start entries k : ℕ) (parents codes out : List ℕ) {new : List ℕ} {r : Result ℕ BadChain} where
  pub told_as : {s : Result ℕ BadChain} → r ≡ s
      → outcome (told_circuit r) new ≡ written out (chain_of n basis (take (start + entries - start) (drop start parents)) (take (start + entries - start) (drop start codes)) limit k)
      → outcome (told_circuit s) new ≡ written out (chain_of n basis (take entries (drop start parents)) (take entries (drop start codes)) limit k)
  told_as e h =
      let size : start + entries - start ≡ entries = omega arith in
      ap (λ (x : Result ℕ BadChain). outcome (told_circuit x) new) (sym e) ∙ h
      ∙ ap (λ (j : ℕ). written out (chain_of n basis (take j (drop start parents)) (take j (drop start codes)) limit k)) size

-- ---- an answer

module _ (t : Table) (a : Arrays) (q : Query) (out : List ℕ) where
  pub refused_answer : {r : Refusal} → Refuses r (first_row (find_rows t a q)) → outcome (refused (number_of r) (position_of r)) out ≡ synthesized t a q out
  refused_answer x =
      ap (λ (z : Reason). outcome (refused z.number z.position) out) x.told
      ∙ sym (answer_refused t a q out _ x.some (first_some (find_rows t a q) _ _ x.some refl))
