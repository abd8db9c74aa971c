-- The loop over the gates gs, at node k, from the nodes ns₀ on: the arrays hold some nodes, of which ns₀ are the first,
-- and from which the gates that are left give the goal. A step of the loop tries the next gate. Assumes nothing.
use mathlib.Core.Path.{◌≡◌, refl, sym, ap, ◌∙◌, subst}
use mathlib.Core.Bool.{Bool, true, false}
use mathlib.Core.List.{List, Memᴰ}
use Prim.Native.Nat.{ℕ, suc, ◌+◌, ◌≤◌, ◌<◌}
use native.Mathlib.Numerals.{add-one}
use native.Mathlib.Omega.{arith}
use lib.ListN.{length, get_or, drop, drop_of_length-le}
use lib.Seq.{drop-cons}
use Rattle.walk.specs.Modes.{Mode}
use Rattle.walk.specs.Index.{By}
use Rattle.walk.specs.Walk.{Rules, Node, State, root, list_at, try, try_all}
use Rattle.walk.proofs.Grown.{Prefix}
use Rattle.walk.proofs.Sequences.{prefix_refl, prefix_trans, prefix_at}
use Rattle.walk.proofs.Candidates.{try_later, try_all_saturated}
use Rattle.synthesis_arena.specs.declared.WidthLimits.{WidthLimits}
use Rattle.width_arrays.specs.Arrays.{rules, unsaturated, Columns, Long, Live, After}
use Rattle.tried_gates.proofs.Keeping.{TriedKept, kept_try, kept_live, live_kept, unfilled}

module _ (mode : Mode) (by : By) (lim : WidthLimits) (k d : ℕ) (f0 u0 c0 i0 : List ℕ) (ns₀ : List Node) (goal : State) (gs : List ℕ) where
  abbrev R : Rules
  R = rules mode lim

  abbrev E : ℕ
  E = lim.entries

  pub record NodeRun (j : ℕ) (f u c i : List ℕ) (count : ℕ) : Type 0 where
    pub ns : List Node
    pub columns : Columns by lim f0 u0 c0 i0 ns f u c i count
    pub kept : TriedKept R E d (suc k) k ns
    pub later : Prefix ns₀ ns
    pub rest : try_all R E (unsaturated ns) k (drop j gs) ≡ goal

  module _ {j : ℕ} {f u c i : List ℕ} {count : ℕ} (r : NodeRun j f u c i count) where
    abbrev pub node_run_live : suc d ≤ lim.gates → Long by lim f0 u0 c0 i0 → Live mode by lim f u c i count k (suc k)
    node_run_live deep long = kept_live r.columns r.kept (omega arith) deep long

    pub node_run_lt : k < count
    node_run_lt = omega (arith, r.kept.size, r.columns.count_is)

    -- the node's list stays
    pub node_run_own : k < length ns₀ → list_at r.ns k ≡ list_at ns₀ k
    node_run_own l = ap (λ (v : Node). v.list) (prefix_at r.later k root l)

    -- after the next gate
    module _ (l : j < length gs) {f' u' c' i' : List ℕ} {count' : ℕ} {b : Bool}
        (a : After by lim f0 u0 c0 i0 (try R E (unsaturated r.ns) k (get_or gs j 0)) f' u' c' i' count' b) where
      abbrev tried : State
      tried = try R E (unsaturated r.ns) k (get_or gs j 0)

      left_over : try_all R E tried k (drop (j + 1) gs) ≡ goal
      unfolding try_all
      left_over = ap (λ (z : ℕ). try_all R E tried k (drop z gs)) (add-one j) ∙ ap (try_all R E (unsaturated r.ns) k) (sym (drop-cons gs j 0 l)) ∙ r.rest

      pub node_run_next : Memᴰ (get_or gs j 0) R.generators → b ≡ false → NodeRun (j + 1) f' u' c' i' count'
      node_run_next m q = record {
        ns = tried.nodes;
        columns = a.columns;
        kept = kept_try R E d (suc k) (unsaturated r.ns) k (get_or gs j 0) (omega arith) m r.kept;
        later = prefix_trans r.later (try_later R E (unsaturated r.ns) k (get_or gs j 0)).prefix;
        rest = ap (λ (t : State). try_all R E t k (drop (j + 1) gs)) (sym (unfilled tried b a.full_is q)) ∙ left_over;
      }

      pub node_run_full : b ≡ true → After by lim f0 u0 c0 i0 goal f' u' c' i' count' b
      node_run_full q =
          let e : tried ≡ goal = sym (try_all_saturated R E tried k (drop (j + 1) gs) (sym a.full_is ∙ q)) ∙ left_over in
          subst (λ (t : State). After by lim f0 u0 c0 i0 t f' u' c' i' count' b) e a

    pub node_run_end : length gs ≤ j → After by lim f0 u0 c0 i0 goal f u c i count false
    unfolding try_all
    node_run_end l =
        let e : unsaturated r.ns ≡ goal = ap (try_all R E (unsaturated r.ns) k) (sym (drop_of_length-le gs {i = j} l)) ∙ r.rest in
        subst (λ (t : State). After by lim f0 u0 c0 i0 t f u c i count false) e (record { columns = r.columns; full_is = refl })

abbrev pub node_run_start : {mode : Mode} {by : By} {lim : WidthLimits} {k : ℕ} {f u c i : List ℕ} {count : ℕ} (h : Live mode by lim f u c i count k (suc k)) → k < count
    → {goal : State} (gs : List ℕ) → try_all (rules mode lim) lim.entries (unsaturated h.ns) k gs ≡ goal
    → NodeRun mode by lim k h.d h.f0 h.u0 h.c0 h.i0 h.ns goal gs 0 f u c i count
node_run_start h l gs e = record {
  ns = h.ns;
  columns = h.columns;
  kept = live_kept h l;
  later = prefix_refl h.ns;
  rest = e;
}
