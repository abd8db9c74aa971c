-- The loop over the last layer's nodes, up to hi: the arrays hold some nodes, from which the nodes that are left to be
-- tried give what all give. Assumes nothing.
use mathlib.Core.Path.{◌≡◌, refl, sym, ap, ◌∙◌, subst}
use mathlib.Core.Bool.{Bool, true, false}
use mathlib.Core.List.{List}
use Prim.Native.Nat.{ℕ, suc, ◌+◌, ◌-◌, ◌≤◌, ◌<◌}
use native.Mathlib.Numerals.{add-one}
use native.Mathlib.Omega.{arith}
use Rattle.generators.specs.Generators.{generators}
use Rattle.walk.specs.Modes.{Mode}
use Rattle.walk.specs.Index.{By}
use Rattle.walk.specs.Walk.{Rules, Node, State, try_all, layer}
use Rattle.walk.proofs.Candidates.{layer_saturated}
use Rattle.synthesis_arena.specs.declared.WidthLimits.{WidthLimits}
use Rattle.width_arrays.specs.Arrays.{rules, unsaturated, Columns, Long, Live, After}
use Rattle.tried_gates.proofs.Keeping.{TriedKept, kept_node, kept_live, live_kept, unfilled}

module _ (mode : Mode) (by : By) (lim : WidthLimits) (hi d : ℕ) (f0 u0 c0 i0 : List ℕ) (goal : State) where
  abbrev R : Rules
  R = rules mode lim

  abbrev E : ℕ
  E = lim.entries

  abbrev gens : List ℕ
  gens = generators lim.width lim.basis

  pub record LayerRun (k : ℕ) (f u c i : List ℕ) (count : ℕ) : Type 0 where
    pub ns : List Node
    pub columns : Columns by lim f0 u0 c0 i0 ns f u c i count
    pub kept : TriedKept R E d hi k ns
    pub rest : layer R E (unsaturated ns) k (hi - k) ≡ goal

  module _ {k : ℕ} {f u c i : List ℕ} {count : ℕ} (r : LayerRun k f u c i count) where
    pub layer_run_lt : k < hi → k < count
    layer_run_lt l = omega (arith, r.kept.size, r.columns.count_is)

    abbrev pub layer_run_live : k < hi → suc d ≤ lim.gates → Long by lim f0 u0 c0 i0 → Live mode by lim f u c i count k (suc k)
    layer_run_live l deep long = kept_live r.columns r.kept l deep long

    layer_run_cons : k < hi → layer R E (try_all R E (unsaturated r.ns) k gens) (suc k) (hi - suc k) ≡ goal
    unfolding layer
    layer_run_cons l = let z : suc (hi - suc k) ≡ hi - k = omega arith in ap (layer R E (unsaturated r.ns) k) z ∙ r.rest

    module _ (l : k < hi) {f' u' c' i' : List ℕ} {count' : ℕ} {b : Bool} (a : After by lim f0 u0 c0 i0 (try_all R E (unsaturated r.ns) k gens) f' u' c' i' count' b) where
      abbrev tried : State
      tried = try_all R E (unsaturated r.ns) k gens

      pub layer_run_next : b ≡ false → LayerRun (k + 1) f' u' c' i' count'
      layer_run_next q =
          let i : TriedKept R E d hi (suc k) tried.nodes = kept_node R E d hi (unsaturated r.ns) k l r.kept in
          record {
            ns = tried.nodes;
            columns = a.columns;
            kept = subst (λ (z : ℕ). TriedKept R E d hi z tried.nodes) (sym (add-one k)) i;
            rest = ap (λ (z : ℕ). layer R E (unsaturated tried.nodes) z (hi - z)) (add-one k)
                ∙ ap (λ (t : State). layer R E t (suc k) (hi - suc k)) (sym (unfilled tried b a.full_is q)) ∙ layer_run_cons l;
          }

      pub layer_run_full : b ≡ true → After by lim f0 u0 c0 i0 goal f' u' c' i' count' true
      layer_run_full q =
          let e : tried ≡ goal = sym (layer_saturated R E tried (suc k) (hi - suc k) (sym a.full_is ∙ q)) ∙ layer_run_cons l in
          subst (λ (t : State). After by lim f0 u0 c0 i0 t f' u' c' i' count' true) e (record { columns = a.columns; full_is = sym q ∙ a.full_is })

    pub layer_run_end : hi ≤ k → After by lim f0 u0 c0 i0 goal f u c i count false
    unfolding layer
    layer_run_end l =
        let z : 0 ≡ hi - k = omega arith in
        let e : unsaturated r.ns ≡ goal = ap (layer R E (unsaturated r.ns) k) z ∙ r.rest in
        subst (λ (t : State). After by lim f0 u0 c0 i0 t f u c i count false) e (record { columns = r.columns; full_is = refl })

pub layer_run_start : {mode : Mode} {by : By} {lim : WidthLimits} {lo : ℕ} {f u c i : List ℕ} {count : ℕ} (h : Live mode by lim f u c i count lo count)
    → LayerRun mode by lim count h.d h.f0 h.u0 h.c0 h.i0 (layer (rules mode lim) lim.entries (unsaturated h.ns) lo (count - lo)) lo f u c i count
layer_run_start h = record {
  ns = h.ns;
  columns = h.columns;
  kept = live_kept h (omega arith);
  rest = refl;
}
