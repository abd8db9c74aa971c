-- What candidates keep, whatever the rules: nodes are appended one by one, no parent is past the node that is tried,
-- and no list is more than one gate longer than those of the earlier depths. Assumes nothing.
use mathlib.Core.Path.{◌≡◌, refl, sym, ap, ◌∙◌}
use mathlib.Core.Bool.{Bool, true, false}
use mathlib.Core.List.{List, [], ◌∷◌, Memᴰ}
use Prim.Native.Nat.{ℕ, zero, suc, ◌+◌, ◌≤◌, ◌<◌}
use native.Mathlib.Nat.{not-suc-le-zero, le_of_suc-le-suc, le_refl}
use native.Mathlib.Omega.{arith}
use lib.ListN.{length, get_or}
use Rattle.circuit.specs.Codes.{valid}
use Rattle.circuit.proofs.Coded.{code_valid}
use Rattle.generators.specs.Generators.{generators}
use Rattle.generators.proofs.Generated.{lists}
use Rattle.walk.specs.Walk.{Rules, Node, State, root, list_at, child, try, try_all, layer}
use Rattle.walk.proofs.Grown.{Grown, more, ParentsTo}
use Rattle.walk.proofs.Sequences.{length_snoc, all_snoc, prefix_snoc, prefix_at}
use Rattle.walk.proofs.Candidates.{try_cases, layer_keeps}
use Rattle.walk.specs.Modes.{Mode}
use Rattle.walk.specs.Index.{By}
use Rattle.synthesis_arena.specs.declared.WidthLimits.{WidthLimits}
use Rattle.width_arrays.specs.Arrays.{rules, unsaturated, Columns, Long, Live}

pub mem_at : (gs : List ℕ) (j : ℕ) → j < length gs → Memᴰ (get_or gs j 0) gs
mem_at [] j h = absurd (not-suc-le-zero h)
mem_at (g ∷ gs) zero h = Memᴰ.head refl
mem_at (g ∷ gs) (suc j) h = Memᴰ.tail (mem_at gs j (le_of_suc-le-suc h))

-- a generator is a valid code
pub generator_valid : (n basis g : ℕ) → n ≤ 5 → Memᴰ g (generators n basis) → valid n g ≡ true
generator_valid n basis g small m = code_valid n basis g ((lists n basis (omega arith)).sound g m)

-- ---- what candidates keep, at node k and with hi nodes of earlier depths

module _ (R : Rules) (E d hi : ℕ) where
  pub record TriedKept (k : ℕ) (ns : List Node) : Type 0 where
    pub grown : Grown R ns
    pub low : ParentsTo k ns
    pub few : length ns ≤ E
    pub size : hi ≤ length ns
    pub flat : (j : ℕ) → j < hi → length (list_at ns j) ≤ d
    pub short : (j : ℕ) → j < length ns → length (list_at ns j) ≤ suc d

  pub kept_try : (s : State) (k g : ℕ) → k < hi → Memᴰ g R.generators → TriedKept k s.nodes → TriedKept k (try R E s k g).nodes
  kept_try s k g l m i =
      let ns : List Node = s.nodes in
      let c : Node = child R ns k g in
      try_cases R E (λ t. TriedKept k t.nodes) s k g i
      (λ f a h. record {
        grown = more k g i.grown (omega (arith, i.size)) i.low m a;
        low = all_snoc ns c root (λ j v. 0 < j → v.parent ≤ k) i.low (λ p. le_refl k);
        few = omega (arith, length_snoc ns c);
        size = omega (arith, i.size, length_snoc ns c);
        flat = λ j q. omega (arith, i.flat j q, ap (λ (v : Node). length v.list) (prefix_at (prefix_snoc ns c) j root (omega (arith, i.size))));
        short = all_snoc ns c root (λ j v. length v.list ≤ suc d) i.short (omega (arith, i.flat k l));
      })
      (λ h. i)

  kept_on : (k : ℕ) (ns : List Node) → TriedKept k ns → TriedKept (suc k) ns
  kept_on k ns i = record { grown = i.grown; low = λ j p z. omega (arith, i.low j p z); few = i.few; size = i.size; flat = i.flat; short = i.short }

  -- m nodes, up to hi
  pub kept_layer : (s : State) (k m e : ℕ) → k + m ≡ e → e ≤ hi → TriedKept k s.nodes → TriedKept e (layer R E s k m).nodes
  kept_layer s k m e q l i =
      layer_keeps R E (λ j t. TriedKept j t.nodes) k m e q (λ j t g a b z p. kept_try t j g (omega arith) z p) (λ j t p. kept_on j t.nodes p) s i

  -- one node
  pub kept_node : (s : State) (k : ℕ) → k < hi → TriedKept k s.nodes → TriedKept (suc k) (try_all R E s k R.generators).nodes
  unfolding layer
  kept_node s k l i = kept_layer s k 1 (suc k) (omega arith) l i

-- ---- arrays that hold such nodes are those of a width that is being built, and back

module _ {mode : Mode} {by : By} {lim : WidthLimits} {f0 u0 c0 i0 f u c i : List ℕ} {ns : List Node} {count d hi k : ℕ} where
  abbrev pub kept_live : Columns by lim f0 u0 c0 i0 ns f u c i count → TriedKept (rules mode lim) lim.entries d hi k ns → k < hi → suc d ≤ lim.gates
      → Long by lim f0 u0 c0 i0 → Live mode by lim f u c i count k (suc k)
  kept_live w t l deep long = record {
    f0 = f0;
    u0 = u0;
    c0 = c0;
    i0 = i0;
    ns = ns;
    d = d;
    columns = w;
    grown = t.grown;
    low = t.low;
    few = t.few;
    flat = λ j q. t.flat j (omega arith);
    short = t.short;
    deep = deep;
    long = long;
  }

pub live_kept : {mode : Mode} {by : By} {lim : WidthLimits} {f u c i : List ℕ} {count k top : ℕ} (h : Live mode by lim f u c i count k top) → top ≤ count
    → TriedKept (rules mode lim) lim.entries h.d top k h.ns
live_kept h l = record { grown = h.grown; low = h.low; few = h.few; size = omega (arith, h.columns.count_is); flat = h.flat; short = h.short }

-- a state that is not saturated, by its nodes
pub unfilled : (s : State) (b : Bool) → b ≡ s.saturated → b ≡ false → s ≡ unsaturated s.nodes
unfilled s b p q = λ i. record { nodes = s.nodes; saturated = (sym p ∙ q) i }
