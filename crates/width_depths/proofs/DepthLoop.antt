-- The loop over depths, up to the gate limit: the arrays hold some nodes, from which the depths that are left give what
-- all give. Assumes nothing.
use mathlib.Core.Path.{◌≡◌, refl, sym, ap, ◌∙◌, subst}
use mathlib.Core.Bool.{Bool, true, false}
use mathlib.Core.List.{List, [], ◌∷◌}
use Prim.Native.Nat.{ℕ, zero, suc, ◌+◌, ◌-◌, ◌≤◌, ◌<◌}
use native.Mathlib.Nat.{le_refl}
use native.Mathlib.Numerals.{add-one}
use native.Mathlib.Omega.{arith}
use borrow.Author.Tests.{eq-eqb, ne_eqb}
use lib.Dec.{eqb}
use lib.ListN.{length}
use Rattle.ints.specs.Lists.{pick}
use Rattle.walk.specs.Modes.{Mode}
use Rattle.walk.specs.Index.{By}
use Rattle.walk.specs.Walk.{Rules, Node, State, Build, root, list_at, layer, settled, deeper, ended, depths, begin}
use Rattle.walk.proofs.Grown.{Grown, alone, ParentsTo}
use Rattle.synthesis_arena.specs.declared.WidthLimits.{WidthLimits}
use Rattle.width_arrays.specs.Arrays.{rules, unsaturated, Columns, Long, Live, After}
use Rattle.width_record.specs.declared.WidthTable.{WidthTable}
use Rattle.width_depths.specs.Depths.{Start, Whole}
use Rattle.tried_gates.proofs.Keeping.{TriedKept, kept_layer}

-- what a width has come to, by its three numbers
abbrev pub row : ℕ → ℕ → Bool → WidthTable
row count depth full = record { count = count; depth = depth; saturated = full }

-- between depths, with the last layer from number lo on
abbrev pub between : List Node → ℕ → ℕ → Build
between ns lo d = record { nodes = ns; last = lo; depth = d; saturated = false }

ended_stays : (R : Rules) (E : ℕ) (b : Build) (m : ℕ) → ended b ≡ true → depths R E b m ≡ b
unfolding depths
ended_stays R E b zero e = refl
ended_stays R E b (suc m) e = rw e

module _ (mode : Mode) (by : By) (lim : WidthLimits) (f0 u0 c0 i0 : List ℕ) (goal : Build) where
  abbrev R : Rules
  R = rules mode lim

  abbrev E : ℕ
  E = lim.entries

  abbrev G : ℕ
  G = lim.gates

  pub record DepthRun (lo d : ℕ) (f u c i : List ℕ) (count : ℕ) : Type 0 where
    pub ns : List Node
    pub columns : Columns by lim f0 u0 c0 i0 ns f u c i count
    pub grown : Grown R ns
    pub low : ParentsTo lo ns
    pub few : length ns ≤ lim.entries
    pub order : lo < count
    pub flat : (j : ℕ) → j < length ns → length (list_at ns j) ≤ d
    pub rest : depths R E (between ns lo d) (G - d) ≡ goal

  module _ {lo d : ℕ} {f u c i : List ℕ} {count : ℕ} (r : DepthRun lo d f u c i count) where
    abbrev pub depth_run_live : suc d ≤ lim.gates → Long by lim f0 u0 c0 i0 → Live mode by lim f u c i count lo count
    depth_run_live deep long = record {
      f0 = f0;
      u0 = u0;
      c0 = c0;
      i0 = i0;
      ns = r.ns;
      d = d;
      columns = r.columns;
      grown = r.grown;
      low = r.low;
      few = r.few;
      flat = λ j q. r.flat j (omega (arith, r.columns.count_is));
      short = λ j q. omega (arith, r.flat j q);
      deep = deep;
      long = long;
    }

    whole : {t : Build} → t ≡ goal → {f' u' c' i' : List ℕ} {count' d' : ℕ} {b : Bool} → Columns by lim f0 u0 c0 i0 t.nodes f' u' c' i' count' → d' ≡ t.depth → b ≡ t.saturated
        → Whole by lim goal f0 u0 c0 i0 f' u' c' i' (row count' d' b)
    whole {t} e {f'} {u'} {c'} {i'} {count'} {d'} {b} w p q = subst (λ (z : Build). Whole by lim z f0 u0 c0 i0 f' u' c' i' (row count' d' b)) e (record { columns = w; depth_is = p; full_is = q })

    pub depth_run_end : G ≤ d → Whole by lim goal f0 u0 c0 i0 f u c i (row count d false)
    unfolding depths
    depth_run_end l =
        let z : 0 ≡ G - d = omega arith in
        let e : between r.ns lo d ≡ goal = ap (depths R E (between r.ns lo d)) z ∙ r.rest in
        whole {t = between r.ns lo d} e r.columns refl refl

    -- where the loop ends, at the last depth
    pub depth_run_last : d ≡ G → Whole by lim goal f0 u0 c0 i0 f u c i (row count G false)
    depth_run_last l = subst (λ (z : ℕ). Whole by lim goal f0 u0 c0 i0 f u c i (row count z false)) l (depth_run_end (omega arith))

    module _ (l : d < G) {f' u' c' i' : List ℕ} {count' : ℕ} {b : Bool} (a : After by lim f0 u0 c0 i0 (layer R E (unsaturated r.ns) lo (count - lo)) f' u' c' i' count' b) where
      abbrev next : State
      next = layer R E (unsaturated r.ns) lo (length r.ns - lo)

      moved : After by lim f0 u0 c0 i0 next f' u' c' i' count' b
      moved = subst (λ (z : ℕ). After by lim f0 u0 c0 i0 (layer R E (unsaturated r.ns) lo (z - lo)) f' u' c' i' count' b) r.columns.count_is a

      -- the width is not ended, so the depth is walked
      round : depths R E (settled (between r.ns lo d) next) (G - suc d) ≡ goal
      unfolding depths deeper
      round =
          let z : suc (G - suc d) ≡ G - d = omega arith in
          let e : eqb lo (length r.ns) ≡ false = ne_eqb lo (length r.ns) (λ q. absurd (omega (arith, r.order, r.columns.count_is))) in
          sym (ap (λ (t : Bool). pick t (between r.ns lo d) (depths R E (settled (between r.ns lo d) next) (G - suc d))) e)
          ∙ ap (depths R E (between r.ns lo d)) z ∙ r.rest

      -- the width was saturated within the depth, or the depth was walked to its end
      abbrev cut : Build
      cut = record { nodes = next.nodes; last = lo; depth = d; saturated = true }

      abbrev done : Build
      done = between next.nodes (length r.ns) (suc d)

      round_cut : b ≡ true → cut ≡ goal
      round_cut q =
          sym (ended_stays R E cut (G - suc d) refl)
          ∙ ap (λ (t : Bool). depths R E (pick t cut done) (G - suc d)) (sym (sym moved.full_is ∙ q)) ∙ round

      round_done : b ≡ false → depths R E done (G - suc d) ≡ goal
      round_done q = ap (λ (t : Bool). depths R E (pick t cut done) (G - suc d)) (sym (sym moved.full_is ∙ q)) ∙ round

      pub depth_run_full : b ≡ true → Whole by lim goal f0 u0 c0 i0 f' u' c' i' (row count' d true)
      depth_run_full q = whole {t = cut} (round_cut q) moved.columns refl refl

      pub depth_run_none : b ≡ false → count' ≡ count → Whole by lim goal f0 u0 c0 i0 f' u' c' i' (row count (d + 1) false)
      depth_run_none q e =
          let s : eqb (length r.ns) (length next.nodes) ≡ true = eq-eqb (length r.ns) (length next.nodes) (omega (arith, moved.columns.count_is, r.columns.count_is)) in
          subst (λ (z : ℕ). Whole by lim goal f0 u0 c0 i0 f' u' c' i' (row z (d + 1) false)) e
          (whole {t = done} (sym (ended_stays R E done (G - suc d) s) ∙ round_done q) moved.columns (add-one d) refl)

      pub depth_run_next : b ≡ false → (count' ≡ count → ⊥) → DepthRun count (d + 1) f' u' c' i' count'
      depth_run_next q e =
          let i : TriedKept R E d (length r.ns) (length r.ns) next.nodes
          = kept_layer R E d (length r.ns) (unsaturated r.ns) lo (length r.ns - lo) (length r.ns) (omega (arith, r.order, r.columns.count_is)) (le_refl (length r.ns))
          (record { grown = r.grown; low = r.low; few = r.few; size = le_refl (length r.ns); flat = r.flat; short = λ j p. omega (arith, r.flat j p) }) in
          record {
            ns = next.nodes;
            columns = moved.columns;
            grown = i.grown;
            low = λ j p z. omega (arith, i.low j p z, r.columns.count_is);
            few = i.few;
            order = omega (arith, e, i.size, r.columns.count_is, moved.columns.count_is);
            flat = λ j p. omega (arith, i.short j p);
            rest = ap (λ (z : ℕ). depths R E (between next.nodes count z) (G - z)) (add-one d)
                ∙ ap (λ (z : ℕ). depths R E (between next.nodes z (suc d)) (G - suc d)) r.columns.count_is ∙ round_done q;
          }

pub depth_run_start : {mode : Mode} {by : By} {lim : WidthLimits} {f u c i : List ℕ} (h : Start by lim f u c i) → DepthRun mode by lim h.f0 h.u0 h.c0 h.i0 (depths (rules mode lim) lim.entries begin lim.gates) 0 0 f u c i 1
depth_run_start {mode} {lim = lim} h =
    let z : lim.gates - 0 ≡ lim.gates = omega arith in
    record {
      ns = root ∷ [];
      columns = h.columns;
      grown = alone;
      low = λ j l p. absurd (omega arith);
      few = h.some;
      order = omega arith;
      flat = λ j l. let e : j ≡ 0 = omega arith in rw e (omega arith);
      rest = ap (depths (rules mode lim) lim.entries begin) z;
    }
