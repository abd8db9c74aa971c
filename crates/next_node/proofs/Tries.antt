-- When one candidate is skipped, in each of the code's cases. Assumes nothing.
use mathlib.Core.Path.{◌≡◌, sym, ap, ◌∙◌}
use mathlib.Core.Bool.{Bool, true, false, ◌||◌, ◌&&◌}
use mathlib.Core.List.{List}
use Prim.Native.Nat.{ℕ, zero, suc, ◌<◌}
use native.Mathlib.Omega.{arith}
use lib.Dec.{ltb}
use lib.ListN.{get_or}
use Rattle.circuit.specs.Codes.{mark}
use Rattle.circuit.specs.Pairs.{inverse, disjoint}
use Rattle.exact.specs.Matrix.{Exact}
use Rattle.exact.proofs.Words.{Equal}
use Rattle.exact.specs.Fingerprint.{fingerprint}
use Rattle.walk.specs.Index.{By}
use Rattle.walk.specs.Modes.{Mode}
use Rattle.walk.specs.Finds.{Part, part_with}
use Rattle.walk.specs.Walk.{Node, any, root, gate, list_at, prod, pruned, knows, candidate, skipped}
use Rattle.walk.proofs.Laws.{fits_by}
use Rattle.walk.proofs.Grown.{Link}
use Rattle.walk.proofs.Nodes.{first, link}
use Rattle.synthesis_arena.specs.Limits.{told_limits}
use Rattle.synthesis_arena.specs.declared.WidthLimits.{WidthLimits}
use Rattle.known.specs.Known.{is_known}
use Rattle.known.proofs.Known.{known_alike, known_any}
use Rattle.skip_rules.specs.Skips.{pruned_at}
use Rattle.width_arrays.specs.Arrays.{rules, Room, Live}
use Rattle.width_arrays.proofs.Columns.{column_at}
use Rattle.width_arrays.proofs.Live.{live_looks, live_holds}

module _ {mode : Mode} {by : By} {lim : WidthLimits} {f u c i : List ℕ} {count k top : ℕ} (h : Live mode by lim f u c i count k top) where
  -- a node's gate, by the array
  pub gate_at : (j : ℕ) → j < count → get_or c j 0 ≡ gate (get_or h.ns j root)
  gate_at j l = column_at h.columns.gates h.columns.count_is j (omega (arith, h.columns.count_is))

  pub pruned_is : (g j : ℕ) → j < count → pruned_at c j g ≡ pruned (rules mode lim) g (list_at h.ns j)
  pruned_is g zero l = sym (ap (λ (v : Node). pruned (rules mode lim) g v.list) (first (rules mode lim) h.grown).1)
  pruned_is g (suc j) l =
      let i : Link (rules mode lim) h.ns (suc j) (get_or h.ns (suc j) root) = link (rules mode lim) h.grown (suc j) (omega (arith, h.columns.count_is)) (omega arith) in
      let e : get_or c (suc j) 0 ≡ i.code = gate_at (suc j) l ∙ ap (λ (z : List ℕ). get_or z 0 mark) i.is in
      ap (λ (z : ℕ). inverse g z || (disjoint g z && ltb g z)) e ∙ sym (ap (pruned (rules mode lim) g) i.is)

  module _ (g : ℕ) where
    abbrev R-pruned : Bool
    R-pruned = pruned (rules mode lim) g (list_at h.ns k)

    abbrev R-fits : Bool
    R-fits = fits_by lim.width g (prod (rules mode lim) (list_at h.ns k))

    pub skip_pruned : R-pruned ≡ true → skipped (rules mode lim) h.ns k g ≡ true
    unfolding skipped
    skip_pruned e = rw e

    pub skip_unfit : R-pruned ≡ false → R-fits ≡ false → skipped (rules mode lim) h.ns k g ≡ true
    unfolding skipped
    skip_unfit e q = rw (e, q)

    skip_by : R-pruned ≡ false → R-fits ≡ true → (b : Bool) → any (knows (rules mode lim) (candidate (rules mode lim) h.ns k g)) h.ns ≡ b
        → skipped (rules mode lim) h.ns k g ≡ b
    unfolding skipped
    skip_by e q b t = rw (e, q) t

    module _ (y : ℕ) (ey : y ≡ fingerprint lim.width (candidate (rules mode lim) h.ns k g)) where
      -- known is what the walk's rule says, in each mode
      pub skip_known : R-pruned ≡ false → R-fits ≡ true → Room by lim count k f u c i → {x : Exact} → Equal lim.width x (candidate (rules mode lim) h.ns k g)
          → skipped (rules mode lim) h.ns k g ≡ is_known mode (told_limits lim) (part_with by f u c count i) y x
      skip_known e q room {x} same =
          let part : Part = part_with by f u c count i in
          let z : Exact = candidate (rules mode lim) h.ns k g in
          skip_by e q (is_known mode (told_limits lim) part y x)
          (sym (known_alike (told_limits lim) part y same mode ∙ ap (λ (v : ℕ). is_known mode (told_limits lim) part v z) ey
          ∙ known_any (told_limits lim) room.narrow part z (live_looks h room.most) mode h.grown
          (λ j l. omega (arith, h.short j l, h.deep)) h.columns.count_is (live_holds h)))
