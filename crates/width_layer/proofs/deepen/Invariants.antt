-- `deepen` meets its contract. The invariant: the arrays hold some nodes, from which the nodes that are left to be
-- tried give what all give. Assumes nothing.
use mathlib.Core.Path.{◌≡◌}
use Prim.Native.Nat.{◌-◌}
use lib.ListN.{length}
use Rattle.walk.specs.Walk.{layer}
use Rattle.index.specs.Told.{told_by}
use Rattle.known.specs.Known.{told_mode}
use Rattle.width_arrays.specs.Arrays.{rules, unsaturated, Live}
use Rattle.candidates.specs.Tries.{Lent}
use Rattle.width_layer.proofs.LayerLoop.{LayerRun}
use Rattle.width_layer.proofs.deepen.Given as goal

abbrev pub invariant-loop-node : goal.invariant-loop-node
invariant-loop-node l =
    ((h : Live (told_mode l.mode) (told_by l.by) l.limits l.initial.fingerprints l.initial.parents l.initial.codes l.initial.index l.count l.first l.count)
    → LayerRun (told_mode l.mode) (told_by l.by) l.limits l.count h.d h.f0 h.u0 h.c0 h.i0 (layer (rules (told_mode l.mode) l.limits) l.limits.entries (unsaturated h.ns) l.first (l.count - l.first))
    l.node l.fingerprints l.parents l.codes l.index l.n)
    × (length l.fingerprints ≡ length l.initial.fingerprints) × (length l.parents ≡ length l.initial.parents) × (length l.codes ≡ length l.initial.codes) × (length l.index ≡ length l.initial.index)
    × Lent l.m l.left l.right
