-- `try_gates` meets its contract. The invariant: the arrays hold some nodes, from which the gates that are left give
-- what all generators give. Assumes nothing.
use mathlib.Core.Path.{◌≡◌}
use lib.ListN.{length}
use Rattle.generators.specs.Generators.{generators}
use Rattle.places.specs.Places.{places}
use Rattle.walk.specs.Walk.{try_all}
use Rattle.index.specs.Told.{told_by}
use Rattle.known.specs.Known.{told_mode}
use Rattle.width_arrays.specs.Arrays.{rules, unsaturated}
use Rattle.tried_gates.specs.Tries.{NodeFormed}
use Rattle.tried_gates.proofs.NodeLoop.{NodeRun}
use Rattle.tried_gates.proofs.try_gates.Given as goal

abbrev pub invariant-loop-j : goal.invariant-loop-j
invariant-loop-j l =
    ((w : NodeFormed (told_mode l.mode) (told_by l.by) l.limits l.count l.node l.exponent l.initial.fingerprints l.initial.parents l.initial.codes l.initial.index l.m)
    → NodeRun (told_mode l.mode) (told_by l.by) l.limits l.node w.live.d w.live.f0 w.live.u0 w.live.c0 w.live.i0 w.live.ns
    (try_all (rules (told_mode l.mode) l.limits) l.limits.entries (unsaturated w.live.ns) l.node (generators l.limits.width l.limits.basis)) l.gates l.j l.fingerprints l.parents l.codes l.index l.n)
    × (length l.fingerprints ≡ length l.initial.fingerprints) × (length l.parents ≡ length l.initial.parents) × (length l.codes ≡ length l.initial.codes)
    × (length l.index ≡ length l.initial.index) × (length l.left ≡ places) × (length l.right ≡ places)
