-- `deepen_all` meets its contract. The invariant: the arrays hold some nodes, from which the depths that are left give
-- what all give. Assumes nothing.
use mathlib.Core.Path.{◌≡◌}
use lib.ListN.{length}
use Rattle.walk.specs.Walk.{begin, depths}
use Rattle.index.specs.Told.{told_by}
use Rattle.known.specs.Known.{told_mode}
use Rattle.width_arrays.specs.Arrays.{rules}
use Rattle.width_depths.specs.Depths.{Start}
use Rattle.width_depths.proofs.DepthLoop.{DepthRun}
use Rattle.width_depths.proofs.deepen_all.Given as goal

abbrev pub invariant-loop-d : goal.invariant-loop-d
invariant-loop-d l =
    ((h : Start (told_by l.by) l.limits l.initial.fingerprints l.initial.parents l.initial.codes l.initial.index)
    → DepthRun (told_mode l.mode) (told_by l.by) l.limits h.f0 h.u0 h.c0 h.i0 (depths (rules (told_mode l.mode) l.limits) l.limits.entries begin l.limits.gates) l.first l.d l.fingerprints l.parents l.codes l.index l.n)
    × (length l.fingerprints ≡ length l.initial.fingerprints) × (length l.parents ≡ length l.initial.parents) × (length l.codes ≡ length l.initial.codes) × (length l.index ≡ length l.initial.index)
