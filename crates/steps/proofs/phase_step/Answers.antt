-- `phase_step` meets its contract: a turn always fits, and keeps the lowest denominator. Assumes nothing.
use native.Mathlib.Omega.{arith}
use Rattle.steps.proofs.Steps.{phase_stepped}
use Rattle.steps.proofs.phase_step.Goals as goal

pub returns : goal.returns
returns c =
    let w = c.apply_phase_left.ensures in
    record { by = phase_stepped _ _ _ _ c.requires.ready _ _ (omega arith) c.apply_phase_left.array_long w.turned w.kept }
