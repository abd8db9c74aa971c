-- `exchange_step` meets its contract: an exchange always fits, and keeps the lowest denominator. Assumes nothing.
use native.Mathlib.Omega.{arith}
use Rattle.steps.proofs.Steps.{exchange_stepped}
use Rattle.steps.proofs.exchange_step.Goals as goal

pub returns : goal.returns
returns c =
    let w = c.apply_controlled_x_left.ensures in
    record { by = exchange_stepped _ _ _ _ c.requires.ready _ _ (omega arith) c.apply_controlled_x_left.array_long w.exchanged w.kept }
