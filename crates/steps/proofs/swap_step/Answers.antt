-- `swap_step` meets its contract: three exchanges, each with its target apart from its controls. Assumes nothing.
use native.Mathlib.Omega.{arith}
use Rattle.steps.proofs.Several.{swap_stepped}
use Rattle.steps.proofs.swap_step.Goals as goal

pub returns : goal.returns
returns c =
    let f = c.apply_controlled_x_left.ensures in
    let g = c.apply_controlled_x_left-2.ensures in
    let h = c.apply_controlled_x_left-3.ensures in
    swap_stepped (omega arith) c.requires.ready _ _ _ c.mask-bit_s.ensures c.mask-bit_t.ensures
    (c.apply_controlled_x_left.array_long, (f.exchanged, f.kept)) (c.apply_controlled_x_left-2.array_long, (g.exchanged, g.kept)) (c.apply_controlled_x_left-3.array_long, (h.exchanged, h.kept))
