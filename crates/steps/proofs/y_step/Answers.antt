-- `y_step` meets its contract: a turn, an exchange and a turn, none of which can fail to fit. Assumes nothing.
use native.Mathlib.Omega.{arith}
use Rattle.steps.proofs.Several.{exchanged_small, turned_one, y_stepped}
use Rattle.steps.proofs.y_step.Goals as goal

pub apply_phase_left-requires-2-clause-all_small : goal.apply_phase_left-requires-2-clause-all_small
apply_phase_left-requires-2-clause-all_small c =
    let f = c.apply_phase_left.ensures in
    let g = c.apply_controlled_x_left.ensures in
    exchanged_small _ _ _ c.requires.n_bound.1 (c.apply_controlled_x_left.array_long, (g.exchanged, g.kept)) (turned_one (omega arith) c.requires.ready _ _ c.mask-bit.ensures (c.apply_phase_left.array_long, (f.turned, f.kept))).left.small

pub returns : goal.returns
returns c =
    let f = c.apply_phase_left.ensures in
    let g = c.apply_controlled_x_left.ensures in
    let h = c.apply_phase_left-2.ensures in
    y_stepped (omega arith) c.requires.ready _ _ c.mask-bit.ensures (c.apply_phase_left.array_long, (f.turned, f.kept)) (c.apply_controlled_x_left.array_long, (g.exchanged, g.kept)) (c.apply_phase_left-2.array_long, (h.turned, h.kept))
