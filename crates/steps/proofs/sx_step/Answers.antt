-- `sx_step` meets its contract: H, S, H, each on what the one before left; where an H does not fit, Sx does not.
-- Assumes nothing.
use Prim.Native.Nat.{ℕ, ◌<◌}
use native.Mathlib.Omega.{arith}
use mathlib.Core.List.{[], ◌∷◌}
use Rattle.exact.specs.Rows.{phase, had, then}
use Rattle.exact.proofs.Words.{Proper}
use Rattle.steps.proofs.Masks.{mask_none}
use Rattle.steps.proofs.Steps.{ready_next, stepped_then, stepped_unfit}
use Rattle.steps.proofs.Several.{turned_one}
use Rattle.steps.proofs.sx_step.Goals as goal

last : {n t : ℕ} → t < n → Proper n (had [] t)
last h = (h, tt, tt)

rest : {n t : ℕ} → t < n → Proper n (then (phase (t ∷ []) 2) (had [] t))
rest h = ((h, tt), (h, tt, tt))

pub apply_phase_left-requires-clause-all_small : goal.apply_phase_left-requires-clause-all_small
apply_phase_left-requires-clause-all_small c =
    let p = last c.requires.n_bound.1 in
    (ready_next (c.in_ok-j.ensures.by [] mask_none p)).small

pub ch_step-requires-2-clause-ready : goal.ch_step-requires-2-clause-ready
ch_step-requires-2-clause-ready c =
    let p = last c.requires.n_bound.1 in
    let f = c.apply_phase_left.ensures in
    ready_next (turned_one (omega arith) (ready_next (c.in_ok-j.ensures.by [] mask_none p)) _ _ c.mask-target.ensures (c.apply_phase_left.array_long, (f.turned, f.kept)))

pub returns-in_err-j : goal.returns-in_err-j
returns-in_err-j c =
    let b = c.requires.n_bound.1 in
    rw c.from_residual.ensures (stepped_unfit _ _ _ _ _ (rest b) (c.in_err-j.ensures.by [] mask_none (last b)))

pub returns : goal.returns
returns c =
    let b = c.requires.n_bound.1 in
    let one = c.in_ok-j.ensures.by [] mask_none (last b) in
    let f = c.apply_phase_left.ensures in
    stepped_then _ _ _ _ _ (rest b) _ one
    (stepped_then _ _ _ _ _ (last b) _ (turned_one (omega arith) (ready_next one) 2 _ c.mask-target.ensures (c.apply_phase_left.array_long, (f.turned, f.kept)))
    (c.ch_step-2.ensures.by [] mask_none (last b)))
