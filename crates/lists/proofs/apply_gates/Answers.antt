-- `apply_gates` meets its contract: after each gate the places hold the product so far, and the rest of the list says
-- whether all of it fits. Assumes nothing.
use native.Mathlib.Omega.{arith}
use Rattle.places.proofs.Placed.{kept_refl, kept_trans}
use Rattle.ints.proofs.Bools.{all_at}
use Rattle.lists.proofs.Walking.{walking_first, walking_more, walking_unfit, walking_end}
use Rattle.lists.proofs.apply_gates.Goals as goal

pub loop-i-init : goal.loop-i-init
loop-i-init c = (walking_first _ _ _ c.requires.holds, kept_refl _ _)

pub apply_gate_left-requires-clause-gate_value : goal.apply_gate_left-requires-clause-gate_value
apply_gate_left-requires-clause-gate_value c = all_at _ _ _ c.requires.codes_value c.loop-i-test.true

pub returns-in-None-clause-ended : goal.returns-in-None-clause-ended
returns-in-None-clause-ended c = walking_unfit _ _ c.loop-i.invariant.0 c.loop-i-test.true _ c.in-None.ensures

pub loop-i-preserved : goal.loop-i-preserved
loop-i-preserved c =
    let w = c.loop-i.invariant in
    let s = c.in-Some.ensures in
    (walking_more _ _ w.0 c.loop-i-test.true _ s, kept_trans _ w.1 s.kept)

pub returns-clause-ended : goal.returns-clause-ended
returns-clause-ended c = walking_end _ _ c.loop-i.invariant.0 (omega (arith, c.loop-i-test.false))
