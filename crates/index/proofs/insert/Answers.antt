-- `insert` meets its contract: what is left from the step reached is the whole insertion. Assumes nothing.
use Rattle.std.proofs.Common.{arith}
use Rattle.index.proofs.Steps.{inserts_none, inserts_start, inserts_end, inserts_here, inserts_on}
use Rattle.index.proofs.insert.Goals as goal

pub returns-then-size-eq0 : goal.returns-then-size-eq0
returns-then-size-eq0 c = record { inserted = inserts_none _ _ _ c.if-size-eq0.true }

pub loop-step-init : goal.loop-step-init
loop-step-init c = inserts_start _ _ _ c.first_place-place.ensures.first

pub returns-then-index-place : goal.returns-then-index-place
returns-then-index-place c = record { inserted = inserts_here c.loop-step.invariant c.loop-step-test.true c.if-index-place.true }

pub loop-step-preserved : goal.loop-step-preserved
loop-step-preserved c = inserts_on c.loop-step.invariant c.loop-step-test.true c.if-index-place.false c.next_place-place.ensures.next

pub returns : goal.returns
returns c = record { inserted = inserts_end c.loop-step.invariant (omega (arith, c.loop-step-test.false)) }
