-- `probe` meets its contract: what is left from the step reached is the whole probe. Assumes nothing.
use mathlib.Core.Path.{sym}
use Rattle.std.proofs.Common.{arith}
use Rattle.index.proofs.Steps.{probes_none, probes_start, probes_end, probes_empty, probes_here, probes_on}
use Rattle.index.proofs.probe.Goals as goal

pub returns-then-size-eq0 : goal.returns-then-size-eq0
returns-then-size-eq0 c = record { probed = probes_none _ _ _ _ _ c.if-size-eq0.true }

pub loop-step-init : goal.loop-step-init
loop-step-init c = probes_start _ _ _ _ _ c.first_place-place.ensures.first

pub returns-then-node : goal.returns-then-node
returns-then-node c = record { probed = probes_empty c.loop-step.invariant c.loop-step-test.true c.if-node.true }

pub returns-then-leads_to : goal.returns-then-leads_to
returns-then-leads_to c = record { probed = probes_here c.loop-step.invariant c.loop-step-test.true c.if-node.false (sym c.if-leads_to.ensures.leads) }

pub loop-step-preserved : goal.loop-step-preserved
loop-step-preserved c = probes_on c.loop-step.invariant c.loop-step-test.true c.if-node.false (sym c.if-leads_to.ensures.leads) c.next_place-place.ensures.next

pub returns : goal.returns
returns c = record { probed = probes_end c.loop-step.invariant (omega (arith, c.loop-step-test.false)) }
