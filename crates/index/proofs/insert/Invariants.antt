-- `insert` meets its contract: what is left from the step reached is the whole insertion. Assumes nothing.
use Rattle.index.proofs.Steps.{InsertAt}
use Rattle.index.proofs.insert.Given as goal

abbrev pub invariant-loop-step : goal.invariant-loop-step
invariant-loop-step l = InsertAt l.initial.index l.fingerprint l.node l._step l.place l.index
