-- `probe` meets its contract: what is left from the step reached is the whole probe. Assumes nothing.
use Rattle.index.proofs.Steps.{ProbeAt}
use Rattle.index.proofs.probe.Given as goal

abbrev pub invariant-loop-step : goal.invariant-loop-step
invariant-loop-step l = ProbeAt l.index l.fingerprints l.count l.from l.fingerprint l._step l.place
