-- `normalize_denominator` meets its contract: the lowest form stays as it was, and at the end the places hold it.
-- Assumes nothing.
use Rattle.lowering.proofs.Lowering.{Lowering}
use Rattle.lowering.proofs.normalize_denominator.Given as goal

abbrev pub invariant-loop-j : goal.invariant-loop-j
invariant-loop-j l = Lowering l.n l.k l.initial.m l.j l.m

abbrev pub decreases-loop-j : goal.decreases-loop-j
decreases-loop-j l = l.j
