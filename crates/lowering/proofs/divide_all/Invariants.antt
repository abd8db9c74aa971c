-- `divide_all` meets its contract: the entries so far are divided, and the others are as they were. Assumes nothing.
use Rattle.lowering.specs.Lowered.{Divided}
use Rattle.lowering.proofs.divide_all.Given as goal

abbrev pub invariant-loop-e : goal.invariant-loop-e
invariant-loop-e l = Divided l.initial.m l.m l.e
