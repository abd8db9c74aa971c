-- `circuit` meets its contract: the gates from place i on are written, and those before it are the chain of the node
-- reached. Assumes nothing.
use Rattle.synthesis_arena.proofs.Writing.{Writing}
use Rattle.synthesis_arena.proofs.circuit.Given as goal

abbrev pub invariant-loop-i : goal.invariant-loop-i
invariant-loop-i l = Writing l.width l.fn.basis.0 l.parents l.codes l.limit l.node l.initial.out l.size l.i l.at l.out
