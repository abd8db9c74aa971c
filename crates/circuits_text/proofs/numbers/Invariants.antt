-- `numbers` meets its contract: the words passed are numbers and stand in the list. Assumes nothing.
use Rattle.circuits_text.proofs.Split.{Reading}
use Rattle.circuits_text.proofs.numbers.Given as goal

abbrev pub invariant-loop-k : goal.invariant-loop-k
invariant-loop-k l = Reading l.line l.initial.list l.list l.p l.k
