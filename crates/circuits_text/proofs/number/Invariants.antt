-- `number` meets its contract: the digits passed write v, and those left go on from it. Assumes nothing.
use Rattle.circuits_text.proofs.Split.{Numbering}
use Rattle.circuits_text.proofs.number.Given as goal

abbrev pub invariant-loop-b : goal.invariant-loop-b
invariant-loop-b l = Numbering l.word l.v l.b-index
