-- `put_hex` meets its contract: the digits from i on are in their places. Assumes nothing.
use Rattle.circuits_text.proofs.Placing.{Hexing}
use Rattle.circuits_text.proofs.put_hex.Given as goal

abbrev pub invariant-loop-i : goal.invariant-loop-i
invariant-loop-i l = Hexing l.initial.out l.at l.n l.out l.rest l.i
