-- `put_ones` meets its contract: the rows so far are the identity's, the others 0. Assumes nothing.
use Rattle.identity.proofs.Filling.{PlacesFilled}
use Rattle.identity.proofs.put_ones.Given as goal

abbrev pub invariant-loop-i : goal.invariant-loop-i
invariant-loop-i l = PlacesFilled l.n l.initial.m l.m l.i
