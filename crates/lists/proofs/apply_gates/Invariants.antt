-- `apply_gates` meets its contract: after each gate the places hold the product so far, and the rest of the list says
-- whether all of it fits. Assumes nothing.
use Rattle.places.specs.Places.{Kept}
use Rattle.lists.proofs.Walking.{Walking}
use Rattle.lists.proofs.apply_gates.Given as goal

abbrev pub invariant-loop-i : goal.invariant-loop-i
invariant-loop-i l = Walking l.n l.codes l.i l.k l.m × Kept l.n l.initial.m l.m
