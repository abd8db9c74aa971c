-- `phase_rows` meets its contract: rows passed are turned where they have the bits, and all other rows are as they
-- were. Assumes nothing.
use Rattle.rows.proofs.PhaseSweeps.{Phased}
use Rattle.rows.proofs.phase_rows.Given as goal

abbrev pub invariant-loop-r : goal.invariant-loop-r
invariant-loop-r l = Phased l.n l.mask l.power l.initial.m l.m l.r
