-- `turn_row` meets its contract: what it turned so far is turned, and the next entry is as it was. Assumes nothing.
use Rattle.rows.specs.Work.{Turned}
use Rattle.rows.proofs.turn_row.Given as goal

abbrev pub invariant-loop-i : goal.invariant-loop-i
invariant-loop-i l = Turned l.power l.initial.m l.m l.e l.i
