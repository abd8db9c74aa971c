-- `exchange_places` meets its contract: the first i places of both runs are exchanged, and as the runs do not overlap
-- the next two are unchanged.
use Rattle.rows.specs.Work.{Exchanged}
use Rattle.rows.proofs.exchange_places.Given as goal

abbrev pub invariant-loop-i : goal.invariant-loop-i
invariant-loop-i l = Exchanged l.initial.m l.m l.p l.q l.i
