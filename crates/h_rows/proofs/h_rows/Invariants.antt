-- `h_rows` meets its contract: pairs whose lower row was passed are worked and all others are as they were,
-- so each pair fits when it is reached.
use Prim.Native.Nat.{◌^◌}
use Rattle.h_rows.proofs.HRows.{Halfway}
use Rattle.h_rows.proofs.h_rows.Given as goal

abbrev pub invariant-loop-r : goal.invariant-loop-r
invariant-loop-r g l = Halfway l.n l.control (2 ^ l.t) l.initial.m l.m l.r
