-- `h_fits` meets its contract: where every pair, tested at its lower row, fits, so does the whole result,
-- and a pair that does not is part of it.
use Prim.Native.Nat.{◌^◌}
use Rattle.h_rows.proofs.HRows.{FitsTo}
use Rattle.h_rows.proofs.h_fits.Given as goal

abbrev pub invariant-loop-r : goal.invariant-loop-r
invariant-loop-r g l = FitsTo l.n l.control (2 ^ l.t) l.m l.r
