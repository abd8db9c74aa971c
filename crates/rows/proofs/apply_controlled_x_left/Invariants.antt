-- `apply_controlled_x_left` meets its contract: the pairs whose lower row is below r are done, the others are as they
-- were.
use Prim.Native.Nat.{◌^◌}
use Rattle.exact.specs.Places.{read}
use Rattle.rows.specs.Rows.{low_row, exchange_rows}
use Rattle.rows.proofs.Sweeps.{Swept}
use Rattle.rows.proofs.apply_controlled_x_left.Given as goal

abbrev pub invariant-loop-r : goal.invariant-loop-r
invariant-loop-r l = Swept l.n (low_row (2 ^ l.t)) l.initial.m (exchange_rows l.control (2 ^ l.t) (read l.n l.initial.m)) l.m l.r
