-- `phase_rows` meets its contract: rows passed are turned where they have the bits, and all other rows are as they
-- were. Assumes nothing.
use Prim.Native.Nat.{◌^◌, ◌<◌}
use native.Mathlib.Omega.{arith}
use Rattle.places.proofs.Placed.{row_le}
use Rattle.rows.proofs.PhaseSweeps.{phase_turn, phase_pass}
use Rattle.rows.proofs.phase_rows.Goals as goal
use Rattle.rows.proofs.phase_rows.Goals.{then-r-mask, else-r-mask}

pub turn_row-requires-clause-c_bound : goal.turn_row-requires-clause-c_bound
turn_row-requires-clause-c_bound c =
    let e = c.dim-d.ensures in
    rw e (row_le c.args.n c.loop-r.r c.requires.n_bound (omega (arith, e)))

pub loop-r-preserved : goal.loop-r-preserved
loop-r-preserved c =
    let w = c.loop-r.invariant in
    let e = c.dim-d.ensures in
    let b : c.loop-r.r < 2 ^ c.args.n = omega (arith, e) in
    elim c.if-r-mask.branch [
      | then-r-mask t ↦ rw t.m-is (phase_turn _ _ _ _ _ w b t.if-r-mask.true (rw e at t.turn_row.ensures))
      | else-r-mask t ↦ rw t.m-is (phase_pass _ _ _ _ _ w b t.if-r-mask.false)
    ]
