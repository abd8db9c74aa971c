-- `put_ones` meets its contract: the rows so far are the identity's, the others 0. Assumes nothing.
use Prim.Native.Nat.{◌^◌, ◌<◌}
use native.Mathlib.Nat.{mul-add}
use native.Mathlib.Omega.{arith}
use Rattle.places.proofs.Placed.{place_fits}
use Rattle.identity.proofs.Filling.{filled_none, filled_more, filled_end}
use Rattle.identity.proofs.put_ones.Goals as goal

pub loop-i-init : goal.loop-i-init
loop-i-init c = filled_none _ c.requires.all_zero

pub put_at-requires : goal.put_at-requires
put_at-requires c =
    let row : c.loop-i.i < 2 ^ c.args.n = omega (arith, c.dim-d.ensures) in
    rw c.dim-d.ensures
    (omega (arith, mul-add c.loop-i.i (2 ^ c.args.n) 1, place_fits _ _ _ c.requires.n_bound row row))

pub loop-i-preserved : goal.loop-i-preserved
loop-i-preserved c =
    let row : c.loop-i.i < 2 ^ c.args.n = omega (arith, c.dim-d.ensures) in
    filled_more _ _ c.requires.n_bound c.loop-i.invariant row
    c.put_at.ensures c.one.ensures
    (rw c.dim-d.ensures
    (omega (arith, mul-add c.loop-i.i (2 ^ c.args.n) 1)))

pub returns-clause-identity : goal.returns-clause-identity
returns-clause-identity c = filled_end _ _ c.loop-i.invariant (omega (arith, c.dim-d.ensures))
