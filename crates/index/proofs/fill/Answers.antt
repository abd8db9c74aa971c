-- `fill` meets its contract: after i turns the nodes below i are in the part. Assumes nothing.
use Rattle.std.proofs.Common.{◌<◌, get_or-take, length-take, arith}
use Rattle.index.proofs.Steps.{fill_start, fill_more}
use Rattle.index.proofs.fill.Goals as goal

pub loop-i-init : goal.loop-i-init
loop-i-init c = fill_start c.args.fingerprints.now c.args.index.now c.clear.ensures.cleared

pub loop-i-preserved : goal.loop-i-preserved
loop-i-preserved c =
    let below : c.loop-i.i < c.args.count = omega (arith, length-take c.args.count c.args.fingerprints.now) in
    fill_more _ _ _ c.loop-i.invariant (rw get_or-take at c.insert.ensures.inserted)
