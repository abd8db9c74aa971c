-- `node_ahead` meets its contract, by each look-up. Assumes nothing.
use mathlib.Core.Path.{sym}
use Rattle.std.proofs.Common.{arith}
use Rattle.walk.specs.Index.{indexed}
use Rattle.walk.proofs.Indexed.{looked_node}
use Rattle.looked_ahead.proofs.node_ahead.Goals as goal

-- a node that is found lies below the count, so its number has 32 bits
pub overflow_cast-result : goal.overflow_cast-result
overflow_cast-result c =
    let p = c.args.part in
    let w = looked_node indexed p.index.now p.fingerprints.now p.count 0 c.args.print _ (sym c.in-Some.ensures.probed) in
    omega (arith, w.below, c.requires.within.1)
