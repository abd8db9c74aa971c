-- `may_have` meets its contract: node by node, whether one that was passed has the fingerprint.
-- Assumes nothing.
use Rattle.walk.proofs.Lookups.{passed_more}
use Rattle.synthesis_arena.proofs.may_have.Goals as goal

pub loop-i-preserved : goal.loop-i-preserved
loop-i-preserved c =
    let l = c.loop-i.invariant in
    (l.0, passed_more l.1 c.loop-i-test.true c.low.ensures.half l.0)
