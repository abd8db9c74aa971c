-- `circuit` meets its contract: the gates from place i on are written, and those before it are the chain of the node
-- reached. Assumes nothing.
use Rattle.std.proofs.Common.{arith}
use Rattle.synthesis_arena.proofs.Writing.{writing_none, writing_more}
use Rattle.synthesis_arena.proofs.circuit.Goals as goal

pub loop-i-init : goal.loop-i-init
loop-i-init c =
    let p = c.requires.there in
    writing_none _ _ _ _ _ _ _ c.in_ok-size.ensures.depth p.0 p.1 p.2

pub loop-i-preserved : goal.loop-i-preserved
loop-i-preserved c = writing_more _ _ _ _ _ _ _ c.loop-i.invariant (omega arith)
