-- The measure is the node's number: a parent lies below its node. Assumes nothing.
use Rattle.synthesis_arena.proofs.+depth.Given as goal

abbrev pub decreases-depth : goal.decreases-depth
decreases-depth l = l.node
