-- `copy_block` meets its contract: the places of the block so far are copied. Assumes nothing.
use mathlib.Core.Path.{◌≡◌}
use lib.ListN.{length}
use Rattle.node_matrix.specs.Matrices.{CopiedOn}
use Rattle.node_matrix.proofs.copy_block.Given as goal

abbrev pub invariant-loop-i : goal.invariant-loop-i
invariant-loop-i l = (length l.to ≡ length l.initial.to) × CopiedOn l.from l.initial.to l.to l.start l.i
