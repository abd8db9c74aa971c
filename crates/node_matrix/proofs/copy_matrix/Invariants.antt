-- `copy_matrix` meets its contract: the first places hold the other slice's. The measure is how many places are left.
-- Assumes nothing.
use Prim.Native.Nat.{◌-◌}
use Rattle.node_matrix.specs.Matrices.{Copied}
use Rattle.node_matrix.proofs.copy_matrix.Given as goal

abbrev pub invariant-loop-i : goal.invariant-loop-i
invariant-loop-i l = Copied l.from l.initial.to l.to l.i

abbrev pub decreases-loop-i : goal.decreases-loop-i
decreases-loop-i l = l.size - l.i
