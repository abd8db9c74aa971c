-- `put_nodes` begins each node's line with room left. Assumes nothing.
use Rattle.std.proofs.Common.{◌≡◌, ◌≤◌, length}
use Rattle.inspect_tables.proofs.put_nodes.Given as goal

abbrev pub invariant-loop-i : goal.invariant-loop-i
invariant-loop-i g l = (l.p ≤ 65536) × (length l.out ≡ length l.initial.out)
