-- `put_parts` begins each width's line with room left. Assumes nothing.
use Rattle.std.proofs.Common.{◌≡◌, ◌≤◌, length}
use Rattle.inspect_index.proofs.put_parts.Given as goal

abbrev pub invariant-loop-w : goal.invariant-loop-w
invariant-loop-w g l = (l.p ≤ 65536) × (length l.out ≡ length l.initial.out)
