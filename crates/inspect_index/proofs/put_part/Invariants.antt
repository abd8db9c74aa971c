-- `put_part` begins each place's line with room left. Assumes nothing.
use Rattle.std.proofs.Common.{◌≡◌, ◌≤◌, length}
use Rattle.inspect_index.proofs.put_part.Given as goal

abbrev pub invariant-loop-i : goal.invariant-loop-i
invariant-loop-i g l = (l.p ≤ 65536) × (length l.out ≡ length l.initial.out)
