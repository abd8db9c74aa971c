-- `put_widths` begins each width's row with room left. Assumes nothing.
use Rattle.std.proofs.Common.{◌≡◌, ◌≤◌, length}
use Rattle.inspect_tables.proofs.put_widths.Given as goal

abbrev pub invariant-loop-w : goal.invariant-loop-w
invariant-loop-w g l = (l.p ≤ 65536) × (length l.out ≡ length l.initial.out)
