-- `put_coefficients` stays in its room: at most 12 bytes for each coefficient. Assumes nothing.
use Rattle.std.proofs.Common.{◌≡◌, ◌≤◌, ◌+◌, ◌*◌, length}
use Rattle.inspect_lists.proofs.put_coefficients.Given as goal

abbrev pub invariant-loop-x : goal.invariant-loop-x
invariant-loop-x l = (l.p ≤ l.at + 12 * l.x-index) × (length l.out ≡ length l.initial.out)
