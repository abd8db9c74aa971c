-- `lines` is safe and ends: each line begins with room left, and the place rises. Assumes nothing.
use Rattle.std.proofs.Common.{◌≡◌, ◌≤◌, ◌-◌, length}
use Rattle.inspect.proofs.lines.Given as goal

abbrev pub invariant-loop-at : goal.invariant-loop-at
invariant-loop-at g l =
    (l.filled ≤ 65536) ×
    (length l.out ≡ length l.initial.out) ×
    (length l.fingerprints ≡ length l.initial.fingerprints) ×
    (length l.parents ≡ length l.initial.parents) ×
    (length l.codes ≡ length l.initial.codes) ×
    (length l.index ≡ length l.initial.index)

abbrev pub decreases-loop-at : goal.decreases-loop-at
decreases-loop-at g l = length l.input - l.at
