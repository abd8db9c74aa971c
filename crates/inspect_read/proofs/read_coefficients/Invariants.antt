-- `read_coefficients` fills no more places than there are, and its place rises. Assumes nothing.
use mathlib.Core.Path.{◌≡◌}
use Prim.Native.Nat.{◌≤◌, ◌-◌}
use lib.ListN.{length}
use Rattle.inspect_read.proofs.read_coefficients.Given as goal

abbrev pub invariant-loop-p : goal.invariant-loop-p
invariant-loop-p l =
    (l.p ≤ length l.line) × (l.k ≤ length l.coefficients) × (length l.coefficients ≡ length l.initial.coefficients)

abbrev pub decreases-loop-p : goal.decreases-loop-p
decreases-loop-p l = length l.line - l.p
