-- `put_queries` meets its contract: one line after the other; the place rises. Assumes nothing.
use Prim.Native.Nat.{◌+◌, ◌-◌, ◌*◌, ◌≤◌}
use lib.ListN.{length}
use Rattle.circuits_answers.specs.Told.{told_record, told_arrays}
use Rattle.circuits_built.proofs.Asking.{Asking}
use Rattle.circuits_built.proofs.put_queries.Given as goal

abbrev pub invariant-loop-i : goal.invariant-loop-i
invariant-loop-i l =
    Asking (told_record l.table) (told_arrays l.table) l.later l.at l.initial.out l.out l.p l.i × (l.at + 187 * length l.later + 756 ≤ length l.initial.out)

abbrev pub decreases-loop-i : goal.decreases-loop-i
decreases-loop-i l = length l.later - l.i
