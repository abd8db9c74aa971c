-- `equivalent_up_to_global_phase` meets its contract: every place passed is alike once the left one is turned, and
-- where it returns from the loop the place is not.
use mathlib.Core.Path.{◌≡◌}
use mathlib.Core.Bool.{true}
use Prim.Native.Nat.{ℕ, ◌<◌}
use Rattle.up_to_phase.proofs.Alike.{alike}
use Rattle.up_to_phase.proofs.equivalent_up_to_global_phase.Given as goal

abbrev pub invariant-loop-e : goal.invariant-loop-e
invariant-loop-e l = (i : ℕ) → i < l.e → alike l.left l.right l.turns i ≡ true
