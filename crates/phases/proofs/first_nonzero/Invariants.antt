-- `first_nonzero` meets its contract: every entry passed is zero, and where it returns from the loop the entry is not.
use mathlib.Core.Path.{◌≡◌}
use mathlib.Core.Bool.{true}
use Prim.Native.Nat.{ℕ, ◌<◌}
use Rattle.cyclotomic.specs.Zomega.{is_zero}
use Rattle.exact.specs.Places.{entry}
use Rattle.phases.proofs.first_nonzero.Given as goal

abbrev pub invariant-loop-e : goal.invariant-loop-e
invariant-loop-e l = (j : ℕ) → j < l.e → is_zero (entry l.m j) ≡ true
