-- `all_divisible` meets its contract: the entries so far are divisible. Assumes nothing.
use mathlib.Core.Path.{◌≡◌}
use mathlib.Core.Bool.{true}
use Prim.Native.Nat.{ℕ, ◌<◌}
use Rattle.cyclotomic.specs.Zomega.{divisible}
use Rattle.exact.specs.Places.{entry}
use Rattle.lowering.proofs.all_divisible.Given as goal

abbrev pub invariant-loop-e : goal.invariant-loop-e
invariant-loop-e l = (j : ℕ) → j < l.e → divisible (entry l.m j) ≡ true
