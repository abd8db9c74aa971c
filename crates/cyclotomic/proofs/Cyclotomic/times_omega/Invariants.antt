-- `times_omega` meets its contract: after as many single turns as are counted it is the turn by that count. Assumes
-- nothing.
use mathlib.Core.Path.{◌≡◌}
use Prim.Native.Nat.{ℕ}
use Rattle.cyclotomic.specs.Zomega.{Zω, turn, Small}
use Rattle.cyclotomic.proofs.Cyclotomic.times_omega.Given as goal

pub record Turning (z₀ z : Zω) (i : ℕ) : Type 0 where
  pub is : z ≡ turn i z₀
  pub small : Small z

abbrev pub invariant-loop : goal.invariant-loop
invariant-loop l = Turning l.initial.z l.z l.counter
