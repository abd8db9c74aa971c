-- `least_power` meets its contract: before each turn `least` is the least of the powers below `power`, step by step as
-- `least_up_to` has it.
use mathlib.Core.Path.{◌≡◌}
use Prim.Native.Nat.{◌-◌}
use Rattle.cyclotomic.specs.Zomega.{turn, least_up_to, Small}
use Rattle.phases.proofs.least_power.Given as goal

abbrev pub invariant-loop-power : goal.invariant-loop-power
invariant-loop-power l =
    (l.least ≡ least_up_to (l.power - 1) l.initial.turned) × (l.best ≡ turn l.least l.initial.turned) × (l.turned ≡ turn (l.power - 1) l.initial.turned) × Small l.turned
