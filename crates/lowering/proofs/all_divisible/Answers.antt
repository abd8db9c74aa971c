-- `all_divisible` meets its contract: the entries so far are divisible. Assumes nothing.
use mathlib.Core.Path.{sym, ap, ◌∙◌}
use native.Mathlib.Omega.{arith}
use Rattle.cyclotomic.specs.Zomega.{divisible}
use Rattle.places.proofs.Placed.{divisible_yes, divisible_no}
use Rattle.lowering.proofs.all_divisible.Goals as goal

pub returns-then-not-divisible_by_sqrt_2 : goal.returns-then-not-divisible_by_sqrt_2
returns-then-not-divisible_by_sqrt_2 c =
    sym
    (divisible_no _ _ _ (omega (arith, c.area-size.ensures))
    (ap divisible (sym c.get.ensures) ∙ sym c.divisible_by_sqrt_2.ensures ∙ c.if-not-divisible_by_sqrt_2.true))

pub returns : goal.returns
returns c = sym (divisible_yes _ _ (λ j h. c.loop-e.invariant j (omega (arith, c.area-size.ensures))))
