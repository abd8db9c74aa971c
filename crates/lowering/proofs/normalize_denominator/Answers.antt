-- `normalize_denominator` meets its contract: the lowest form stays as it was, and at the end the places hold it.
-- Assumes nothing.
use mathlib.Core.Path.{sym, ◌∙◌}
use native.Mathlib.Omega.{arith}
use Rattle.places.proofs.Placed.{area_le}
use Rattle.lowering.proofs.Lowering.{lowering_more, lowering_end}
use Rattle.lowering.proofs.normalize_denominator.Goals as goal

pub all_divisible-requires-clause-n_in_bounds : goal.all_divisible-requires-clause-n_in_bounds
all_divisible-requires-clause-n_in_bounds c =
    omega (arith, c.loop-j.invariant.long, area_le c.args.n c.requires.n_bound)

pub returns-else-all_divisible-clause-lowered : goal.returns-else-all_divisible-clause-lowered
returns-else-all_divisible-clause-lowered c =
    (lowering_end _ _ _ c.loop-j.invariant (λ h. sym c.all_divisible.ensures ∙ c.if-all_divisible.false)).0

pub loop-j-preserved : goal.loop-j-preserved
loop-j-preserved c =
    lowering_more _ _ _ _ c.loop-j.invariant (omega arith)
    (sym c.all_divisible.ensures ∙ c.if-all_divisible.true)
    c.divide_all.array_long c.divide_all.ensures.divided c.divide_all.ensures.kept

pub returns-after-loop-j-clause-lowered : goal.returns-after-loop-j-clause-lowered
returns-after-loop-j-clause-lowered c = (lowering_end _ _ _ c.loop-j.invariant (λ h. absurd (omega arith))).0
