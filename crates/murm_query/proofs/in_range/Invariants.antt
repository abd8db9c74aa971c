-- `in_range` meets its contract: the least tells of the coefficients passed.
use Rattle.murm_query.proofs.Least.{LeastTo}
use Rattle.murm_query.proofs.in_range.Given as goal

abbrev pub invariant-loop-x : goal.invariant-loop-x
invariant-loop-x l = LeastTo l.entries l.x-index l.least
