-- `add` meets its contract: the four sums of coefficients are within the limit by what is required, so narrowing
-- keeps them. Assumes nothing.
use borrow.Author.Rules.{rules}
use Rattle.cyclotomic.specs.Zomega.{addω}
use Rattle.cyclotomic.proofs.CyclotomicAdd.add.Goals as goal

pub narrowed-requires : goal.narrowed-requires
unfolding addω
narrowed-requires c = search rules

pub returns : goal.returns
unfolding addω
returns c = search rules
