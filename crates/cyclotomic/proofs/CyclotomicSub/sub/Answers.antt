-- `sub` meets its contract: the four differences of coefficients are within the limit by what is required, so narrowing
-- keeps them. Assumes nothing.
use borrow.Author.Rules.{rules}
use Rattle.cyclotomic.specs.Zomega.{subω}
use Rattle.cyclotomic.proofs.CyclotomicSub.sub.Goals as goal

pub narrowed-requires : goal.narrowed-requires
unfolding subω
narrowed-requires c = search rules

pub returns : goal.returns
unfolding subω
returns c = search rules
