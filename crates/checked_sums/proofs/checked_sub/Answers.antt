-- `checked_sub` meets its contract: what `minus` says of each coefficient, put into what `narrowed` says.
use borrow.Author.Rules.{rules}
use Rattle.cyclotomic.specs.Zomega.{subω}
use Rattle.checked_sums.proofs.checked_sub.Goals as goal

pub returns : goal.returns
unfolding subω
returns c = search rules
