-- `checked_add` meets its contract: what `plus` says of each coefficient, put into what `narrowed` says.
use borrow.Author.Rules.{rules}
use Rattle.cyclotomic.specs.Zomega.{addω}
use Rattle.checked_sums.proofs.checked_add.Goals as goal

pub returns : goal.returns
unfolding addω
returns c = search rules
