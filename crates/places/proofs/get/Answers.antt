-- `get` meets its contract: it reads the entry's four places.
use borrow.Author.Rules.{rules}
use Rattle.exact.specs.Places.{entry}
use Rattle.places.proofs.get.Goals as goal

pub returns : goal.returns
unfolding entry
returns c = search rules
