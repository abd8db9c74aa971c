-- `put_at` meets its contract: it stores the entry's four places in turn.
use borrow.Author.Rules.{rules}
use Rattle.places.specs.Places.{put}
use Rattle.places.proofs.put_at.Goals as goal

pub returns : goal.returns
unfolding put
returns c = search rules
