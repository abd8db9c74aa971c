-- `check_lent` meets its contract: the rows by the lengths are those of the arrays. Assumes nothing.
use Rattle.murm_find.proofs.check_lent.Goals as goal

pub returns : goal.returns
returns c =
    let checked = c.check_find.ensures in
    record {
      told = rw c.places_in.ensures.0 at checked.told;
      small = checked.small;
    }
