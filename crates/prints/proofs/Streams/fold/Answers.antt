-- `fold` meets its contract: its rotation and products are the definition's.
use Rattle.exact.specs.Fingerprint.{fold}
use Rattle.prints.proofs.Streams.fold.Goals as goal

pub returns : goal.returns
unfolding fold
returns c = rw (c.wrapping_mul-three.ensures, c.wrapping_mul-two.ensures, c.rotate_left.ensures)
