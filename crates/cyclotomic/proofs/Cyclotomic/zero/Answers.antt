-- `zero` meets its contract: the constant is the element.
use mathlib.Core.Path.{refl}
use Rattle.cyclotomic.specs.Zomega.{zeroω}
use Rattle.cyclotomic.proofs.Cyclotomic.zero.Goals as goal

pub returns : goal.returns
unfolding zeroω
returns c = refl
