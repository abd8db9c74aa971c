-- `one` meets its contract: the constant is the element.
use mathlib.Core.Path.{refl}
use Rattle.cyclotomic.specs.Zomega.{oneω}
use Rattle.cyclotomic.proofs.Cyclotomic.one.Goals as goal

pub returns : goal.returns
unfolding oneω
returns c = refl
