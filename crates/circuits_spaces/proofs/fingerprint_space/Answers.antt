-- `fingerprint_space` meets its contract. Assumes nothing.
use mathlib.Core.Path.{refl}
use Rattle.circuits_output.specs.Output.{lent_places}
use Rattle.circuits_spaces.proofs.fingerprint_space.Goals as goal

pub returns : goal.returns
unfolding lent_places
returns c = refl
