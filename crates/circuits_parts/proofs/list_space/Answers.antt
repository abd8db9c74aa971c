-- `list_space` meets its contract. Assumes nothing.
use mathlib.Core.Path.{refl}
use Rattle.circuits_parts.specs.Texts.{lent_list}
use Rattle.circuits_parts.proofs.list_space.Goals as goal

pub returns : goal.returns
unfolding lent_list
returns c = refl
