-- `coefficient_space` meets its contract. Assumes nothing.
use mathlib.Core.Path.{refl}
use Rattle.circuits_answers.specs.Replies.{lent_most}
use Rattle.circuits_answers.proofs.coefficient_space.Goals as goal

pub returns : goal.returns
unfolding lent_most
returns c = refl
