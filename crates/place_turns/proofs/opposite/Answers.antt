-- `opposite` meets its contract: a coefficient's negative is four places on, and a negative's four places back. Assumes
-- nothing.
use native.Mathlib.Omega.{arith}
use Rattle.place_turns.proofs.Eights.{opposite_on, opposite_back}
use Rattle.place_turns.proofs.opposite.Goals as goal

pub returns-then-place-lt4 : goal.returns-then-place-lt4
returns-then-place-lt4 c = opposite_on _ c.if-place-lt4.true

pub returns : goal.returns
returns c = opposite_back _ (omega arith) c.requires
