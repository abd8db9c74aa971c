-- Sums of elements of Z[omega].
-- Assumes nothing.
use mathlib.Core.Path.{◌≡◌}
use Rattle.cyclotomic.specs.Zomega.{Zω, zeroω, addω}
use Rattle.cyclotomic.proofs.Four.{same4, zero_e, add_e, X, Y, Z, W, of1, of2, of4}

pub add_comm : (x y : Zω) → addω x y ≡ addω y x
unfolding addω
add_comm x y = same4 (of2 x y) (add_e X Y) (add_e Y X) tt

-- the two in the middle change places
pub add_four : (x y z w : Zω) → addω (addω x y) (addω z w) ≡ addω (addω x z) (addω y w)
unfolding addω
add_four x y z w = same4 (of4 x y z w) (add_e (add_e X Y) (add_e Z W)) (add_e (add_e X Z) (add_e Y W)) tt

pub add_zero : (x : Zω) → addω x zeroω ≡ x
unfolding addω zeroω
add_zero x = same4 (of1 x) (add_e X zero_e) X tt

pub zero_add : (x : Zω) → addω zeroω x ≡ x
unfolding addω zeroω
zero_add x = same4 (of1 x) (add_e zero_e X) X tt
