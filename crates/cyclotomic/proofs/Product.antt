-- The product of Z[omega]: a commutative ring with one, in which a turn is the product with a power of omega, and
-- `sqrt2` the one with √2. Assumes nothing.
use mathlib.Core.Path.{◌≡◌, refl, sym, ap, ◌∙◌}
use Prim.Native.Nat.{ℕ, zero, suc}
use Rattle.cyclotomic.specs.Zomega.{Zω, zeroω, oneω, addω, subω, mulω, turn1, turn, sqrt2}
use Rattle.cyclotomic.proofs.Four.{same4, zero_e, one_e, add_e, sub_e, mul_e, turn_e, sqrt2_e, X, Y, Z, of1, of2, of3}

pub mul_comm : (x y : Zω) → mulω x y ≡ mulω y x
unfolding mulω
mul_comm x y = same4 (of2 x y) (mul_e X Y) (mul_e Y X) tt

pub mul_assoc : (x y z : Zω) → mulω (mulω x y) z ≡ mulω x (mulω y z)
unfolding mulω
mul_assoc x y z = same4 (of3 x y z) (mul_e (mul_e X Y) Z) (mul_e X (mul_e Y Z)) tt

pub one_mul : (x : Zω) → mulω oneω x ≡ x
unfolding mulω oneω
one_mul x = same4 (of1 x) (mul_e one_e X) X tt

pub mul_one : (x : Zω) → mulω x oneω ≡ x
mul_one x = mul_comm x oneω ∙ one_mul x

pub zero_mul : (x : Zω) → mulω zeroω x ≡ zeroω
unfolding mulω zeroω
zero_mul x = same4 (of1 x) (mul_e zero_e X) zero_e tt

pub mul_zero : (x : Zω) → mulω x zeroω ≡ zeroω
mul_zero x = mul_comm x zeroω ∙ zero_mul x

pub mul_add : (x y z : Zω) → mulω x (addω y z) ≡ addω (mulω x y) (mulω x z)
unfolding mulω addω
mul_add x y z = same4 (of3 x y z) (mul_e X (add_e Y Z)) (add_e (mul_e X Y) (mul_e X Z)) tt

pub add_mul : (x y z : Zω) → mulω (addω x y) z ≡ addω (mulω x z) (mulω y z)
unfolding mulω addω
add_mul x y z = same4 (of3 x y z) (mul_e (add_e X Y) Z) (add_e (mul_e X Z) (mul_e Y Z)) tt

pub mul_sub : (x y z : Zω) → mulω x (subω y z) ≡ subω (mulω x y) (mulω x z)
unfolding mulω subω
mul_sub x y z = same4 (of3 x y z) (mul_e X (sub_e Y Z)) (sub_e (mul_e X Y) (mul_e X Z)) tt

-- ---- turns

pub turn_mul : (p : ℕ) (x y : Zω) → mulω (turn p x) y ≡ turn p (mulω x y)
unfolding mulω turn
turn_mul zero x y = refl
turn_mul (suc p) x y = same4 (of2 (turn p x) y) (mul_e (turn_e 1 X) Y) (turn_e 1 (mul_e X Y)) tt ∙ ap turn1 (turn_mul p x y)

pub mul_turn : (p : ℕ) (x y : Zω) → mulω x (turn p y) ≡ turn p (mulω x y)
mul_turn p x y = mul_comm x (turn p y) ∙ turn_mul p y x ∙ ap (turn p) (mul_comm y x)

pub turn_is_mul : (p : ℕ) (x : Zω) → turn p x ≡ mulω (turn p oneω) x
turn_is_mul p x = sym (turn_mul p oneω x ∙ ap (turn p) (one_mul x))

-- ---- √2

pub sqrt2_mul : (x y : Zω) → mulω (sqrt2 x) y ≡ sqrt2 (mulω x y)
unfolding mulω sqrt2
sqrt2_mul x y = same4 (of2 x y) (mul_e (sqrt2_e X) Y) (sqrt2_e (mul_e X Y)) tt

pub sqrt2_is_mul : (x : Zω) → sqrt2 x ≡ mulω (sqrt2 oneω) x
sqrt2_is_mul x = sym (sqrt2_mul oneω x ∙ ap sqrt2 (one_mul x))
