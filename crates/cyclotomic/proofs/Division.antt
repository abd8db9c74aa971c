-- Products with √2 and quotients by it, in Z[omega]: `divisible` is exact, and `over_sqrt2` is the quotient.
-- Assumes nothing.
use mathlib.Core.Path.{◌≡◌, refl, sym, ap, ◌∙◌}
use mathlib.Core.Bool.{true, ◌&&◌}
use Prim.Native.Nat.{ℕ, zero, suc, ◌+◌, ◌*◌, ◌/◌, ◌%◌}
use native.Mathlib.Omega.{arith}
use lib.IntN.{ℤ, pos, negsuc, neg_ℤ, ◌+ℤ◌, ◌-ℤ◌}
use borrow.Author.Tests.{eqb-true, eq-eqb}
use Rattle.ints.proofs.Int.{Is, up, dn, add_is, neg_is, same_is}
use Rattle.ints.proofs.Machine.{abs_is}
use Rattle.cyclotomic.specs.Zomega.{Zω, mk, zeroω, addω, subω, turn1, turn, sqrt2, divisible, over_sqrt2}
use Rattle.coefficients.specs.Coefficients.{parity, same_parity, half}
use Rattle.ints.proofs.Bools.{both_true, iff}
use Rattle.cyclotomic.proofs.Four.{same4, add_e, sub_e, turn_e, sqrt2_e, X, Y, of1, of2}
use Rattle.cyclotomic.proofs.Turns.{turn_back}

-- ---- √2 and the other operations

pub sqrt2_add : (x y : Zω) → sqrt2 (addω x y) ≡ addω (sqrt2 x) (sqrt2 y)
unfolding sqrt2 addω
sqrt2_add x y = same4 (of2 x y) (sqrt2_e (add_e X Y)) (add_e (sqrt2_e X) (sqrt2_e Y)) tt

-- √2 is omega − omega³
pub sqrt2_is_sub : (x : Zω) → sqrt2 x ≡ subω (turn 1 x) (turn 3 x)
unfolding sqrt2 subω turn
sqrt2_is_sub x = same4 (of1 x) (sqrt2_e X) (sub_e (turn_e 1 X) (turn_e 3 X)) tt

pub sqrt2_zero : sqrt2 zeroω ≡ zeroω
unfolding sqrt2 zeroω
sqrt2_zero = refl

pub turn_sqrt2 : (p : ℕ) (x : Zω) → turn p (sqrt2 x) ≡ sqrt2 (turn p x)
unfolding turn sqrt2
turn_sqrt2 zero x = refl
turn_sqrt2 (suc p) x = ap turn1 (turn_sqrt2 p x) ∙ same4 (of1 (turn p x)) (turn_e 1 (sqrt2_e X)) (sqrt2_e (turn_e 1 X)) tt

-- √2 · √2 = 2: a sum and a difference give twice each of the two
pub twice_sum : (x y : Zω) → addω (addω x y) (subω x y) ≡ sqrt2 (sqrt2 x)
unfolding addω subω sqrt2
twice_sum x y = same4 (of2 x y) (add_e (add_e X Y) (sub_e X Y)) (sqrt2_e (sqrt2_e X)) tt

pub twice_sub : (x y : Zω) → subω (addω x y) (subω x y) ≡ sqrt2 (sqrt2 y)
unfolding addω subω sqrt2
twice_sub x y = same4 (of2 x y) (sub_e (add_e X Y) (sub_e X Y)) (sqrt2_e (sqrt2_e Y)) tt

-- ---- halves

half_is : (z : ℤ) → Is (half z) (up z / 2) (dn z / 2)
half_is (pos n) = omega arith
half_is (negsuc n) = omega (arith, neg_is (pos (suc n / 2)))

half_double : (z : ℤ) → half (z +ℤ z) ≡ z
half_double z = same_is (half (z +ℤ z)) z (omega (arith, half_is (z +ℤ z), add_is z z))

double_half : (z : ℤ) → parity z ≡ 0 → half z +ℤ half z ≡ z
double_half z h = same_is (half z +ℤ half z) z (omega (arith, half_is z, add_is (half z) (half z), abs_is z))

parity_add : (x y : ℤ) → parity (x +ℤ y) ≡ (parity x + parity y) % 2
parity_add x y = omega (arith, abs_is x, abs_is y, abs_is (x +ℤ y), add_is x y)

parity_sub : (x y : ℤ) → parity (x -ℤ y) ≡ (parity x + parity y) % 2
parity_sub x y = omega (arith, abs_is x, abs_is y, neg_is y, abs_is (x -ℤ y), add_is x (neg_ℤ y))

-- ---- the quotient. It is the half of √2 times x, and √2 · √2 = 2

abbrev halves : Zω → Zω
halves x = mk (half x.a) (half x.b) (half x.c) (half x.d)

pub sqrt2_sqrt2 : (x : Zω) → sqrt2 (sqrt2 x) ≡ addω x x
unfolding sqrt2 addω
sqrt2_sqrt2 x = same4 (of1 x) (sqrt2_e (sqrt2_e X)) (add_e X X) tt

pub over_sqrt2_lem : (x : Zω) → over_sqrt2 (sqrt2 x) ≡ x
unfolding over_sqrt2 sqrt2 addω
over_sqrt2_lem x =
    ap halves (sqrt2_sqrt2 x)
    ∙ (λ i. mk (half_double x.a i) (half_double x.b i) (half_double x.c i) (half_double x.d i))

pub sqrt2_cancel : (x y : Zω) → sqrt2 x ≡ sqrt2 y → x ≡ y
sqrt2_cancel x y e = sym (over_sqrt2_lem x) ∙ ap over_sqrt2 e ∙ over_sqrt2_lem y

pub sqrt2_over : (x : Zω) → divisible x ≡ true → sqrt2 (over_sqrt2 x) ≡ x
unfolding divisible over_sqrt2 sqrt2 addω
sqrt2_over x h =
    let t = both_true (same_parity x.a x.c) (same_parity x.b x.d) h in
    let ac = eqb-true (parity x.a) (parity x.c) t.0 in
    let bd = eqb-true (parity x.b) (parity x.d) t.1 in
    let a = double_half (x.b -ℤ x.d) (omega (arith, parity_sub x.b x.d)) in
    let b = double_half (x.a +ℤ x.c) (omega (arith, parity_add x.a x.c)) in
    let c = double_half (x.b +ℤ x.d) (omega (arith, parity_add x.b x.d)) in
    let d = double_half (x.c -ℤ x.a) (omega (arith, parity_sub x.c x.a)) in
    sqrt2_cancel (sqrt2 (over_sqrt2 x)) x (sqrt2_sqrt2 (over_sqrt2 x) ∙ (λ i. mk (a i) (b i) (c i) (d i)))

pub sqrt2_divisible : (x : Zω) → divisible (sqrt2 x) ≡ true
unfolding divisible sqrt2
sqrt2_divisible x =
    let bd = eq-eqb (parity (x.b -ℤ x.d)) (parity (x.b +ℤ x.d)) (omega (arith, parity_sub x.b x.d, parity_add x.b x.d)) in
    let ac = eq-eqb (parity (x.a +ℤ x.c)) (parity (x.c -ℤ x.a)) (omega (arith, parity_add x.a x.c, parity_sub x.c x.a)) in
    λ i. bd i && ac i

-- `divisible` says that √2 times some element is x
pub divisible_exactly : (x : Zω) → (divisible x ≡ true → (y : Zω) × (sqrt2 y ≡ x)) × ((y : Zω) → sqrt2 y ≡ x → divisible x ≡ true)
divisible_exactly x = (λ h. (over_sqrt2 x, sqrt2_over x h), λ y e. rw e at (sqrt2_divisible y))

-- ---- turns

turn_divisible : (p : ℕ) (x : Zω) → divisible x ≡ true → divisible (turn p x) ≡ true
turn_divisible p x h =
    (divisible_exactly (turn p x)).1 (turn p (over_sqrt2 x)) (sym (turn_sqrt2 p (over_sqrt2 x)) ∙ ap (turn p) (sqrt2_over x h))

pub divisible_turn : (p : ℕ) (x : Zω) → divisible (turn p x) ≡ divisible x
divisible_turn p x =
    iff (divisible (turn p x)) (divisible x) (λ h. rw turn_back at (turn_divisible (7 * p) (turn p x) h)) (turn_divisible p x)
