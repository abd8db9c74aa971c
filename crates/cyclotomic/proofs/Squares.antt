-- The sum of the squares of the coefficients: turns keep it, √2 doubles it, and where it is below a square the
-- coefficients are within the root. Turns and quotients by √2 keep coefficients within the limit. Assumes nothing.
use mathlib.Core.Path.{◌≡◌, refl, sym, ap, ◌∙◌}
use mathlib.Core.Bool.{true}
use mathlib.Core.List.{List}
use Prim.Native.Nat.{ℕ, zero, suc, ◌+◌, ◌*◌, ◌/◌, ◌<◌, ◌≤◌}
use native.Mathlib.Omega.{arith}
use native.Mathlib.Nat.{mul-le-mul}
use native.Mathlib.Decide.{dec_le}
use lib.Dec.{T}
use lib.IntN.{ℤ, pos, negsuc, nat_abs, neg_ℤ, ◌+ℤ◌, ◌-ℤ◌, ◌*ℤ◌}
use Rattle.ints.proofs.Int.{Ex, ◌⊕◌, ◌⊗◌, value, int, up, dn, add_is}
use Rattle.ints.proofs.Machine.{abs_is, abs_neg}
use Rattle.ints.proofs.Poly.{solve}
use Rattle.cyclotomic.specs.Zomega.{Zω, zeroω, oneω, addω, subω, turn, sqrt2, divisible, over_sqrt2, square, squares, WithinBound, Small}
use Rattle.coefficients.specs.Coefficients.{limit, half}
use Rattle.cyclotomic.proofs.Four.{Four, at, equal, add_e, sub_e, turn_e, sqrt2_e, X, Y, of1, of2}
use Rattle.cyclotomic.proofs.Division.{sqrt2_over}

-- ---- the sum of squares of an expression

abbrev squares_e : Four → Ex
squares_e x = x.a ⊗ x.a ⊕ x.b ⊗ x.b ⊕ x.c ⊗ x.c ⊕ x.d ⊗ x.d

pub square_is : (z : ℤ) → z *ℤ z ≡ pos (square z)
square_is (pos n) = refl
square_is (negsuc n) = refl

squares_is : (ρ : List ℤ) (x : Four) → value ρ (squares_e x) ≡ pos (squares (at ρ x))
unfolding squares
squares_is ρ x =
    λ i. square_is (value ρ x.a) i +ℤ square_is (value ρ x.b) i +ℤ square_is (value ρ x.c) i +ℤ square_is (value ρ x.d) i

-- an identity of integers, between naturals
natural : (ρ : List ℤ) (e f : Ex) {m n : ℕ} → value ρ e ≡ pos m → value ρ f ≡ pos n → T (equal e f) → m ≡ n
natural ρ e f p q t = ap up (sym p ∙ solve ρ e f t ∙ q)

-- ---- the ring's operations

pub squares_turn : (p : ℕ) (x : Zω) → squares (turn p x) ≡ squares x
unfolding turn
squares_turn zero x = refl
squares_turn (suc p) x = once (of1 (turn p x)) ∙ squares_turn p x
  where
    once : (ρ : List ℤ) → squares (at ρ (turn_e 1 X)) ≡ squares (at ρ X)
    once ρ = natural ρ (squares_e (turn_e 1 X)) (squares_e X) (squares_is ρ (turn_e 1 X)) (squares_is ρ X) tt

pub squares_sqrt2 : (x : Zω) → squares (sqrt2 x) ≡ 2 * squares x
unfolding sqrt2
squares_sqrt2 x =
    natural (of1 x) (squares_e (sqrt2_e X)) (int 2 ⊗ squares_e X)
    (squares_is (of1 x) (sqrt2_e X)) (λ i. pos 2 *ℤ squares_is (of1 x) X i) tt

pub squares_over : (x : Zω) → divisible x ≡ true → 2 * squares (over_sqrt2 x) ≡ squares x
squares_over x h = sym (squares_sqrt2 (over_sqrt2 x)) ∙ ap squares (sqrt2_over x h)

pub squares_sum : (x y : Zω) → squares (addω x y) + squares (subω x y) ≡ 2 * squares x + 2 * squares y
unfolding addω subω
squares_sum x y =
    natural (of2 x y) (squares_e (add_e X Y) ⊕ squares_e (sub_e X Y)) (int 2 ⊗ squares_e X ⊕ int 2 ⊗ squares_e Y)
    (λ i. squares_is (of2 x y) (add_e X Y) i +ℤ squares_is (of2 x y) (sub_e X Y) i)
    (λ i. pos 2 *ℤ squares_is (of2 x y) X i +ℤ pos 2 *ℤ squares_is (of2 x y) Y i) tt

-- ---- coefficients within a bound

-- a number whose square is below (k + 1)² is at most k
pub root : (n k : ℕ) → n * n < suc k * suc k → n ≤ k
root n k h = by (dec_le n k)
  where
    by : Dec (n ≤ k) → n ≤ k
    by (yes g) = g
    by (no g) =
        let above : suc k ≤ n = omega arith in
        absurd (omega (arith, mul-le-mul above above))

pub small_of_squares : (b : ℕ) (x : Zω) → squares x < suc b * suc b → WithinBound b x
unfolding squares
small_of_squares b x h = record {
  a_small = root (nat_abs x.a) b (omega arith);
  b_small = root (nat_abs x.b) b (omega arith);
  c_small = root (nat_abs x.c) b (omega arith);
  d_small = root (nat_abs x.d) b (omega arith);
}

pub small_zero : Small zeroω
unfolding zeroω
small_zero = omega arith

pub small_one : Small oneω
unfolding oneω
small_one = omega arith

pub small_turn : (p : ℕ) (x : Zω) → Small x → Small (turn p x)
unfolding turn
small_turn zero x s = s
small_turn (suc p) x s =
    let t = small_turn p x s in
    record { a_small = rw (abs_neg (turn p x).d) t.d_small; b_small = t.a_small; c_small = t.b_small; d_small = t.c_small }

half_small : (k : ℕ) (z : ℤ) → (up z ≤ dn z + 2 * k) × (dn z ≤ up z + 2 * k) → nat_abs (half z) ≤ k
half_small k (pos n) h = omega arith
half_small k (negsuc n) h = rw (abs_neg (pos (suc n / 2))) (omega arith)

half_add : (k : ℕ) (x y : ℤ) → nat_abs x ≤ k → nat_abs y ≤ k → nat_abs (half (x +ℤ y)) ≤ k
half_add k x y h g = half_small k (x +ℤ y) (omega (arith, abs_is x, abs_is y, add_is x y))

half_sub : (k : ℕ) (x y : ℤ) → nat_abs x ≤ k → nat_abs y ≤ k → nat_abs (half (x -ℤ y)) ≤ k
half_sub k x y h g = half_add k x (neg_ℤ y) h (rw (abs_neg y) g)

pub small_over : (x : Zω) → Small x → Small (over_sqrt2 x)
unfolding over_sqrt2
small_over x s = record {
  a_small = half_sub limit x.b x.d s.b_small s.d_small;
  b_small = half_add limit x.a x.c s.a_small s.c_small;
  c_small = half_add limit x.b x.d s.b_small s.d_small;
  d_small = half_sub limit x.c x.a s.c_small s.a_small;
}
