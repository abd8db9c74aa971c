-- The complex conjugate of Z[omega], and finite sums of elements: what the ring's operations do to them. Assumes
-- nothing.
use mathlib.Core.Path.{◌≡◌, refl, sym, ap, ◌∙◌}
use Prim.Native.Nat.{ℕ, zero, suc, ◌+◌, ◌*◌, ◌%◌, ◌<◌}
use native.Mathlib.Omega.{arith}
use lib.IntN.{pos, ◌+ℤ◌}
use Rattle.ints.proofs.Int.{◌⊕◌, ◌⊗◌, ⊝◌}
use Rattle.ints.proofs.Poly.{solve}
use Rattle.cyclotomic.specs.Zomega.{Zω, zeroω, oneω, addω, mulω, turn, sqrt2, squares}
use Rattle.cyclotomic.proofs.Four.{Four, same4, add_e, mul_e, turn_e, sqrt2_e, X, Y, of1, of2}
use Rattle.cyclotomic.proofs.Sums.{add_zero, add_four}
use Rattle.cyclotomic.proofs.Turns.{turn_none, turn_turn, turn_mod, turn_zero, turn_add}
use Rattle.cyclotomic.proofs.Division.{sqrt2_zero, sqrt2_add}
use Rattle.cyclotomic.proofs.Squares.{square_is}
use Rattle.cyclotomic.proofs.Product.{turn_mul, mul_turn, sqrt2_mul, mul_comm}
use Rattle.exact.specs.Paper.{sumω}
use Rattle.exact.specs.Unitary.{conj}
use Rattle.exact.specs.Unitary.{total}

abbrev conj_e : Four → Four
conj_e x = record { a = x.a; b = ⊝ x.d; c = ⊝ x.c; d = ⊝ x.b }

-- the conjugate goes through sums
pub conj_add : (x y : Zω) → conj (addω x y) ≡ addω (conj x) (conj y)
unfolding conj addω
conj_add x y = same4 (of2 x y) (conj_e (add_e X Y)) (add_e (conj_e X) (conj_e Y)) tt

pub conj_zero : conj zeroω ≡ zeroω
unfolding conj zeroω
conj_zero = refl

pub conj_one : conj oneω ≡ oneω
unfolding conj oneω
conj_one = refl

pub conj_sqrt2 : (x : Zω) → conj (sqrt2 x) ≡ sqrt2 (conj x)
unfolding conj sqrt2
conj_sqrt2 x = same4 (of1 x) (conj_e (sqrt2_e X)) (sqrt2_e (conj_e X)) tt

-- the conjugate of omega is omega to the 7
pub conj_turn : (q : ℕ) (x : Zω) → conj (turn q x) ≡ turn (7 * q) (conj x)
unfolding conj turn
conj_turn zero x = refl
conj_turn (suc q) x =
    let e : 7 * suc q ≡ 7 + 7 * q = omega arith in
    same4 (of1 (turn q x)) (conj_e (turn_e 1 X)) (turn_e 7 (conj_e X)) tt
    ∙ ap (turn 7) (conj_turn q x) ∙ turn_turn 7 (7 * q) (conj x) ∙ ap (λ (p : ℕ). turn p (conj x)) (sym e)

-- one element with the conjugate of another
pub turn_conj : (p q : ℕ) (x y : Zω) → mulω (turn p x) (conj (turn q y)) ≡ turn (p + 7 * q) (mulω x (conj y))
turn_conj p q x y =
    turn_mul p x (conj (turn q y))
    ∙ ap (λ (z : Zω). turn p (mulω x z)) (conj_turn q y)
    ∙ ap (turn p) (mul_turn (7 * q) x (conj y)) ∙ turn_turn p (7 * q) (mulω x (conj y))

-- powers of omega with their conjugates are 1
pub turn_whole : (p : ℕ) (x : Zω) → turn (p + 7 * p) x ≡ x
turn_whole p x =
    let e : (p + 7 * p) % 8 ≡ 0 = omega arith in
    sym (turn_mod (p + 7 * p) x) ∙ rw e (turn_none x)

pub sqrt2_conj : (x y : Zω) → mulω (sqrt2 x) (conj (sqrt2 y)) ≡ sqrt2 (sqrt2 (mulω x (conj y)))
sqrt2_conj x y =
    sqrt2_mul x (conj (sqrt2 y))
    ∙ ap sqrt2 (ap (mulω x) (conj_sqrt2 y) ∙ mul_comm x (sqrt2 (conj y)) ∙ sqrt2_mul (conj y) x ∙ ap sqrt2 (mul_comm (conj y) x))

-- an element with its own conjugate
pub own_first : (x : Zω) → (mulω x (conj x)).a ≡ pos (squares x)
unfolding mulω conj squares
own_first x =
    solve (of1 x) (mul_e X (conj_e X)).a (X.a ⊗ X.a ⊕ X.b ⊗ X.b ⊕ X.c ⊗ X.c ⊕ X.d ⊗ X.d) tt
    ∙ (λ i. square_is x.a i +ℤ square_is x.b i +ℤ square_is x.c i +ℤ square_is x.d i)

-- ---- finite sums

pub sum_same : (m : ℕ) (f g : ℕ → Zω) → ((c : ℕ) → c < m → f c ≡ g c) → sumω m f ≡ sumω m g
sum_same zero f g h = refl
sum_same (suc m) f g h = λ i. addω (sum_same m f g (λ c l. h c (omega arith)) i) (h m (omega arith) i)

pub sum_add : (m : ℕ) (f g : ℕ → Zω) → sumω m (λ c. addω (f c) (g c)) ≡ addω (sumω m f) (sumω m g)
sum_add zero f g = sym (add_zero zeroω)
sum_add (suc m) f g = ap (λ (z : Zω). addω z (addω (f m) (g m))) (sum_add m f g) ∙ add_four (sumω m f) (sumω m g) (f m) (g m)

pub sum_turn : (p m : ℕ) (f : ℕ → Zω) → sumω m (λ c. turn p (f c)) ≡ turn p (sumω m f)
sum_turn p zero f = sym (turn_zero p)
sum_turn p (suc m) f = ap (λ (z : Zω). addω z (turn p (f m))) (sum_turn p m f) ∙ sym (turn_add p (sumω m f) (f m))

pub sum_sqrt2 : (m : ℕ) (f : ℕ → Zω) → sumω m (λ c. sqrt2 (f c)) ≡ sqrt2 (sumω m f)
sum_sqrt2 zero f = sym sqrt2_zero
sum_sqrt2 (suc m) f = ap (λ (z : Zω). addω z (sqrt2 (f m))) (sum_sqrt2 m f) ∙ sym (sqrt2_add (sumω m f) (f m))

-- where the first coefficients are naturals, the sum's is their total
pub sum_first : (m : ℕ) (f : ℕ → Zω) (g : ℕ → ℕ) → ((c : ℕ) → c < m → (f c).a ≡ pos (g c)) → (sumω m f).a ≡ pos (total m g)
unfolding addω zeroω
sum_first zero f g h = refl
sum_first (suc m) f g h = λ i. sum_first m f g (λ c l. h c (omega arith)) i +ℤ h m (omega arith) i
