-- Turns of an element of Z[omega], its products with the powers of omega: a turn by 8 is none, turns add up, and the
-- eight turns of a nonzero element differ. Assumes nothing.
use mathlib.Core.Path.{◌≡◌, refl, sym, ap, ◌∙◌}
use mathlib.Core.Logic.{◌↔◌}
use Prim.Native.Nat.{ℕ, zero, suc, ◌+◌, ◌*◌, ◌/◌, ◌%◌, ◌<◌}
use native.Mathlib.Omega.{arith}
use native.Mathlib.Decide.{ℕ_discrete}
use native.Mathlib.Nat.{zero-add, suc-add, zero-mul, suc-mul, add_comm, mod-lt}
use lib.IntN.{ℤ, pos, neg_ℤ}
use Rattle.ints.proofs.Int.{up, dn, neg_is, same_is}
use Rattle.cyclotomic.specs.Zomega.{Zω, mk, zeroω, addω, subω, turn1, turn, TurnsAdd}
use Rattle.cyclotomic.proofs.Four.{same4, add_e, turn_e, X, Y, of1, of2}

pub turn_turn : (p q : ℕ) (x : Zω) → turn p (turn q x) ≡ turn (p + q) x
unfolding turn
turn_turn zero q x = rw (zero-add q)
turn_turn (suc p) q x = rw (suc-add p q) (ap turn1 (turn_turn p q x))

pub turn_8 : (x : Zω) → turn 8 x ≡ x
unfolding turn
turn_8 x = same4 (of1 x) (turn_e 8 X) X tt

turn_8s : (k r : ℕ) (x : Zω) → turn (k * 8 + r) x ≡ turn r x
turn_8s zero r x = rw (zero-mul 8, zero-add r)
turn_8s (suc k) r x =
    let e : suc k * 8 + r ≡ 8 + (k * 8 + r) = omega arith in
    rw (e, ← turn_turn 8 (k * 8 + r) x, turn_8) (turn_8s k r x)

pub turn_mod : (p : ℕ) (x : Zω) → turn (p % 8) x ≡ turn p x
turn_mod p x =
    let e : p / 8 * 8 + p % 8 ≡ p = omega arith in
    sym (turn_8s (p / 8) (p % 8) x) ∙ ap (λ (n : ℕ). turn n x) e

-- omega^p · omega^q = omega^((p + q) mod 8)
pub turn_sum : (p q : ℕ) (x : Zω) → turn p (turn q x) ≡ turn ((p + q) % 8) x
turn_sum p q x = turn_turn p q x ∙ sym (turn_mod (p + q) x)

-- the law of the paper's turns, for the powers from 0 to 7
pub turns_add : TurnsAdd
turns_add = record { adds = λ p q _ _ x. turn_sum q p x ∙ ap (λ (k : ℕ). turn (k % 8) x) (add_comm q p) }

pub turn_comm : (p q : ℕ) (x : Zω) → turn p (turn q x) ≡ turn q (turn p x)
turn_comm p q x = turn_turn p q x ∙ ap (λ (n : ℕ). turn n x) (add_comm p q) ∙ sym (turn_turn q p x)

pub turn_none : (x : Zω) → turn 0 x ≡ x
unfolding turn
turn_none x = refl

-- with seven more turns by the same power the element is as it was
pub turn_back : (p : ℕ) (x : Zω) → turn (7 * p) (turn p x) ≡ x
turn_back p x =
    let e : (7 * p + p) % 8 ≡ 0 = omega arith in
    turn_sum (7 * p) p x ∙ rw e (turn_none x)

-- ---- sums

pub turn_zero : (p : ℕ) → turn p zeroω ≡ zeroω
unfolding turn zeroω
turn_zero zero = refl
turn_zero (suc p) = ap turn1 (turn_zero p)

pub turn_add : (p : ℕ) (x y : Zω) → turn p (addω x y) ≡ addω (turn p x) (turn p y)
unfolding turn addω
turn_add zero x y = refl
turn_add (suc p) x y = ap turn1 (turn_add p x y) ∙ same4 (of2 (turn p x) (turn p y)) (turn_e 1 (add_e X Y)) (add_e (turn_e 1 X) (turn_e 1 Y)) tt

-- a difference is a sum with the turn by 4
pub sub_is : (x y : Zω) → subω x y ≡ addω x (turn 4 y)
unfolding subω addω turn
sub_is x y = refl

pub turn_sub : (p : ℕ) (x y : Zω) → turn p (subω x y) ≡ subω (turn p x) (turn p y)
turn_sub p x y = rw (sub_is x y, sub_is (turn p x) (turn p y), turn_comm 4 p y) (turn_add p x (turn 4 y))

-- ---- the eight turns of a nonzero element

neg_self : (z : ℤ) → neg_ℤ z ≡ z → z ≡ pos 0
neg_self z h = same_is z (pos 0) (omega (arith, neg_is z, ap up h, ap dn h))

four_zero : (x : Zω) → turn 4 x ≡ x → x ≡ zeroω
unfolding turn zeroω
four_zero x e =
    λ i. mk (neg_self x.a (λ j. (e j).a) i) (neg_self x.b (λ j. (e j).b) i)
    (neg_self x.c (λ j. (e j).c) i) (neg_self x.d (λ j. (e j).d) i)

again : (n p : ℕ) (x : Zω) → turn p x ≡ x → turn (n * p) x ≡ x
again zero p x e = rw (zero-mul p) (turn_none x)
again (suc n) p x e = rw (suc-mul n p, ← turn_turn (n * p) p x, e) (again n p x e)

-- only the power 0 leaves a nonzero element as it is: any other, taken once, twice or four times, is a turn by 4
pub turn_fixes : (p : ℕ) (x : Zω) → p < 8 → (x ≡ zeroω → ⊥) → turn p x ≡ x → p ≡ 0
turn_fixes p x h n e = by (ℕ_discrete ((1 * p) % 8) 4) (ℕ_discrete ((2 * p) % 8) 4) (ℕ_discrete ((4 * p) % 8) 4)
  where
    half_turn : (k : ℕ) → (k * p) % 8 ≡ 4 → p ≡ 0
    half_turn k g = absurd (n (four_zero x (rw g at (turn_mod (k * p) x) ∙ again k p x e)))

    by : Dec ((1 * p) % 8 ≡ 4) → Dec ((2 * p) % 8 ≡ 4) → Dec ((4 * p) % 8 ≡ 4) → p ≡ 0
    by (yes g) b c = half_turn 1 g
    by (no f) (yes g) c = half_turn 2 g
    by (no f) (no g) (yes k) = half_turn 4 k
    by (no f) (no g) (no k) = omega arith

-- a nonzero element has eight different turns
pub turn_inj : (m n : ℕ) (x : Zω) → m < 8 → n < 8 → (x ≡ zeroω → ⊥) → turn m x ≡ turn n x → m ≡ n
turn_inj m n x hm hn nz e =
    let fixed : turn ((7 * n + m) % 8) x ≡ x = sym (turn_sum (7 * n) m x) ∙ ap (turn (7 * n)) e ∙ turn_back n x in
    let z = turn_fixes ((7 * n + m) % 8) x (mod-lt (7 * n + m) (omega arith)) nz fixed in
    omega arith

-- and so two powers turn it alike exactly where they leave one remainder
pub eight_different : (m n : ℕ) (x : Zω) → (x ≡ zeroω → ⊥) → (turn m x ≡ turn n x) ↔ (m % 8 ≡ n % 8)
eight_different m n x nz = (
  λ e. turn_inj (m % 8) (n % 8) x (mod-lt m (omega arith)) (mod-lt n (omega arith)) nz (turn_mod m x ∙ e ∙ sym (turn_mod n x)),
  λ e. sym (turn_mod m x) ∙ ap (λ (k : ℕ). turn k x) e ∙ turn_mod n x,
)
