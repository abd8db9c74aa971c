-- The order of the entries, in which the first two coefficients that differ decide, and the phase of an element: the
-- one power that makes a nonzero element least (SPECIFICATION 1.11). Assumes nothing.
use mathlib.Core.Path.{◌≡◌, refl, sym, ap, ◌∙◌}
use mathlib.Core.Bool.{Bool, true, false}
use Prim.Native.Nat.{ℕ, zero, suc, ◌+◌, ◌*◌, ◌%◌, ◌<◌, ◌≤◌}
use native.Mathlib.Omega.{arith}
use native.Mathlib.Decide.{dec_lt}
use native.Mathlib.Nat.{mod-lt}
use lib.IntN.{ℤ, pos, negsuc}
use lib.Signed.{lt_z}
use borrow.Author.Tests.{eq-eqb, ne_eqb, lt-ltb, le-ltb}
use Rattle.ints.specs.Lists.{pick}
use Rattle.ints.proofs.Int.{up, dn, same_is}
use Rattle.cyclotomic.specs.Zomega.{Zω, mk, zeroω, turn, or_else, less, least_up_to, phase}
use Rattle.coefficients.specs.Coefficients.{eq_z}
use Rattle.ints.proofs.Bools.{clash}
use Rattle.cyclotomic.proofs.Turns.{turn_turn, turn_mod, turn_sum, turn_back, turn_inj}

-- ---- one coefficient

data Cmp (x y : ℤ) : Type 0 where
  lt : up x + dn y < up y + dn x → Cmp x y
  eq : x ≡ y → Cmp x y
  gt : up y + dn x < up x + dn y → Cmp x y

cmp : (x y : ℤ) → Cmp x y
cmp x y = by (dec_lt (up x + dn y) (up y + dn x)) (dec_lt (up y + dn x) (up x + dn y))
  where
    by : Dec (up x + dn y < up y + dn x) → Dec (up y + dn x < up x + dn y) → Cmp x y
    by (yes p) d = lt p
    by (no n) (yes q) = gt q
    by (no n) (no m) = eq (same_is x y (omega arith))

-- one coefficient of the order, over what the later ones decide
abbrev lex : ℤ → ℤ → Bool → Bool
lex x y l = or_else (eq_z x y) (lt_z x y) l

lex_lt : (x y : ℤ) (l : Bool) → up x + dn y < up y + dn x → lex x y l ≡ true
lex_lt (pos a) (pos b) l h = rw (ne_eqb a b (λ e. omega arith), lt-ltb a b (omega arith))
lex_lt (pos a) (negsuc b) l h = absurd (omega arith)
lex_lt (negsuc a) (pos b) l h = refl
lex_lt (negsuc a) (negsuc b) l h = rw (ne_eqb a b (λ e. omega arith), lt-ltb b a (omega arith))

lex_gt : (x y : ℤ) (l : Bool) → up y + dn x < up x + dn y → lex x y l ≡ false
lex_gt (pos a) (pos b) l h = rw (ne_eqb a b (λ e. omega arith), le-ltb a b (omega arith))
lex_gt (pos a) (negsuc b) l h = refl
lex_gt (negsuc a) (pos b) l h = absurd (omega arith)
lex_gt (negsuc a) (negsuc b) l h = rw (ne_eqb a b (λ e. omega arith), le-ltb b a (omega arith))

lex_same : (x : ℤ) (l : Bool) → lex x x l ≡ l
lex_same (pos a) l = rw (eq-eqb a a refl)
lex_same (negsuc a) l = rw (eq-eqb a a refl)

lex_eq : (x y : ℤ) (l : Bool) → x ≡ y → lex x y l ≡ l
lex_eq x y l e = rw e (lex_same y l)

-- after the last coefficient nothing decides
last : (x y : ℤ) → lt_z x y ≡ lex x y false
last x y = by (cmp x y)
  where
    below_itself : (z : ℤ) → lt_z z z ≡ false
    below_itself (pos a) = le-ltb a a (omega arith)
    below_itself (negsuc a) = le-ltb a a (omega arith)

    decided : (e l : Bool) → or_else e l false ≡ or_else e l true → l ≡ or_else e l false
    decided true l h = clash h refl
    decided false l h = refl

    by : Cmp x y → lt_z x y ≡ lex x y false
    by (lt p) = decided (eq_z x y) (lt_z x y) (lex_lt x y false p ∙ sym (lex_lt x y true p))
    by (eq e) = rw e (below_itself y ∙ sym (lex_same y false))
    by (gt p) = decided (eq_z x y) (lt_z x y) (lex_gt x y false p ∙ sym (lex_gt x y true p))

trans_step : (x y z : ℤ) (p q r : Bool) → (p ≡ true → q ≡ true → r ≡ true) → lex x y p ≡ true → lex y z q ≡ true → lex x z r ≡ true
trans_step x y z p q r k h g = by (cmp x y) (cmp y z)
  where
    by : Cmp x y → Cmp y z → lex x z r ≡ true
    by (gt a) b = clash h (lex_gt x y p a)
    by (lt a) (gt b) = clash g (lex_gt y z q b)
    by (eq e) (gt b) = clash g (lex_gt y z q b)
    by (lt a) (lt b) = lex_lt x z r (omega arith)
    by (lt a) (eq f) = lex_lt x z r (omega (arith, ap up f, ap dn f))
    by (eq e) (lt b) = lex_lt x z r (omega (arith, ap up e, ap dn e))
    by (eq e) (eq f) = lex_eq x z r (e ∙ f) ∙ k (sym (lex_eq x y p e) ∙ h) (sym (lex_eq y z q f) ∙ g)

anti_step : {P : Type 0} (x y : ℤ) (p q : Bool) → (p ≡ false → q ≡ false → P) → lex x y p ≡ false → lex y x q ≡ false → (x ≡ y) × P
anti_step {P} x y p q k h g = by (cmp x y)
  where
    by : Cmp x y → (x ≡ y) × P
    by (lt a) = clash (lex_lt x y p a) h
    by (eq e) = (e, k (sym (lex_eq x y p e) ∙ h) (sym (lex_eq y x q (sym e)) ∙ g))
    by (gt a) = clash (lex_lt y x q a) g

-- ---- four coefficients

abbrev order : Zω → Zω → Bool
order x y = lex x.a y.a (lex x.b y.b (lex x.c y.c (lex x.d y.d false)))

less_is : (x y : Zω) → less x y ≡ order x y
unfolding less
less_is x y = ap (λ (l : Bool). lex x.a y.a (lex x.b y.b (lex x.c y.c l))) (last x.d y.d)

pub less_irrefl : (x : Zω) → less x x ≡ false
less_irrefl x = less_is x x ∙ simp lex_same

pub less_trans : (x y z : Zω) → less x y ≡ true → less y z ≡ true → less x z ≡ true
less_trans x y z h g =
    less_is x z
    ∙ trans_step x.a y.a z.a _ _ _
    (trans_step x.b y.b z.b _ _ _
    (trans_step x.c y.c z.c _ _ _
    (trans_step x.d y.d z.d false false false (λ p q. p))))
    (sym (less_is x y) ∙ h) (sym (less_is y z) ∙ g)

pub less_asym : (x y : Zω) → less x y ≡ true → less y x ≡ false
less_asym x y h = by (less y x) refl
  where
    by : (t : Bool) → less y x ≡ t → less y x ≡ false
    by true e = clash (less_trans x y x h e) (less_irrefl x)
    by false e = e

-- two elements neither of which is less are one
pub less_anti : (x y : Zω) → less x y ≡ false → less y x ≡ false → x ≡ y
less_anti x y h g =
    join
    (anti_step x.a y.a _ _
    (anti_step x.b y.b _ _
    (anti_step x.c y.c _ _
    (anti_step x.d y.d false false (λ p q. tt))))
    (sym (less_is x y) ∙ h) (sym (less_is y x) ∙ g))
  where
    join : (x.a ≡ y.a) × ((x.b ≡ y.b) × ((x.c ≡ y.c) × ((x.d ≡ y.d) × Unit {0}))) → x ≡ y
    join t = λ i. mk (t.0 i) (t.1.0 i) (t.1.1.0 i) (t.1.1.1.0 i)

-- x is at most y, and y at most z
pub at_most_trans : (x y z : Zω) → less y x ≡ false → less z y ≡ false → less z x ≡ false
at_most_trans x y z h g = by (less z x) refl (less x y) refl
  where
    by : (s : Bool) → less z x ≡ s → (t : Bool) → less x y ≡ t → less z x ≡ false
    by false e t f = e
    by true e true f = clash (less_trans z x y e f) g
    by true e false f = rw (less_anti x y f h) g

-- ---- the phase makes x least

-- one more power: what was least of those before, or the new one
step : (x : Zω) (k p n : ℕ) → p ≤ suc k → (p ≤ k → less (turn p x) (turn n x) ≡ false)
    → (t : Bool) → less (turn (suc k) x) (turn n x) ≡ t → Dec (k < p) → less (turn p x) (turn (pick t (suc k) n) x) ≡ false
step x k p n h ih true e (yes g) = let q : p ≡ suc k = omega arith in rw q (less_irrefl (turn (suc k) x))
step x k p n h ih false e (yes g) = let q : p ≡ suc k = omega arith in rw q e
step x k p n h ih true e (no g) =
    at_most_trans (turn (suc k) x) (turn n x) (turn p x) (less_asym (turn (suc k) x) (turn n x) e) (ih (omega arith))
step x k p n h ih false e (no g) = ih (omega arith)

least : (k : ℕ) (x : Zω) (p : ℕ) → p ≤ k → less (turn p x) (turn (least_up_to k x) x) ≡ false
unfolding least_up_to
least zero x p h = let e : p ≡ 0 = omega arith in rw e (less_irrefl (turn 0 x))
least (suc k) x p h = step x k p (least_up_to k x) h (least k x p) (less (turn (suc k) x) (turn (least_up_to k x) x)) refl (dec_lt k p)

below : (k : ℕ) (x : Zω) → least_up_to k x ≤ k
unfolding least_up_to
below zero x = omega arith
below (suc k) x = by (less (turn (suc k) x) (turn (least_up_to k x) x)) (least_up_to k x) (below k x)
  where
    by : (b : Bool) (n : ℕ) → n ≤ k → pick b (suc k) n ≤ suc k
    by true n h = omega arith
    by false n h = omega arith

pub phase_least : (x : Zω) (p : ℕ) → p < 8 → less (turn p x) (turn (phase x) x) ≡ false
phase_least x p h = least 7 x p (omega arith)

pub phase_below : (x : Zω) → phase x < 8
phase_below x = omega (arith, below 7 x)

-- the power is the only one that makes x least
pub phase_unique : (q : ℕ) (x : Zω) → (x ≡ zeroω → ⊥) → q < 8 → ((p : ℕ) → p < 8 → less (turn p x) (turn q x) ≡ false) → q ≡ phase x
phase_unique q x nz h f =
    turn_inj q (phase x) x h (phase_below x) nz (less_anti (turn q x) (turn (phase x) x) (phase_least x q h) (f (phase x) (phase_below x)))

-- ---- the least turn

-- x in its own phase: the least of its eight turns
abbrev pub canon : Zω → Zω
canon x = turn (phase x) x

in_orbit : (x y : Zω) (n : ℕ) → turn n x ≡ y → less y (canon x) ≡ false
in_orbit x y n e = rw (turn_mod n x ∙ e) at (phase_least x (n % 8) (mod-lt n (omega arith)))

-- a turn of x has the same least turn
pub canon_turn : (q : ℕ) (x : Zω) → canon (turn q x) ≡ canon x
canon_turn q x =
    less_anti (canon (turn q x)) (canon x)
    (in_orbit x (canon (turn q x)) (phase (turn q x) + q) (sym (turn_turn (phase (turn q x)) q x)))
    (in_orbit (turn q x) (canon x) (phase x + 7 * q) (sym (turn_turn (phase x) (7 * q) (turn q x)) ∙ ap (turn (phase x)) (turn_back q x)))

-- so the phase of a turn is the phase less the power turned by, by its remainder by 8
pub phase_turn : (q : ℕ) (x : Zω) → (x ≡ zeroω → ⊥) → (phase (turn q x) + q) % 8 ≡ phase x
phase_turn q x nz =
    turn_inj ((phase (turn q x) + q) % 8) (phase x) x (mod-lt (phase (turn q x) + q) (omega arith)) (phase_below x) nz
    (sym (turn_sum (phase (turn q x)) q x) ∙ canon_turn q x)
