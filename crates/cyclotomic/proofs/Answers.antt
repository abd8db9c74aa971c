-- What the tests of the ring say: coefficients within the limit, two coefficients the same, an element zero. Assumes
-- nothing.
use mathlib.Core.Path.{◌≡◌, refl, sym, ap, ◌∙◌}
use mathlib.Core.Bool.{Bool, true, false, ◌&&◌}
use Prim.Native.Nat.{ℕ, ◌*◌}
use lib.IntN.{ℤ, pos, negsuc, nat_abs}
use Rattle.std.specs.Cmp.{signed_Decides}
use Rattle.std.specs.Ordering.{int_eq}
use borrow.Author.Tests.{leb-true, le-leb, eqb-true, eq-eqb}
use Rattle.cyclotomic.specs.Zomega.{Zω, mk, zeroω, turn, eqω, is_zero, fits, Small}
use Rattle.coefficients.specs.Coefficients.{limit, eq_z, within}
use Rattle.ints.proofs.Bools.{clash, both_true, iff}
use Rattle.cyclotomic.proofs.Turns.{turn_back, turn_zero}

-- four tests that all pass
both4 : (p q r s : Bool) → p && q && r && s ≡ true → (p ≡ true) × (q ≡ true) × (r ≡ true) × (s ≡ true)
both4 p q r s h =
    let abc = both_true (p && q && r) s h in
    let ab = both_true (p && q) r abc.0 in
    let a = both_true p q ab.0 in
    (a.0, a.1, ab.1, abc.1)

pub fits_small : (x : Zω) → fits x ≡ true → Small x
unfolding fits
fits_small x h =
    let t = both4 (within x.a) (within x.b) (within x.c) (within x.d) h in
    record {
      a_small = leb-true (nat_abs x.a) limit t.0;
      b_small = leb-true (nat_abs x.b) limit t.1;
      c_small = leb-true (nat_abs x.c) limit t.2;
      d_small = leb-true (nat_abs x.d) limit t.3;
    }

pub small_fits : (x : Zω) → Small x → fits x ≡ true
unfolding fits
small_fits x s =
    let a = le-leb (nat_abs x.a) limit s.a_small in
    let b = le-leb (nat_abs x.b) limit s.b_small in
    let c = le-leb (nat_abs x.c) limit s.c_small in
    let d = le-leb (nat_abs x.d) limit s.d_small in
    λ i. a i && b i && c i && d i

pub eq_z-true : (x y : ℤ) → eq_z x y ≡ true → x ≡ y
eq_z-true (pos a) (pos b) h = ap pos (eqb-true a b h)
eq_z-true (pos a) (negsuc b) h = clash h refl
eq_z-true (negsuc a) (pos b) h = clash h refl
eq_z-true (negsuc a) (negsuc b) h = ap negsuc (eqb-true a b h)

pub eq_z-self : (x : ℤ) → eq_z x x ≡ true
eq_z-self (pos a) = eq-eqb a a refl
eq_z-self (negsuc a) = eq-eqb a a refl

-- the derived equality is that of the definition
int_eq_is : (x y : ℤ) → int_eq x y ≡ eq_z x y
int_eq_is x y =
    let d = signed_Decides x y in
    iff (int_eq x y) (eq_z x y)
    (λ h. ap (eq_z x) (sym (d.0 h)) ∙ eq_z-self x)
    (λ h. d.1 (eq_z-true x y h))

pub eq_is : (x y : Zω) → int_eq x.a y.a && (int_eq x.b y.b && (int_eq x.c y.c && int_eq x.d y.d)) ≡ eqω x y
unfolding eqω
eq_is x y = λ i. int_eq_is x.a y.a i && (int_eq_is x.b y.b i && (int_eq_is x.c y.c i && int_eq_is x.d y.d i))

pub zero_yes : (x : Zω) → is_zero x ≡ true → x ≡ zeroω
unfolding is_zero zeroω
zero_yes x h =
    let t = both4 (eq_z x.a (pos 0)) (eq_z x.b (pos 0)) (eq_z x.c (pos 0)) (eq_z x.d (pos 0)) h in
    λ i. mk (eq_z-true x.a (pos 0) t.0 i) (eq_z-true x.b (pos 0) t.1 i) (eq_z-true x.c (pos 0) t.2 i) (eq_z-true x.d (pos 0) t.3 i)

pub zero_no : (x : Zω) → is_zero x ≡ false → x ≡ zeroω → ⊥
unfolding is_zero zeroω
zero_no x h e = clash (ap is_zero e) h

pub zero_is : (x : Zω) → x ≡ zeroω → is_zero x ≡ true
unfolding is_zero zeroω
zero_is x e = ap is_zero e

pub zero_turn : (p : ℕ) (x : Zω) → is_zero (turn p x) ≡ is_zero x
zero_turn p x =
    iff (is_zero (turn p x)) (is_zero x)
    (λ h. zero_is x (sym (turn_back p x) ∙ ap (turn (7 * p)) (zero_yes (turn p x) h) ∙ turn_zero (7 * p)))
    (λ h. zero_is (turn p x) (ap (turn p) (zero_yes x h) ∙ turn_zero p))
