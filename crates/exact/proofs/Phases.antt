-- The phase of a matrix, and what `up_to_phase` decides: exponents are equal and one power of omega takes each entry of
-- the one to the other's; of matrices in lowest denominator, that the one is a power of omega times the other by value.
-- Assumes nothing.
use mathlib.Core.Path.{◌≡◌, refl, sym, ap, ◌∙◌}
use mathlib.Core.Logic.{◌↔◌}
use mathlib.Core.Bool.{Bool, true, false, ◌&&◌}
use Prim.Native.Nat.{ℕ, zero, suc, ◌+◌, ◌*◌, ◌^◌, ◌/◌, ◌%◌, ◌≤◌, ◌<◌}
use native.Mathlib.Omega.{arith}
use native.Mathlib.Nat.{mod-lt, div-lt_iff_lt-mul, suc-mul, mul-le-mul_right}
use borrow.Author.Tests.{eqb-true, eq-eqb}
use lib.Dec.{eqb}
use lib.Pow.{pow_pos, high, low}
use Rattle.ints.specs.Lists.{pick}
use Rattle.ints.proofs.Bools.{iff, both_true, and_both}
use Rattle.cyclotomic.specs.Zomega.{eqω, Zω, mk, zeroω, turn, is_zero, less, least_up_to, phase}
use Rattle.coefficients.specs.Coefficients.{eq_z}
use Rattle.cyclotomic.proofs.Turns.{turn_sum, turn_back, turn_zero}
use Rattle.cyclotomic.proofs.Order
use Rattle.cyclotomic.proofs.Order.{phase_turn}
use Rattle.cyclotomic.proofs.Answers.{eq_z-true, eq_z-self, zero_yes, zero_no, zero_is, zero_turn}
use Rattle.exact.specs.Matrix.{Exact, Lowest, all_entries, turned, PowerOf}
use Rattle.exact.proofs.Words.{Equal}
use Rattle.exact.specs.Phase.{flat, first_nonzero, pivot, phase_of, phased, up_to_phase}
use Rattle.exact.proofs.Values.{entries_to, entries_from, equal_sym, equal_trans, equal_same, unique, turned_lowest}

-- ---- tests of entries

pub eqω_true : (x y : Zω) → eqω x y ≡ true → x ≡ y
unfolding eqω
eqω_true x y h =
    let t = both_true (eq_z x.a y.a) (eq_z x.b y.b && (eq_z x.c y.c && eq_z x.d y.d)) h in
    let u = both_true (eq_z x.b y.b) (eq_z x.c y.c && eq_z x.d y.d) t.1 in
    let v = both_true (eq_z x.c y.c) (eq_z x.d y.d) u.1 in
    λ i. mk (eq_z-true x.a y.a t.0 i) (eq_z-true x.b y.b u.0 i)
    (eq_z-true x.c y.c v.0 i) (eq_z-true x.d y.d v.1 i)

eqω_self : (x : Zω) → eqω x x ≡ true
unfolding eqω
eqω_self x = λ i. eq_z-self x.a i && (eq_z-self x.b i && (eq_z-self x.c i && eq_z-self x.d i))

pub eq_eqω : (x y : Zω) → x ≡ y → eqω x y ≡ true
eq_eqω x y e = ap (eqω x) (sym e) ∙ eqω_self x

-- ---- the first that is not zero

pick_turn : (p : ℕ) (b : Bool) (x y : Zω) → pick b (turn p x) (turn p y) ≡ turn p (pick b x y)
pick_turn p true x y = refl
pick_turn p false x y = refl

first_turned : (m p : ℕ) (f : ℕ → Zω) → first_nonzero m (λ i. turn p (f i)) ≡ turn p (first_nonzero m f)
first_turned zero p f = sym (turn_zero p)
first_turned (suc m) p f =
    (λ i. pick (zero_turn p (f 0) i) (first_turned m p (λ j. f (suc j)) i) (turn p (f 0)))
    ∙ pick_turn p (is_zero (f 0)) (first_nonzero m (λ i. f (suc i))) (f 0)

first_same : (m : ℕ) (f g : ℕ → Zω) → ((i : ℕ) → i < m → f i ≡ g i) → first_nonzero m f ≡ first_nonzero m g
first_same zero f g h = refl
first_same (suc m) f g h =
    let one = h 0 (omega arith) in
    λ i. pick (is_zero (one i)) (first_same m (λ j. f (suc j)) (λ j. g (suc j)) (λ j q. h (suc j) (omega arith)) i) (one i)

first_zero : (m : ℕ) (f : ℕ → Zω) → first_nonzero m f ≡ zeroω → (i : ℕ) → i < m → f i ≡ zeroω
first_zero zero f h i q = absurd (omega arith)
first_zero (suc m) f h i q = by (is_zero (f 0)) refl i q (first_zero m (λ t. f (suc t)))
  where
    rest : Zω
    rest = first_nonzero m (λ t. f (suc t))

    by : (b : Bool) → is_zero (f 0) ≡ b → (i : ℕ) → i < suc m → (rest ≡ zeroω → (j : ℕ) → j < m → f (suc j) ≡ zeroω)
        → f i ≡ zeroω
    by true e zero q u = zero_yes (f 0) e
    by true e (suc i) q u = u (ap (λ (b : Bool). pick b rest (f 0)) (sym e) ∙ h) i (omega arith)
    by false e i q u = absurd (zero_no (f 0) e (ap (λ (b : Bool). pick b rest (f 0)) (sym e) ∙ h))

first_none : (m : ℕ) (f : ℕ → Zω) → ((i : ℕ) → i < m → f i ≡ zeroω) → first_nonzero m f ≡ zeroω
first_none zero f h = refl
first_none (suc m) f h =
    ap (λ (b : Bool). pick b (first_nonzero m (λ i. f (suc i))) (f 0)) (zero_is (f 0) (h 0 (omega arith)))
    ∙ first_none m (λ i. f (suc i)) (λ i q. h (suc i) (omega arith))

phase_zero : phase zeroω ≡ 0
unfolding least_up_to turn less zeroω
phase_zero = refl

module _ (n : ℕ) where
  -- ---- entries by row and column, and by their place

  pub row_lt : (i : ℕ) → i < 2 ^ n * 2 ^ n → i / 2 ^ n < 2 ^ n
  row_lt i h = (div-lt_iff_lt-mul (pow_pos n)).1 h

  pub col_lt : (i : ℕ) → i % 2 ^ n < 2 ^ n
  col_lt i = mod-lt i (pow_pos n)

  pub at_flat : (e : ℕ → ℕ → Zω) (r c : ℕ) → c < 2 ^ n → flat n e (r * 2 ^ n + c) ≡ e r c
  at_flat e r c h = λ i. e (high r n h i) (low r n h i)

  pub flat_lt : (r c : ℕ) → r < 2 ^ n → c < 2 ^ n → r * 2 ^ n + c < 2 ^ n * 2 ^ n
  flat_lt r c p q = let m : suc r * 2 ^ n ≤ 2 ^ n * 2 ^ n = mul-le-mul_right (2 ^ n) p in omega (arith, suc-mul r (2 ^ n))

  pub flat_equal : {x y : Exact} → Equal n x y → (i : ℕ) → i < 2 ^ n * 2 ^ n → flat n x.e i ≡ flat n y.e i
  flat_equal w i h = w.entries (i / 2 ^ n) (i % 2 ^ n) (row_lt i h) (col_lt i)

  -- ---- the first entry that is not zero

  pub pivot_turned : (p : ℕ) (x : Exact) → pivot n (turned p x) ≡ turn p (pivot n x)
  unfolding pivot
  pivot_turned p x = first_turned (2 ^ n * 2 ^ n) p (flat n x.e)

  pub pivot_equal : {x y : Exact} → Equal n x y → pivot n x ≡ pivot n y
  unfolding pivot
  pivot_equal {x} {y} w = first_same (2 ^ n * 2 ^ n) (flat n x.e) (flat n y.e) (flat_equal w)

  -- it is zero only if every entry is, and then it is
  pub pivot_zero : (x : Exact) → pivot n x ≡ zeroω → (r c : ℕ) → r < 2 ^ n → c < 2 ^ n → x.e r c ≡ zeroω
  unfolding pivot
  pivot_zero x h r c p q =
      sym (at_flat x.e r c q) ∙ first_zero (2 ^ n * 2 ^ n) (flat n x.e) h (r * 2 ^ n + c) (flat_lt r c p q)

  pub zero_pivot : (x : Exact) → ((r c : ℕ) → r < 2 ^ n → c < 2 ^ n → x.e r c ≡ zeroω) → pivot n x ≡ zeroω
  unfolding pivot
  zero_pivot x h = first_none (2 ^ n * 2 ^ n) (flat n x.e) (λ i p. h (i / 2 ^ n) (i % 2 ^ n) (row_lt i p) (col_lt i))

  -- ---- the phase

  -- no power makes the pivot less than the phase does
  pub phase_least : (x : Exact) (p : ℕ) → p < 8 → less (turn p (pivot n x)) (turn (phase_of n x) (pivot n x)) ≡ false
  unfolding phase_of
  phase_least x p h = Order.phase_least (pivot n x) p h

  -- the zero matrix has phase 0 (SPECIFICATION 1.11)
  pub phase_of_zero : (x : Exact) → ((r c : ℕ) → r < 2 ^ n → c < 2 ^ n → x.e r c ≡ zeroω) → phase_of n x ≡ 0
  unfolding phase_of
  phase_of_zero x h = ap phase (zero_pivot x h) ∙ phase_zero

  pub phase_equal : {x y : Exact} → Equal n x y → phase_of n x ≡ phase_of n y
  unfolding phase_of
  phase_equal w = ap phase (pivot_equal w)

  pub phased_equal : {x y : Exact} → Equal n x y → Equal n (phased n x) (phased n y)
  phased_equal w = record { exponent = w.exponent; entries = λ r c p q i. turn (phase_equal w i) (w.entries r c p q i) }

  pub phased_turned : (p : ℕ) (x : Exact) → Equal n (phased n (turned p x)) (phased n x)
  unfolding phase_of
  phased_turned p x = record {
    exponent = refl;
    entries = λ r c i j. ap (λ (z : Zω). turn (phase z) (turn p (x.e r c))) (pivot_turned p x) ∙ by r c i j (is_zero (pivot n x)) refl;
  }
    where
      after : ℕ
      after = phase (turn p (pivot n x))

      by : (r c : ℕ) → r < 2 ^ n → c < 2 ^ n → (b : Bool) → is_zero (pivot n x) ≡ b
          → turn after (turn p (x.e r c)) ≡ turn (phase (pivot n x)) (x.e r c)
      by r c i j true e =
          let z = pivot_zero x (zero_yes (pivot n x) e) r c i j in
          rw (z, turn_zero p, turn_zero after, turn_zero (phase (pivot n x)))
      by r c i j false e =
          turn_sum after p (x.e r c)
          ∙ ap (λ (m : ℕ). turn m (x.e r c)) (phase_turn p (pivot n x) (zero_no (pivot n x) e))

  -- ---- the test

  -- the test of one entry of the two phased matrices
  abbrev alike : Exact → Exact → ℕ → ℕ → Bool
  alike x y r c = eqω ((phased n x).e r c) ((phased n y).e r c)

  pub test_phased : (x y : Exact) → up_to_phase n x y ≡ true → Equal n (phased n x) (phased n y)
  unfolding up_to_phase
  test_phased x y h =
      let t = both_true (eqb x.k y.k) (all_entries n (alike x y)) h in
      record {
        exponent = eqb-true x.k y.k t.0;
        entries = λ r c p q. eqω_true ((phased n x).e r c) ((phased n y).e r c) (entries_to n (alike x y) t.1 r c p q);
      }

  pub phased_test : (x y : Exact) → Equal n (phased n x) (phased n y) → up_to_phase n x y ≡ true
  unfolding up_to_phase
  phased_test x y w =
      and_both (eqb x.k y.k) (all_entries n (alike x y)) (eq-eqb x.k y.k w.exponent)
      (entries_from n (alike x y) (λ r c p q. eq_eqω ((phased n x).e r c) ((phased n y).e r c) (w.entries r c p q)))

  pub up_sym : (x y : Exact) → up_to_phase n x y ≡ true → up_to_phase n y x ≡ true
  up_sym x y h = phased_test y x (equal_sym n (test_phased x y h))

  pub up_trans : (x y z : Exact) → up_to_phase n x y ≡ true → up_to_phase n y z ≡ true → up_to_phase n x z ≡ true
  up_trans x y z h g = phased_test x z (equal_trans n (test_phased x y h) (test_phased y z g))

  -- ---- one power of omega

  -- to x's phase, and back from y's
  pub test_power : (x y : Exact) → up_to_phase n x y ≡ true → (p : ℕ) × (p < 8) × Equal n (turned p x) y
  test_power x y h = ((back + phase_of n x) % 8, mod-lt (back + phase_of n x) (omega arith), record { exponent = same.exponent; entries = to })
    where
      back : ℕ
      back = 7 * phase_of n y

      same : Equal n (phased n x) (phased n y)
      same = test_phased x y h

      to : (r c : ℕ) → r < 2 ^ n → c < 2 ^ n → turn ((back + phase_of n x) % 8) (x.e r c) ≡ y.e r c
      to r c p q =
          sym (turn_sum back (phase_of n x) (x.e r c)) ∙ ap (turn back) (same.entries r c p q) ∙ turn_back (phase_of n y) (y.e r c)

  pub power_test : (p : ℕ) (x y : Exact) → p < 8 → Equal n (turned p x) y → up_to_phase n x y ≡ true
  power_test p x y h w = phased_test x y (equal_trans n (equal_sym n (phased_turned p x)) (phased_equal w))

  -- of equal matrices the test is the same
  pub up_equal : (x : Exact) {y z : Exact} → Equal n y z → up_to_phase n x y ≡ up_to_phase n x z
  up_equal x {y} {z} w =
      iff (up_to_phase n x y) (up_to_phase n x z) (λ h. phased_test x z (equal_trans n (test_phased x y h) (phased_equal w)))
      (λ h. phased_test x y (equal_trans n (test_phased x z h) (equal_sym n (phased_equal w))))

  pub up_to_phase_exactly : (x y : Exact) → (up_to_phase n x y ≡ true) ↔ ((p : ℕ) × (p < 8) × Equal n (turned p x) y)
  up_to_phase_exactly x y = (test_power x y, λ t. power_test t.0 x y t.1 t.2)

  -- by value
  pub power_of_test : (x y : Exact) → up_to_phase n x y ≡ true → PowerOf n x y
  power_of_test x y h = let t = test_power x y h in record { power = t.0; small = t.1; same = equal_same n t.2 }

  pub test_of_power : {x y : Exact} → Lowest n x → Lowest n y → PowerOf n x y → up_to_phase n x y ≡ true
  test_of_power {x} {y} l m s = power_test s.power x y s.small (unique n (turned_lowest n s.power l) m s.same)

  pub test_exactly : {x y : Exact} → Lowest n x → Lowest n y → (up_to_phase n x y ≡ true) ↔ PowerOf n x y
  test_exactly {x} {y} l m = (power_of_test x y, test_of_power l m)
