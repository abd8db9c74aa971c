-- The sizes of two elements, coefficient by coefficient, and those of √2 times one: they add up within the limit
-- exactly where the sums and the differences do. Assumes nothing.
use mathlib.Core.Path.{◌≡◌}
use mathlib.Core.Bool.{true, not, ◌&&◌}
use Prim.Native.Nat.{◌+◌, ◌≤◌}
use native.Mathlib.Omega.{arith}
use borrow.Author.Tests.{ltb-false, le-ltb, not-true}
use lib.IntN.{ℤ, pos, negsuc, nat_abs, neg_ℤ, ◌-ℤ◌}
use Rattle.ints.proofs.Bools.{iff, and_both, both_true}
use Rattle.ints.proofs.Int.{up, dn, Is, add_is, neg_is}
use Rattle.cyclotomic.specs.Zomega.{Zω, addω, subω, sqrt2, fits, Small}
use Rattle.coefficients.specs.Coefficients.{limit, sizes_pass}
use Rattle.coefficients.proofs.Sizes.{sizes_of, sums_fit_exactly}
use Rattle.cyclotomic.proofs.Answers.{fits_small, small_fits}

-- the sizes of two elements, coefficient by coefficient, add up within the limit
pub record SizesSmall (x y : Zω) : Type 0 where
  pub a_sizes : nat_abs x.a + nat_abs y.a ≤ limit
  pub b_sizes : nat_abs x.b + nat_abs y.b ≤ limit
  pub c_sizes : nat_abs x.c + nat_abs y.c ≤ limit
  pub d_sizes : nat_abs x.d + nat_abs y.d ≤ limit

pub sizes_sum : (x y : Zω) → SizesSmall x y → Small (addω x y)
unfolding addω
sizes_sum x y s = record {
  a_small = ((sums_fit_exactly x.a y.a).0 s.a_sizes).0;
  b_small = ((sums_fit_exactly x.b y.b).0 s.b_sizes).0;
  c_small = ((sums_fit_exactly x.c y.c).0 s.c_sizes).0;
  d_small = ((sums_fit_exactly x.d y.d).0 s.d_sizes).0;
}

pub sizes_difference : (x y : Zω) → SizesSmall x y → Small (subω x y)
unfolding subω
sizes_difference x y s = record {
  a_small = ((sums_fit_exactly x.a y.a).0 s.a_sizes).1;
  b_small = ((sums_fit_exactly x.b y.b).0 s.b_sizes).1;
  c_small = ((sums_fit_exactly x.c y.c).0 s.c_sizes).1;
  d_small = ((sums_fit_exactly x.d y.d).0 s.d_sizes).1;
}

pub both_sizes : (x y : Zω) → Small (addω x y) → Small (subω x y) → SizesSmall x y
unfolding addω subω
both_sizes x y s t = record {
  a_sizes = (sums_fit_exactly x.a y.a).1 (s.a_small, t.a_small);
  b_sizes = (sums_fit_exactly x.b y.b).1 (s.b_small, t.b_small);
  c_sizes = (sums_fit_exactly x.c y.c).1 (s.c_small, t.c_small);
  d_sizes = (sums_fit_exactly x.d y.d).1 (s.d_small, t.d_small);
}

-- ---- √2 times an element

abs_turned : (x y : ℤ) → nat_abs (y -ℤ x) ≡ nat_abs (x -ℤ y)
abs_turned x y = by (y -ℤ x) (x -ℤ y) (neg_ℤ x) (neg_ℤ y) (add_is y (neg_ℤ x)) (add_is x (neg_ℤ y)) (neg_is x) (neg_is y)
  where
    by : (p q m n : ℤ) → Is p (up y + up m) (dn y + dn m) → Is q (up x + up n) (dn x + dn n) → Is m (dn x) (up x) → Is n (dn y) (up y) → nat_abs p ≡ nat_abs q
    by (pos a) (pos b) m n ip iq im ik = omega arith
    by (pos a) (negsuc b) m n ip iq im ik = omega arith
    by (negsuc a) (pos b) m n ip iq im ik = omega arith
    by (negsuc a) (negsuc b) m n ip iq im ik = omega arith

-- the product fits exactly where the sizes of a and c, and of b and d, add up within the limit
pub root_tests : (x : Zω) → fits (sqrt2 x) ≡ (not (sizes_pass x.a x.c) && not (sizes_pass x.b x.d))
unfolding sqrt2
root_tests x = iff _ _ (λ h. to (fits_small (sqrt2 x) h)) (λ h. small_fits (sqrt2 x) (from (both_true (not (sizes_pass x.a x.c)) (not (sizes_pass x.b x.d)) h)))
  where
    passes : (u v : ℤ) → nat_abs u + nat_abs v ≤ limit → not (sizes_pass u v) ≡ true
    passes u v h = rw (le-ltb limit (nat_abs u + nat_abs v) h)

    sizes : (u v : ℤ) → not (sizes_pass u v) ≡ true → nat_abs u + nat_abs v ≤ limit
    sizes u v h = ltb-false limit (nat_abs u + nat_abs v) (not-true (sizes_pass u v) h)

    to : Small (sqrt2 x) → (not (sizes_pass x.a x.c) && not (sizes_pass x.b x.d)) ≡ true
    to s =
        and_both (not (sizes_pass x.a x.c)) (not (sizes_pass x.b x.d))
        (passes x.a x.c (sizes_of limit x.a x.c s.b_small (omega (arith, s.d_small, abs_turned x.a x.c))))
        (passes x.b x.d (sizes_of limit x.b x.d s.c_small s.a_small))

    from : (not (sizes_pass x.a x.c) ≡ true) × (not (sizes_pass x.b x.d) ≡ true) → Small (sqrt2 x)
    from h =
        let p = (sums_fit_exactly x.a x.c).0 (sizes x.a x.c h.0) in
        let q = (sums_fit_exactly x.b x.d).0 (sizes x.b x.d h.1) in
        record { a_small = q.1; b_small = p.0; c_small = q.0; d_small = omega (arith, p.1, abs_turned x.a x.c) }
