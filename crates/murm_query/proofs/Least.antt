-- Row 10 by the least of the coefficients and 0: it is -32768 exactly where one of them is. Assumes nothing.
use mathlib.Core.Path.{◌≡◌, refl, sym, ap, ◌∙◌}
use mathlib.Core.Bool.{Bool, true, false, not, ◌||◌}
use mathlib.Core.List.{List, [], ◌∷◌, ◌++◌}
use Prim.Native.Nat.{ℕ, ◌+◌, ◌-◌, ◌≤◌, ◌<◌}
use native.Mathlib.Numerals.{add-one}
use native.Mathlib.Omega.{arith}
use lib.IntN.{ℤ, pos, negsuc, nat_abs, neg_ℤ}
use lib.Signed.{lt_z}
use lib.ListN.{length, get_or, take}
use lib.Seq.{take-suc, take_all}
use mir.Val.{SFits}
use borrow.Author.Count.{below_more}
use borrow.Author.Tests.{eq-eqb, ne_eqb, eqb-true, eqb-false, ltb-true, ltb-false, not-true}
use lib.Dec.{eqb, ltb}
use Rattle.ints.proofs.Bools.{clash, or-false, or_assoc, neither}
use Rattle.ints.proofs.Machine.{range}
use Rattle.coefficients.specs.Coefficients.{limit, near, eq_z}
use Rattle.tables.specs.Checks.{any_below}
use Rattle.murm_query.specs.Work.{InRange}

-- ---- coefficients: a 16-bit number is -32768 or within the limit

pub past_is : (z : ℤ) → SFits near z → lt_z z (neg_ℤ (pos limit)) ≡ eq_z z (negsuc limit)
past_is (pos n) f = refl
past_is (negsuc n) f =
    let r = range f in
    by (ltb (limit - 1) n) refl
  where
    by : (t : Bool) → ltb (limit - 1) n ≡ t → ltb (limit - 1) n ≡ eqb n limit
    by true e = e ∙ sym (eq-eqb n limit (omega (arith, ltb-true (limit - 1) n e, f.sfits)))
    by false e = e ∙ sym (ne_eqb n limit (λ q. omega (arith, ltb-false (limit - 1) n e)))

-- one that is not -32768 is within the limit
not_lowest : (z : ℤ) → SFits near z → eq_z z (negsuc limit) ≡ false → nat_abs z ≤ limit
not_lowest (pos n) f e = omega (arith, f.sfits)
not_lowest (negsuc n) f e = omega (arith, f.sfits, eqb-false n limit e)

-- none is below -32768, so that one that has another below it is not -32768
above_other : (x y : ℤ) → SFits near x → lt_z x y ≡ true → eq_z y (negsuc limit) ≡ false
above_other x (pos n) f h = refl
above_other (pos m) (negsuc n) f h = clash h refl
above_other (negsuc m) (negsuc n) f h = ne_eqb n limit (λ q. omega (arith, ltb-true n m h, f.sfits, q))

-- and one that is not above -32768 is -32768
not_above : (x y : ℤ) → SFits near y → lt_z x y ≡ false → eq_z x (negsuc limit) ≡ true → eq_z y (negsuc limit) ≡ true
not_above (pos m) y f h e = clash e refl
not_above (negsuc m) (pos n) f h e = clash refl h
not_above (negsuc m) (negsuc n) f h e = eq-eqb n limit (omega (arith, ltb-false n m h, eqb-true m limit e, f.sfits))

below_last : (l : List ℤ) (x : ℤ) → any_below (l ++ (x ∷ [])) ≡ (any_below l || eq_z x (negsuc limit))
unfolding any_below
below_last [] x = or-false (eq_z x (negsuc limit))
below_last (y ∷ l) x =
    ap (λ (b : Bool). eq_z y (negsuc limit) || b) (below_last l x) ∙ sym (or_assoc (eq_z y (negsuc limit)) (any_below l) (eq_z x (negsuc limit)))

-- the least of 0 and the first i coefficients: it is -32768 exactly where one of them is
pub record LeastTo (l : List ℤ) (i : ℕ) (least : ℤ) : Type 0 where
  pub fits : SFits near least
  pub told : eq_z least (negsuc limit) ≡ any_below (take i l)
  pub small : eq_z least (negsuc limit) ≡ false → (j : ℕ) → j < i → nat_abs (get_or l j (pos 0)) ≤ limit

pub least_none : (l : List ℤ) → LeastTo l 0 (pos 0)
unfolding any_below
least_none l = record { fits = record { sfits = omega arith }; told = refl; small = λ e j h. absurd (omega arith) }

module _ {l : List ℤ} {i : ℕ} {least : ℤ} (w : LeastTo l i least) where
  module _ (h : i < length l) (f : SFits near (get_or l i (pos 0))) where
    least_more : (z : ℤ) → SFits near z → eq_z z (negsuc limit) ≡ (eq_z least (negsuc limit) || eq_z (get_or l i (pos 0)) (negsuc limit)) → LeastTo l (i + 1) z
    least_more z g e = record {
      fits = g;
      told = e ∙ ap (λ (b : Bool). b || eq_z (get_or l i (pos 0)) (negsuc limit)) w.told ∙ sym (below_last (take i l) (get_or l i (pos 0)))
          ∙ ap any_below (sym (take-suc l i (pos 0) h)) ∙ ap (λ (k : ℕ). any_below (take k l)) (sym (add-one i));
      small = λ q. let n = neither (eq_z least (negsuc limit)) (eq_z (get_or l i (pos 0)) (negsuc limit)) (sym e ∙ q) in
          below_more _ _ (w.small n.0) (not_lowest (get_or l i (pos 0)) f n.1);
    }

    -- a coefficient that is less takes the place of the least
    pub least_taken : lt_z (get_or l i (pos 0)) least ≡ true → LeastTo l (i + 1) (get_or l i (pos 0))
    least_taken t = least_more (get_or l i (pos 0)) f (rw (above_other (get_or l i (pos 0)) least f t))

    pub least_kept : lt_z (get_or l i (pos 0)) least ≡ false → LeastTo l (i + 1) least
    least_kept t = least_more least w.fits (by (eq_z (get_or l i (pos 0)) (negsuc limit)) refl)
      where
        by : (b : Bool) → eq_z (get_or l i (pos 0)) (negsuc limit) ≡ b → eq_z least (negsuc limit) ≡ (eq_z least (negsuc limit) || b)
        by true e = rw (not_above (get_or l i (pos 0)) least w.fits t e)
        by false e = sym (or-false (eq_z least (negsuc limit)))

  pub least_end : length l ≤ i → (r : Bool) → r ≡ eq_z least (negsuc limit) → InRange l (not r)
  least_end h r p = record {
    told = ap not (p ∙ w.told ∙ ap any_below (take_all i l h));
    small = λ e j k. w.small (sym p ∙ not-true r e) j (omega arith);
  }
