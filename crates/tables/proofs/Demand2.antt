-- Demand 2, its first half, as specs/Demand2 states it of the entry for lists. Assumes nothing.
use mathlib.Core.Path.{◌≡◌, refl, ap, subst}
use mathlib.Core.Bool.{true}
use mathlib.Core.List.{List}
use mathlib.Core.Logic.{◌↔◌, ◌⊎◌, inl, inr}
use Prim.Native.Nat.{ℕ, ◌≤◌, ◌<◌}
use native.Mathlib.Omega.{arith}
use lib.IntN.{ℤ}
use lib.ListN.{length}
use Rattle.ints.specs.Lists.{all}
use Rattle.ints.proofs.Bools.{clash}
use Rattle.circuit.specs.Codes.{valid}
use Rattle.exact.specs.Matrix.{SameValue, Lowest}
use Rattle.exact.proofs.Words.{Equal}
use Rattle.exact.specs.Paper.{paper_product}
use Rattle.exact.specs.Lists.{product}
use Rattle.exact.specs.Fits.{Steps, all_fit, unfit_at, steps, step_within, FirstPast}
use Rattle.exact.specs.Answers.{Answer, given, refused}
use Rattle.exact.proofs.Values.{equal_sym, equal_same, same_trans}
use Rattle.exact.proofs.Listed.{product_lowest}
use Rattle.exact.proofs.Papers.{paper_value}
use Rattle.exact.proofs.Keeps.{equal_lowest}
use Rattle.exact.proofs.TooLarge.{too_large_exactly}
use Rattle.exact.proofs.Answered.{number}
use Rattle.exact.specs.Places.{held}
use Rattle.walk.proofs.Sequences.{lt_or}
use Rattle.tables.specs.Checks.{coefficient_count}
use Rattle.tables.specs.Lists.{ListOutcome, coefficients, outcome, listed}
use Rattle.tables.specs.Exactly.{cause, cause_at, Past, First, NoCause, FirstNotValid, list_causes}
use Rattle.tables.specs.Demand2.{Demand2}
use Rattle.tables.proofs.Coefficients.{coefficients_held}
use Rattle.tables.proofs.Lists.{valid_first}
use Rattle.tables.proofs.ListExactly.{is_first, list, formed, accepted}

module _ (n : ℕ) (codes : List ℕ) (numbers : List ℤ) where
  -- ---- an accepted list

  pub accepted_narrow : NoCause (list_causes n codes numbers) → n ≤ 5
  accepted_narrow c = by (lt_or 5 n)
    where
      by : (5 < n) ⊎ (n ≤ 5) → n ≤ 5
      by (inl h) = absurd (c.0 0 (h, refl))
      by (inr h) = h

  pub accepted_fits : NoCause (list_causes n codes numbers) → steps n codes ≡ all_fit
  accepted_fits c = by (steps n codes) refl
    where
      by : (s : Steps) → steps n codes ≡ s → s ≡ all_fit
      by all_fit e = refl
      by (unfit_at i) e = absurd (c.1.1.1.0 i ((too_large_exactly n (accepted_narrow c) codes i).0 e))

  pub accepted_is : (k : ℕ) (after : List ℤ) → listed n codes numbers ≡ outcome (given k) after → Equal n (held n k after) (product n codes)
  accepted_is k after e =
      let (c, x, y) = accepted n codes numbers k after e in
      subst2 x y (coefficients_held n (product n codes))
    where
      subst2 : {j k : ℕ} {l m : List ℤ} → j ≡ k → l ≡ m → Equal n (held n j l) (product n codes) → Equal n (held n k m) (product n codes)
      subst2 x y w = subst (λ (o : ListOutcome). Equal n (held n (number o.answer) o.numbers) (product n codes)) (λ i. outcome (given (x i)) (y i)) w

  -- it leaves the paper's product, by value
  accepted_value : (k : ℕ) (after : List ℤ) → listed n codes numbers ≡ outcome (given k) after → SameValue n (paper_product n codes) (held n k after)
  accepted_value k after e =
      same_trans n {y = product n codes} (paper_value n codes) (equal_same n (equal_sym n (accepted_is k after e)))

  -- in lowest denominator
  pub accepted_lowest : (k : ℕ) (after : List ℤ) → listed n codes numbers ≡ outcome (given k) after → Lowest n (held n k after)
  accepted_lowest k after e = equal_lowest n (equal_sym n (accepted_is k after e)) (product_lowest n codes)

  -- ---- a list that 6, 9 and 7 do not refuse: too large exactly where a step passes the limit (SPECIFICATION 8.2)

  -- 8 is the last row
  is_8 : (i : ℕ) → First 8 i (list_causes n codes numbers) → FirstPast n codes i
  is_8 i (inl (z, x)) = absurd (omega (arith, z))
  is_8 i (inr (a, inl (z, x))) = absurd (omega (arith, z))
  is_8 i (inr (a, inr (b, inl (z, x)))) = absurd (omega (arith, z))
  is_8 i (inr (a, inr (b, inr (c, inl (z, x))))) = x
  is_8 i (inr (a, inr (b, inr (c, inr (d, f))))) = absurd f

  module _ (h : n ≤ 5) (p : length numbers ≡ coefficient_count n) (v : all (valid n) codes ≡ true) where
    past_6 : Past (cause 6 (5 < n))
    past_6 i x = absurd (omega (arith, x.0))

    past_9 : Past (cause 9 (length numbers ≡ coefficient_count n → ⊥))
    past_9 i x = x.0 p

    past_7 : Past (cause_at 7 (FirstNotValid n codes))
    past_7 i w = absurd (omega (arith, is_first n codes i w, w.inside, valid_first n codes v))

    refused_8_exactly : (i : ℕ) → ((listed n codes numbers).answer ≡ refused 8 i) ↔ FirstPast n codes i
    refused_8_exactly i = (
      (λ e. is_8 i ((list n codes numbers (listed n codes numbers).numbers 8 i).0 (ap (λ (z : Answer). outcome z (listed n codes numbers).numbers) e)).0),
      (λ w. ap (λ (o : ListOutcome). o.answer) ((list n codes numbers numbers 8 i).1 (inr (past_6, inr (past_9, inr (past_7, inl (refl, w)))), refl))),
    )

    all_accepted : ((j : ℕ) → j < length codes → step_within n codes j ≡ true)
        → listed n codes numbers ≡ outcome (given (product n codes).k) (coefficients n (product n codes))
    all_accepted f = (formed n codes numbers).1 (past_6, (past_9, (past_7, ((λ i w. clash (f i w.inside) w.past), tt))))

  pub demand_2 : Demand2 n codes numbers
  demand_2 = record { value = accepted_value; lowest = accepted_lowest; too_large = refused_8_exactly; accepted = all_accepted }
