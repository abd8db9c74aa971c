-- The matrix of an accepted list may be asked: none of the rows 6, 9, 10, 11 refuses it. Assumes nothing.
use mathlib.Core.Path.{◌≡◌, refl, sym, ap, ◌∙◌}
use mathlib.Core.Bool.{false, ◌&&◌}
use mathlib.Core.List.{List}
use Prim.Native.Nat.{ℕ, zero, suc, ◌*◌, ◌/◌, ◌%◌, ◌^◌, ◌≤◌, ◌<◌}
use native.Mathlib.Omega.{arith}
use borrow.Author.Tests.{lt-ltb, ne_eqb}
use lib.IntN.{ℤ, pos, negsuc, nat_abs}
use lib.Dec.{ltb}
use lib.ListN.{length}
use Rattle.cyclotomic.specs.Zomega.{Zω, WithinBound}
use Rattle.coefficients.specs.Coefficients.{limit, eq_z}
use Rattle.exact.specs.Matrix.{Exact, all_divisible, Lowest}
use Rattle.exact.specs.Lists.{product}
use Rattle.exact.proofs.Words.{AllSmall}
use Rattle.exact.specs.Answers.{given}
use Rattle.exact.specs.Phase.{flat}
use Rattle.exact.proofs.Phases.{row_lt, col_lt}
use Rattle.exact.proofs.Bounds.{product_small}
use Rattle.exact.specs.Places.{read, held}
use Rattle.tables.specs.Checks.{coefficient_count, any_below, first_row, query_rows}
use Rattle.tables.specs.Lists.{outcome, coefficients_of, coefficients, listed}
use Rattle.tables.proofs.Coefficients.{coefficient_count_lem}
use Rattle.tables.proofs.ListExactly.{accepted}
use Rattle.murm_query.proofs.Rows.{query_allowed}
use Rattle.tables.proofs.Demand2.{accepted_narrow, accepted_fits, accepted_lowest}

-- a coefficient within the limit is not -32768
not_below : (x : ℤ) → nat_abs x ≤ limit → eq_z x (negsuc limit) ≡ false
not_below (pos n) h = refl
not_below (negsuc n) h = ne_eqb n limit (omega (arith, h))

none_below : (m : ℕ) (e : ℕ → Zω) → ((i : ℕ) → i < m → WithinBound limit (e i)) → any_below (coefficients_of m e) ≡ false
unfolding any_below
none_below zero e h = refl
none_below (suc m) e h =
    let w = h 0 (omega arith) in
    rw (not_below (e 0).a w.a_small, not_below (e 0).b w.b_small, not_below (e 0).c w.c_small, not_below (e 0).d w.d_small)
    (none_below m (λ i. e (suc i)) (λ i l. h (suc i) (omega arith)))

four_each : (m : ℕ) (e : ℕ → Zω) → length (coefficients_of m e) ≡ 4 * m
four_each zero e = refl
four_each (suc m) e = omega (arith, four_each m (λ i. e (suc i)))

module _ (n : ℕ) (x : Exact) where
  coefficients_count : length (coefficients n x) ≡ coefficient_count n
  unfolding coefficients
  coefficients_count = four_each (2 ^ n * 2 ^ n) (flat n x.e) ∙ sym (coefficient_count_lem n)

  coefficients_small : AllSmall n x.e → any_below (coefficients n x) ≡ false
  unfolding coefficients
  coefficients_small h =
      none_below (2 ^ n * 2 ^ n) (flat n x.e) (λ i l. h.small (i / 2 ^ n) (i % 2 ^ n) (row_lt n i l) (col_lt n i))

-- k > 0 and divisible: not in lowest denominator
lowest_row : (n k : ℕ) (l : List ℤ) → Lowest n (held n k l) → (ltb 0 k && all_divisible n (read n l)) ≡ false
lowest_row n zero l h = refl
lowest_row n (suc k) l h = rw (lt-ltb 0 (suc k) (omega arith)) (h.lowest (omega arith))

module _ (n : ℕ) (codes : List ℕ) (numbers : List ℤ) (k : ℕ) (after : List ℤ) (e : listed n codes numbers ≡ outcome (given k) after) where
  pub accepted_allowed : first_row (query_rows n k after) ≡ 0
  accepted_allowed =
      let (c, x, y) = accepted n codes numbers k after e in
      sym (query_allowed n k after (accepted_narrow n codes numbers c) (ap length (sym y) ∙ coefficients_count n (product n codes))
      (ap any_below (sym y) ∙ coefficients_small n (product n codes) (product_small n codes (accepted_fits n codes numbers c)))
      (lowest_row n k after (accepted_lowest n codes numbers k after e)))
