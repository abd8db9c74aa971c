-- The rows 6, 9, 10, 11 of a query, one law for each, and what a query has that none refuses. Assumes nothing.
use mathlib.Core.Path.{◌≡◌, sym, ◌∙◌}
use mathlib.Core.Bool.{true, false, ◌&&◌}
use mathlib.Core.List.{List}
use Prim.Native.Nat.{ℕ, ◌+◌, ◌*◌, ◌^◌, ◌≤◌, ◌<◌}
use native.Mathlib.Nat.{le_of_eq}
use native.Mathlib.Omega.{arith}
use borrow.Author.Tests.{eq-eqb, ne_eqb, lt-ltb, le-ltb, ltb-false, eqb-true, not-false}
use lib.IntN.{ℤ, pos, nat_abs}
use lib.Dec.{ltb}
use lib.ListN.{length, get_or}
use Rattle.coefficients.specs.Coefficients.{limit}
use Rattle.exact.specs.Matrix.{all_divisible}
use Rattle.exact.proofs.Words.{AllSmall}
use Rattle.exact.specs.Places.{entry, read}
use Rattle.places.proofs.Placed.{at_small}
use Rattle.tables.specs.Checks.{coefficient_count, any_below, first_row, query_rows}
use Rattle.tables.proofs.Rows.{first_none}
use Rattle.tables.proofs.Coefficients.{coefficient_count_lem}

-- ---- the rows of a query

module _ (n k : ℕ) (numbers : List ℤ) where
  pub query_6 : 5 < n → 6 ≡ first_row (query_rows n k numbers)
  unfolding first_row
  query_6 h = rw (lt-ltb 5 n h)

  module _ (h : n ≤ 5) where
    pub query_9 : (length numbers ≡ coefficient_count n → ⊥) → 9 ≡ first_row (query_rows n k numbers)
    unfolding first_row
    query_9 p = rw (le-ltb 5 n h, ne_eqb (length numbers) (coefficient_count n) p)

    module _ (p : length numbers ≡ coefficient_count n) where
      pub query_10 : any_below numbers ≡ true → 10 ≡ first_row (query_rows n k numbers)
      unfolding first_row
      query_10 e = rw (le-ltb 5 n h, eq-eqb (length numbers) (coefficient_count n) p, e)

      module _ (q : any_below numbers ≡ false) where
        pub query_11 : (ltb 0 k && all_divisible n (read n numbers)) ≡ true → 11 ≡ first_row (query_rows n k numbers)
        unfolding first_row
        query_11 e = rw (le-ltb 5 n h, eq-eqb (length numbers) (coefficient_count n) p, q, e)

        pub query_allowed : (ltb 0 k && all_divisible n (read n numbers)) ≡ false → 0 ≡ first_row (query_rows n k numbers)
        unfolding first_row
        query_allowed e = rw (le-ltb 5 n h, eq-eqb (length numbers) (coefficient_count n) p, q, e)

  -- a query that none refuses has a width up to 5 and all its places
  pub allowed_size : first_row (query_rows n k numbers) ≡ 0 → (n ≤ 5) × (4 * (2 ^ n * 2 ^ n) ≤ length numbers)
  allowed_size e =
      let a = first_none _ _ (omega arith) e in
      let b = first_none _ _ (omega arith) a.1 in
      (ltb-false 5 n a.0, le_of_eq (sym (coefficient_count_lem n) ∙ sym (eqb-true (length numbers) (coefficient_count n) (not-false _ b.0))))

-- ---- a matrix given by its coefficients

pub coefficients_small : (n : ℕ) (numbers : List ℤ) → length numbers ≡ coefficient_count n → ((i : ℕ) → i < length numbers → nat_abs (get_or numbers i (pos 0)) ≤ limit)
    → AllSmall n (read n numbers)
unfolding entry
coefficients_small n numbers h s =
    at_small n numbers
    (λ e q. let size = h ∙ coefficient_count_lem n in
    record { a_small = s (4 * e) (omega arith); b_small = s (4 * e + 1) (omega arith); c_small = s (4 * e + 2) (omega arith); d_small = s (4 * e + 3) (omega arith) })
