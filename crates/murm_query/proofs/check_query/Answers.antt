-- `check_query` meets its contract: each test that was passed decides its row of the definition.
use mathlib.Core.Path.{◌≡◌, refl, sym, ap, ◌∙◌, subst}
use mathlib.Core.Bool.{Bool, true, false}
use Prim.Native.Nat.{ℕ, ◌*◌, ◌^◌}
use native.Mathlib.Omega.{arith}
use lib.IntN.{ℤ}
use mathlib.Core.List.{List}
use borrow.Author.Tests.{not-true, not-false}
use Rattle.tables.specs.Checks.{coefficient_count, any_below}
use Rattle.refusal.specs.Told.{by_row}
use Rattle.murm_query.specs.Work.{InRange}
use Rattle.tables.proofs.Coefficients.{coefficient_count_lem}
use Rattle.murm_query.proofs.Rows.{coefficients_small}
use Rattle.murm_query.proofs.Rows.{query_6, query_9, query_10, query_11, query_allowed}
use Rattle.murm_query.proofs.check_query.Goals as goal

-- the places of the matrix are counted
sized : (n : ℕ) {a : ℕ} → a ≡ 2 ^ n * 2 ^ n → 4 * a ≡ coefficient_count n
sized n e = ap (λ (k : ℕ). 4 * k) e ∙ sym (coefficient_count_lem n)

-- no coefficient is -32768
ranged : {l : List ℤ} {r : Bool} → InRange l r → r ≡ true → InRange l true
ranged {l} w e = subst (λ (b : Bool). InRange l b) e w

none_below : {l : List ℤ} {r : Bool} → InRange l r → r ≡ true → any_below l ≡ false
none_below w e = not-true _ (sym (ranged w e).told)

pub returns-then-query-gt5 : goal.returns-then-query-gt5
returns-then-query-gt5 c = record { told = ap by_row (query_6 c.args.query.width c.args.query.exponent c.args.query.matrix.now c.if-query-gt5.true); small = λ e. absurd (omega (arith, e)) }

pub returns-then-entries-count : goal.returns-then-entries-count
returns-then-entries-count c = record {
  told = ap by_row (query_9 c.args.query.width c.args.query.exponent c.args.query.matrix.now (omega (arith, c.if-query-gt5.false)) (λ q. c.if-entries-count.true (q ∙ sym (sized _ c.area-count.ensures))));
  small = λ e. absurd (omega (arith, e));
}

pub returns-then-not-in_range : goal.returns-then-not-in_range
returns-then-not-in_range c = record {
  told = ap by_row (query_10 c.args.query.width c.args.query.exponent c.args.query.matrix.now (omega (arith, c.if-query-gt5.false)) (c.if-entries-count.false ∙ sized _ c.area-count.ensures)
      (not-false _ (sym c.in_range.ensures.told ∙ c.if-not-in_range.true)));
  small = λ e. absurd (omega (arith, e));
}

pub returns-then-is_divisible : goal.returns-then-is_divisible
returns-then-is_divisible c =
    record {
      told = ap by_row (query_11 c.args.query.width c.args.query.exponent c.args.query.matrix.now (omega (arith, c.if-query-gt5.false)) (c.if-entries-count.false ∙ sized _ c.area-count.ensures) (none_below c.in_range.ensures c.if-not-in_range.false) (sym c.is_divisible.ensures ∙ c.if-is_divisible.true));
      small = λ z. absurd (omega (arith, z));
    }

pub returns : goal.returns
returns c =
    record {
      told = ap by_row (query_allowed c.args.query.width c.args.query.exponent c.args.query.matrix.now (omega (arith, c.if-query-gt5.false)) (c.if-entries-count.false ∙ sized _ c.area-count.ensures) (none_below c.in_range.ensures c.if-not-in_range.false) (sym c.is_divisible.ensures ∙ c.if-is_divisible.false));
      small = λ z. coefficients_small c.args.query.width c.args.query.matrix.now (c.if-entries-count.false ∙ sized _ c.area-count.ensures) ((ranged c.in_range.ensures c.if-not-in_range.false).small refl);
    }
