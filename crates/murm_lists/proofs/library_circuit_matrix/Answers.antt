-- `library_circuit_matrix` meets its contract: each test that was passed decides its row of the definition, and an
-- accepted list's places are copied out.
use mathlib.Core.Path.{◌≡◌, refl, sym, ap, ◌∙◌}
use Prim.Native.Nat.{ℕ, ◌*◌, ◌^◌, ◌-◌}
use native.Mathlib.Omega.{arith}
use lib.ListN.{take}
use Rattle.places.proofs.Placed.{area_le}
use Rattle.exact.specs.Answers.{refused}
use Rattle.std.specs.Prelude.{Result, Ok, Err, MatchResult}
use Rattle.std.specs.Result.{IsErrAnd}
use Rattle.std.proofs.lemmas.Result.{err_from_is_err_and}
use Rattle.refusal.specs.declared.Refusal.{Refusal}
use Rattle.refusal.specs.declared.Refusal.TheVariants.{DoesNotFit}
use Rattle.lists.proofs.Walking.{ended_at}
use Rattle.tables.specs.Checks.{coefficient_count}
use Rattle.tables.specs.Lists.{outcome}
use Rattle.tables.proofs.Coefficients.{coefficient_count_lem}
use Rattle.tables.proofs.Lists.{all_valid, list_6, list_9, list_7, list_8}
use Rattle.murm_lists.proofs.Numbers.{list_held}
use Rattle.murm_lists.proofs.library_circuit_matrix.Goals as goal

-- what `map_err` makes of the walk's answer
abbrev Mapped : Result ℕ ℕ → Result ℕ Refusal → Type 0
Mapped r x = MatchResult r (λ (j : ℕ). x ≡ Ok j) (λ (i : ℕ). IsErrAnd x (λ (d : Refusal). d ≡ DoesNotFit i))

from_ok : (r : Result ℕ ℕ) (x : Result ℕ Refusal) {k : ℕ} → Mapped r x → x ≡ Ok k → r ≡ Ok k
from_ok (Ok j) x h e = cc
from_ok (Err i) x h e = absurd (rw e at h)

from_err : (r : Result ℕ ℕ) (x : Result ℕ Refusal) {q : Refusal} → Mapped r x → x ≡ Err q → (i : ℕ) × (r ≡ Err i) × (q ≡ DoesNotFit i)
from_err (Ok j) x h e = absurd (cc)
from_err (Err i) x h e = (i, refl, rw e at h)

-- the places of the matrix are counted
sized : (n : ℕ) {a : ℕ} → a ≡ 2 ^ n * 2 ^ n → 4 * a ≡ coefficient_count n
sized n e = ap (λ (k : ℕ). 4 * k) e ∙ sym (coefficient_count_lem n)

pub returns-then-width-gt5 : goal.returns-then-width-gt5
returns-then-width-gt5 c = list_6 _ _ _ c.if-width-gt5.true

pub returns-then-out-size : goal.returns-then-out-size
returns-then-out-size c =
    let s = c.args in
    list_9 s.width s.codes.now s.out.now c.if-width-gt5.false (λ q. c.if-out-size.true (q ∙ sym (sized s.width c.area-size.ensures)))

pub returns-in-Some : goal.returns-in-Some
returns-in-Some c =
    let s = c.args in
    let (i, inside) = c.in-Some.ensures in
    ap (λ (j : ℕ). outcome (refused 7 j) s.out.now) i
    ∙ list_7 s.width s.codes.now s.out.now c.if-width-gt5.false (c.if-out-size.false ∙ sized s.width c.area-size.ensures) (rw i at inside)

pub apply_gates-requires-clause-codes_value : goal.apply_gates-requires-clause-codes_value
apply_gates-requires-clause-codes_value c = all_valid _ _ c.in_default.ensures

pub returns-in_err-k : goal.returns-in_err-k
returns-in_err-k c =
    let s = c.args in
    let p = err_from_is_err_and c.from_residual.result c.from_residual.ensures.1 in
    let (i, unfit, why) = from_err c.apply_gates.result c.map_err.result c.map_err.ensures.cases c.in_err-k.was in
    let w = ended_at unfit c.apply_gates.ensures.ended in
    rw (p.1, p.2, why)
    (list_8 s.width s.codes.now s.out.now c.if-width-gt5.false (c.if-out-size.false ∙ sized s.width c.area-size.ensures) c.in_default.ensures _ w.answer)

pub slice_bounds-copy_from_slice-end : goal.slice_bounds-copy_from_slice-end
slice_bounds-copy_from_slice-end c =
    let w = ended_at (from_ok c.apply_gates.result c.map_err.result c.map_err.ensures.cases c.in_ok-k.was) c.apply_gates.ensures.ended in
    omega (arith, w.end.long, c.area-size.ensures, area_le c.args.width c.if-width-gt5.false)

pub returns : goal.returns
returns c =
    let s = c.args in
    let w = ended_at (from_ok c.apply_gates.result c.map_err.result c.map_err.ensures.cases c.in_ok-k.was) c.apply_gates.ensures.ended in
    let l = c.apply_gates.new.m in
    let same : 4 * c.area-size.result ≡ coefficient_count s.width = sized s.width c.area-size.ensures in
    let size : 4 * c.area-size.result - 0 ≡ coefficient_count s.width = omega arith in
    let copied = c.copy_from_slice.ensures.after ∙ ap (λ (k : ℕ). take k l) size in
    list_held s.width s.codes.now s.out.now c.if-width-gt5.false (c.if-out-size.false ∙ same) c.in_default.ensures _ l _ copied w.answer w.end
