-- `equivalent_up_to_global_phase` meets its contract: every place passed is alike once the left one is turned, and
-- where it returns from the loop the place is not.
use mathlib.Core.Path.{◌≡◌, sym, ap, ◌∙◌}
use mathlib.Core.Bool.{true, not}
use Prim.Native.Nat.{ℕ, ◌*◌, ◌^◌, ◌<◌}
use borrow.Author.Tests.{not-true, not-false}
use borrow.Author.Count.{below_more}
use Rattle.cyclotomic.proofs.Answers.{eq_is}
use native.Mathlib.Omega.{arith}
use Rattle.exact.specs.Phase.{phase_of}
use Rattle.exact.specs.Places.{held}
use Rattle.places.proofs.Placed.{small_at}
use Rattle.phases.proofs.Pivots.{phase_of_lem}
use Rattle.up_to_phase.proofs.Alike.{alike, apart, phase_of_below, exponents_differ, places_alike, place_differs}
use Rattle.up_to_phase.proofs.equivalent_up_to_global_phase.Goals as goal

pub returns-then-j-k : goal.returns-then-j-k
returns-then-j-k c = sym (exponents_differ _ _ _ _ _ (λ q. omega arith))

-- the two powers are the phases: both are below 8, so the sum fits in a byte
pub overflow_mul-turns : goal.overflow_mul-turns
overflow_mul-turns c =
    let s = c.args in
    let right : c.least_power-q.result ≡ phase_of s.n (held s.n 0 s.right.now) =
    phase_of_lem _ _ _ _ c.least_power-q.ensures c.pivot-2.ensures.entry in
    omega (arith, right, phase_of_below s.n (held s.n 0 s.right.now))

pub overflow_add-turns : goal.overflow_add-turns
overflow_add-turns c =
    let s = c.args in
    let left : c.least_power-p.result ≡ phase_of s.n (held s.n 0 s.left.now) =
    phase_of_lem _ _ _ _ c.least_power-p.ensures c.pivot.ensures.entry in
    let right : c.least_power-q.result ≡ phase_of s.n (held s.n 0 s.right.now) =
    phase_of_lem _ _ _ _ c.least_power-q.ensures c.pivot-2.ensures.entry in
    omega (arith, left, right, phase_of_below s.n (held s.n 0 s.left.now), phase_of_below s.n (held s.n 0 s.right.now))

-- the place is one of the matrix's
pub times_omega-requires : goal.times_omega-requires
times_omega-requires c =
    let inside : c.loop-e.e < 2 ^ c.args.n * 2 ^ c.args.n = rw c.area-size.ensures at c.loop-e-test.true in
    rw c.get.ensures (small_at _ _ _ c.requires.all_small.0 inside)

-- what is compared at the place
pub returns-then-ne : goal.returns-then-ne
returns-then-ne c =
    let s = c.args in
    let inside : c.loop-e.e < 2 ^ s.n * 2 ^ s.n = rw c.area-size.ensures at c.loop-e-test.true in
    let left : c.least_power-p.result ≡ phase_of s.n (held s.n 0 s.left.now) =
    phase_of_lem _ _ _ _ c.least_power-p.ensures c.pivot.ensures.entry in
    let right : c.least_power-q.result ≡ phase_of s.n (held s.n 0 s.right.now) =
    phase_of_lem _ _ _ _ c.least_power-q.ensures c.pivot-2.ensures.entry in
    let test : c.ne.result ≡ not (alike s.left.now s.right.now (apart c.least_power-p.result c.least_power-q.result) c.loop-e.e) =
    c.ne.ensures ∙ ap not (eq_is c.times_omega.result c.get-in-loop-e.result ∙ rw (c.times_omega.ensures, c.get.ensures, c.get-in-loop-e.ensures)) in
    sym (place_differs _ _ _ _ _ _ _ left right _ inside (not-true _ (sym test ∙ c.if-ne.true)))

pub loop-e-preserved : goal.loop-e-preserved
loop-e-preserved c =
    let s = c.args in
    let test : c.ne.result ≡ not (alike s.left.now s.right.now (apart c.least_power-p.result c.least_power-q.result) c.loop-e.e) =
    c.ne.ensures ∙ ap not (eq_is c.times_omega.result c.get-in-loop-e.result ∙ rw (c.times_omega.ensures, c.get.ensures, c.get-in-loop-e.ensures)) in
    below_more (λ (i : ℕ). alike s.left.now s.right.now (apart c.least_power-p.result c.least_power-q.result) i ≡ true) c.loop-e.e c.loop-e.invariant (not-false _ (sym test ∙ c.if-ne.false))

pub returns : goal.returns
returns c =
    let s = c.args in
    let left : c.least_power-p.result ≡ phase_of s.n (held s.n 0 s.left.now) =
    phase_of_lem _ _ _ _ c.least_power-p.ensures c.pivot.ensures.entry in
    let right : c.least_power-q.result ≡ phase_of s.n (held s.n 0 s.right.now) =
    phase_of_lem _ _ _ _ c.least_power-q.ensures c.pivot-2.ensures.entry in
    sym (places_alike _ _ _ _ _ _ _ left right (omega (arith, c.if-j-k.false)) (λ e h. c.loop-e.invariant e (omega (arith, c.area-size.ensures))))
