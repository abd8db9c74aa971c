-- `recheck` meets its contract: the list's answer decides whether every step fits, and the places hold its product.
use Rattle.std.proofs.Common.{◌≡◌, ℕ, ◌*◌, ◌^◌, ◌≤◌, arith}
use Rattle.places.specs.Places.{places}
use Rattle.places.proofs.Placed.{area_le}
use Rattle.node_answer.proofs.Rechecked.{recheck_test, recheck_unfit}
use Rattle.node_answer.proofs.recheck.Goals as goal

-- the matrix is all there
whole : (n size : ℕ) → n ≤ 5 → size ≡ places → 4 * (2 ^ n * 2 ^ n) ≤ size
whole n size h e = omega (arith, area_le n h)

pub equivalent_up_to_global_phase-requires-clause-n_in_bounds : goal.equivalent_up_to_global_phase-requires-clause-n_in_bounds
equivalent_up_to_global_phase-requires-clause-n_in_bounds c = (whole _ _ c.requires.n_bound c.in-Ok.ensures.ended.end.long, c.requires.asked_places.0)

pub returns-in-Ok : goal.returns-in-Ok
returns-in-Ok c =
    let w = c.in-Ok.ensures.ended in
    recheck_test _ _ _ _ w.answer w.end c.equivalent_up_to_global_phase.ensures

pub returns-in-Err : goal.returns-in-Err
returns-in-Err c = recheck_unfit _ _ _ c.in-Err.ensures.ended.answer
