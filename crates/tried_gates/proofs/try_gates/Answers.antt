-- `try_gates` meets its contract. The invariant: the arrays hold some nodes, from which the gates that are left give
-- what all generators give. Assumes nothing.
use mathlib.Core.Path.{◌≡◌, refl, ap, ◌∙◌}
use native.Mathlib.Omega.{arith}
use lib.ListN.{length, length-map}
use Rattle.width_arrays.proofs.Live.{live_room}
use Rattle.exact.specs.Places.{held}
use Rattle.fitting_gates.specs.Fitting.{candidate_print}
use Rattle.tried_gates.proofs.NodeLoop.{node_run_live, node_run_lt, node_run_end}
use Rattle.tried_gates.proofs.Gates.{gate_fits, gate_ahead, ahead_now, hint_now, gates_start, gates_full, gates_next}
use Rattle.tried_gates.proofs.try_gates.Goals as goal

pub loop-j-init : goal.loop-j-init
loop-j-init c =
    let p = c.requires in
    (λ w. gates_start w p.bounds.1 p.gates, refl, refl, refl, refl, p.long.0, p.long.1)

pub append-t-requires-clause-room : goal.append-t-requires-clause-room
append-t-requires-clause-room c =
    let p = c.requires in
    let w = p.formed in
    let r = c.loop-j.invariant.0 w in
    live_room (node_run_live _ _ _ _ _ _ _ _ _ _ _ _ r w.live.deep w.live.long) (node_run_lt _ _ _ _ _ _ _ _ _ _ _ _ r) p.bounds.0 p.bounds.3 p.bounds.2

pub append-t-requires-clause-ahead : goal.append-t-requires-clause-ahead
append-t-requires-clause-ahead c =
    let a = c.args in
    let p = c.requires in
    let long : length a.prints.now ≡ length a.gates.now = ap length p.prints ∙ length-map a.gates.now (candidate_print a.limits.width (held a.limits.width a.exponent a.m.now)) in
    hint_now p.formed p.bounds.1 p.gates (c.loop-j.invariant.0 p.formed) c.loop-j-test.true p.bounds.2 a.prints.now long p.nodes

pub append-t-requires-clause-gate : goal.append-t-requires-clause-gate
append-t-requires-clause-gate c =
    let p = c.requires in
    gate_fits p.formed p.bounds.1 p.gates p.bounds.0 c.loop-j.j c.loop-j-test.true

pub returns-then-t-clause-tried : goal.returns-then-t-clause-tried
returns-then-t-clause-tried c =
    let p = c.requires in
    let l = c.loop-j in
    let t = c.loop-j-test.true in
    λ w. let r = l.invariant.0 w in
    let a = ahead_now w p.bounds.1 p.gates r t (gate_ahead w p.bounds.1 p.gates p.prints l.j t) in
    gates_full w p.bounds.1 p.gates r t (c.append-t.ensures.appended (node_run_live _ _ _ _ _ _ _ _ _ _ _ _ r w.live.deep w.live.long) a.unpruned a.fits a.print a.equal) c.if-t.true

pub loop-j-preserved : goal.loop-j-preserved
loop-j-preserved c =
    let p = c.requires in
    let l = c.loop-j in
    let t = c.loop-j-test.true in
    let b = c.append-t in
    let e = b.ensures in (
      λ w. let r = l.invariant.0 w in
          let a = ahead_now w p.bounds.1 p.gates r t (gate_ahead w p.bounds.1 p.gates p.prints l.j t) in
          gates_next w p.bounds.1 p.gates r t (e.appended (node_run_live _ _ _ _ _ _ _ _ _ _ _ _ r w.live.deep w.live.long) a.unpruned a.fits a.print a.equal) c.if-t.false,
      b.auto.fingerprints ∙ l.invariant.1,
      b.auto.parents ∙ l.invariant.2,
      b.auto.codes ∙ l.invariant.3,
      b.auto.index ∙ l.invariant.4,
      e.long.0,
      e.long.1,
    )

pub returns-clause-tried : goal.returns-clause-tried
returns-clause-tried c = λ w. node_run_end _ _ _ _ _ _ _ _ _ _ _ _ (c.loop-j.invariant.0 w) (omega (arith, c.loop-j-test.false))
