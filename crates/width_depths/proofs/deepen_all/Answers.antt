-- `deepen_all` meets its contract. The invariant: the arrays hold some nodes, from which the depths that are left give
-- what all give. Assumes nothing.
use mathlib.Core.Path.{refl, ◌∙◌}
use native.Mathlib.Omega.{arith}
use Rattle.width_depths.proofs.DepthLoop.{depth_run_start, depth_run_live, depth_run_next, depth_run_none, depth_run_full, depth_run_last}
use Rattle.width_depths.proofs.deepen_all.Goals as goal

pub loop-d-init : goal.loop-d-init
loop-d-init c = (λ h. depth_run_start h, refl, refl, refl, refl)

pub deepen-t-requires-clause-bounds : goal.deepen-t-requires-clause-bounds
deepen-t-requires-clause-bounds c =
    let p = c.requires in
    (p.bounds.0, omega (arith, (c.loop-d.invariant.0 p.start).order), p.bounds.2, p.bounds.1)

pub deepen-t-requires-clause-live : goal.deepen-t-requires-clause-live
deepen-t-requires-clause-live c =
    let p = c.requires in
    depth_run_live _ _ _ _ _ _ _ _ (c.loop-d.invariant.0 p.start) (omega (arith, c.loop-d-test.true)) p.start.long

pub returns-then-t : goal.returns-then-t
returns-then-t c = record {
  deepened = λ h.
      let r = c.loop-d.invariant.0 h in
      let t = c.loop-d-test.true in
      depth_run_full _ _ _ _ _ _ _ _ r t (c.deepen-t.ensures.tried (depth_run_live _ _ _ _ _ _ _ _ r (omega (arith, t)) h.long)) c.if-t.true;
}

pub returns-then-t-n : goal.returns-then-t-n
returns-then-t-n c = record {
  deepened = λ h.
      let r = c.loop-d.invariant.0 h in
      let t = c.loop-d-test.true in
      depth_run_none _ _ _ _ _ _ _ _ r t (c.deepen-t.ensures.tried (depth_run_live _ _ _ _ _ _ _ _ r (omega (arith, t)) h.long)) c.if-t.false c.if-t-n.true;
}

pub loop-d-preserved : goal.loop-d-preserved
loop-d-preserved c =
    let l = c.loop-d in
    let t = c.deepen-t in
    let u = c.loop-d-test.true in (
      λ h. let r = l.invariant.0 h in
          depth_run_next _ _ _ _ _ _ _ _ r u (t.ensures.tried (depth_run_live _ _ _ _ _ _ _ _ r (omega (arith, u)) h.long)) c.if-t.false c.if-t-n.false,
      t.auto.fingerprints ∙ l.invariant.1,
      t.auto.parents ∙ l.invariant.2,
      t.auto.codes ∙ l.invariant.3,
      t.auto.index ∙ l.invariant.4,
    )

pub returns : goal.returns
returns c = record {
  deepened = λ h. depth_run_last _ _ _ _ _ _ _ _ (c.loop-d.invariant.0 h) (omega arith);
}
