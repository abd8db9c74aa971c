-- `deepen` meets its contract. The invariant: the arrays hold some nodes, from which the nodes that are left to be
-- tried give what all give. Assumes nothing.
use mathlib.Core.Path.{◌∙◌}
use Rattle.width_layer.proofs.LayerLoop.{layer_run_live, layer_run_lt, layer_run_next, layer_run_full, layer_run_end}
use Rattle.width_layer.proofs.deepen.Goals as goal

pub try_node-t-requires-clause-bounds : goal.try_node-t-requires-clause-bounds
try_node-t-requires-clause-bounds c =
    let p = c.requires in
    (p.bounds.0, layer_run_lt _ _ _ _ _ _ _ _ _ _ (c.loop-node.invariant.0 p.live) c.loop-node-test.true, p.bounds.2, p.bounds.3)

pub try_node-t-requires-clause-live : goal.try_node-t-requires-clause-live
try_node-t-requires-clause-live c =
    let h = c.requires.live in
    layer_run_live _ _ _ _ _ _ _ _ _ _ (c.loop-node.invariant.0 h) c.loop-node-test.true h.deep h.long

pub returns-then-t : goal.returns-then-t
returns-then-t c = record {
  tried = λ h.
      let r = c.loop-node.invariant.0 h in
      let t = c.loop-node-test.true in
      layer_run_full _ _ _ _ _ _ _ _ _ _ r t (c.try_node-t.ensures.tried (layer_run_live _ _ _ _ _ _ _ _ _ _ r t h.deep h.long)) c.if-t.true;
}

pub loop-node-preserved : goal.loop-node-preserved
loop-node-preserved c =
    let l = c.loop-node in
    let t = c.try_node-t in
    let u = c.loop-node-test.true in (
      λ h. let r = l.invariant.0 h in
          layer_run_next _ _ _ _ _ _ _ _ _ _ r u (t.ensures.tried (layer_run_live _ _ _ _ _ _ _ _ _ _ r u h.deep h.long)) c.if-t.false,
      t.auto.fingerprints ∙ l.invariant.1,
      t.auto.parents ∙ l.invariant.2,
      t.auto.codes ∙ l.invariant.3,
      t.auto.index ∙ l.invariant.4,
      t.ensures.lent,
    )

pub returns : goal.returns
returns c = record {
  tried = λ h. layer_run_end _ _ _ _ _ _ _ _ _ _ (c.loop-node.invariant.0 h) c.loop-node-test.false;
}
