-- `put_nodes` meets its contract. Assumes nothing.
use native.Mathlib.Omega.{arith}
use Rattle.circuits_lines.proofs.Each.{laid_none, laid_on, nodes_none, nodes_more}
use Rattle.circuits_lines.proofs.put_nodes.Goals as goal

pub loop-i-init : goal.loop-i-init
loop-i-init c = (omega arith, laid_none (nodes_none _ _) (omega arith))

pub loop-i-preserved : goal.loop-i-preserved
loop-i-preserved c =
    let l = c.loop-i in
    let a = c.args in
    let d = c.put_node-p in (
      omega (arith, l.invariant.0, d.ensures.most),
      laid_on (nodes_more a.parents.now a.codes.now a.start l.i) l.invariant.1 d.ensures.text d.auto.out,
    )
