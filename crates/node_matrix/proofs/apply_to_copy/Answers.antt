-- `apply_to_copy` meets its contract: the step on the copy is the step on the matrix. Assumes nothing.
use native.Mathlib.Omega.{arith}
use Rattle.places.proofs.Placed.{area_le}
use Rattle.node_matrix.proofs.Copies.{copied_ready, on_copy}
use Rattle.node_matrix.proofs.apply_to_copy.Goals as goal

pub copy_matrix-requires-clause-room : goal.copy_matrix-requires-clause-room
copy_matrix-requires-clause-room c =
    let p = c.requires in
    (omega (arith, area_le _ p.narrow, p.ready.long), omega (arith, area_le _ p.narrow, p.long))

pub apply_gate_left-requires-clause-ready : goal.apply_gate_left-requires-clause-ready
apply_gate_left-requires-clause-ready c = copied_ready _ c.copy_matrix.ensures.copied _ c.requires.long c.requires.ready

pub returns-clause-applied : goal.returns-clause-applied
returns-clause-applied c = on_copy _ _ _ c.copy_matrix.ensures.copied _ c.apply_gate_left.ensures
