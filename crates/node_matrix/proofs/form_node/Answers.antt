-- `form_node` meets its contract: the node's chain is good, and every step of its list fits. Assumes nothing.
use native.Mathlib.Omega.{arith}
use Rattle.places.proofs.Placed.{area_le}
use Rattle.lists.proofs.Walking.{ended_at}
use Rattle.synthesis_arena.proofs.Told.{circuit_read}
use Rattle.node_matrix.proofs.Copies.{copied_holds}
use Rattle.node_matrix.proofs.Formed.{read_valid, read_fits, read_not_unfit}
use Rattle.node_matrix.proofs.form_node.Goals as goal

pub copy_matrix-requires-clause-room : goal.copy_matrix-requires-clause-room
copy_matrix-requires-clause-room c =
    let p = c.requires in
    (omega (arith, area_le _ p.narrow, p.identity.long), omega (arith, area_le _ p.narrow, p.long))

pub apply_gates-requires-clause-codes_value : goal.apply_gates-requires-clause-codes_value
apply_gates-requires-clause-codes_value c =
    read_valid c.requires.readable (circuit_read _ _ _ _ _ _ _ _ c.circuit.ensures.written c.in-Ok.is)

pub apply_gates-requires-clause-holds : goal.apply_gates-requires-clause-holds
apply_gates-requires-clause-holds c =
    copied_holds _ c.copy_matrix.ensures.copied _ c.requires.long c.requires.identity

pub returns-in-Ok-apply_gates : goal.returns-in-Ok-apply_gates
returns-in-Ok-apply_gates c = record {
  formed = λ h.
      let r = circuit_read _ _ _ _ _ _ _ _ c.circuit.ensures.written c.in-Ok.is in
      read_fits h r (ended_at c.in-Ok-apply_gates.is c.apply_gates.ensures.ended);
}

pub returns-in-Err : goal.returns-in-Err
returns-in-Err c = record {
  formed = λ h.
      let r = circuit_read _ _ _ _ _ _ _ _ c.circuit.ensures.written c.in-Ok.is in
      absurd (read_not_unfit h r (ended_at c.in-Err.is c.apply_gates.ensures.ended));
}
