-- `candidate_print` meets its contract: the step on the copy, and its result's fingerprint. Assumes nothing.
use native.Mathlib.Omega.{arith}
use Rattle.places.proofs.Placed.{area_le}
use Rattle.node_matrix.proofs.Prints.{copy_none, formed_print}
use Rattle.node_matrix.proofs.candidate_print.Goals as goal

pub returns-in_err-k-clause-formed : goal.returns-in_err-k-clause-formed
returns-in_err-k-clause-formed c = copy_none _ _ _ _ c.from_residual.ensures c.in_err-k.ensures.applied

pub unitary_fingerprint-requires-clause-n_in_bounds : goal.unitary_fingerprint-requires-clause-n_in_bounds
unitary_fingerprint-requires-clause-n_in_bounds c = omega (arith, area_le _ c.requires.narrow, c.apply_to_copy.ensures.long)

pub returns-clause-formed : goal.returns-clause-formed
returns-clause-formed c = formed_print _ _ _ _ c.in_ok-k.ensures.applied c.unitary_fingerprint.ensures
