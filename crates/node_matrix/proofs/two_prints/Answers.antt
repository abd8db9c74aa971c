-- `two_prints` meets its contract: each gate's step on its own copy, and the fingerprints of what fits. Assumes
-- nothing.
use native.Mathlib.Omega.{arith}
use Rattle.places.proofs.Placed.{area_le}
use Rattle.node_matrix.proofs.Prints.{copy_done, copy_unfit, formed_print}
use Rattle.node_matrix.proofs.two_prints.Goals as goal

pub returns-in_default-clause-first : goal.returns-in_default-clause-first
returns-in_default-clause-first c = copy_unfit _ _ _ _ c.in_default.is c.apply_to_copy.ensures.applied

pub unitary_fingerprint-requires-clause-n_in_bounds : goal.unitary_fingerprint-requires-clause-n_in_bounds
unitary_fingerprint-requires-clause-n_in_bounds c = omega (arith, area_le _ c.requires.narrow, c.apply_to_copy.ensures.long)

pub returns-in_default-apply_to_copy-clause-first : goal.returns-in_default-apply_to_copy-clause-first
returns-in_default-apply_to_copy-clause-first c =
    formed_print _ _ _ _ (copy_done _ _ _ _ c.in-Some.is c.apply_to_copy.ensures.applied) c.unitary_fingerprint.ensures

pub returns-in_default-apply_to_copy-clause-second : goal.returns-in_default-apply_to_copy-clause-second
returns-in_default-apply_to_copy-clause-second c =
    copy_unfit _ _ _ _ c.in_default-apply_to_copy.is c.apply_to_copy-2.ensures.applied

pub pair_fingerprints-both-requires-clause-n_in_bounds : goal.pair_fingerprints-both-requires-clause-n_in_bounds
pair_fingerprints-both-requires-clause-n_in_bounds c = (
  omega (arith, area_le _ c.requires.narrow, c.apply_to_copy.ensures.long),
  omega (arith, area_le _ c.requires.narrow, c.apply_to_copy-2.ensures.long),
)

pub returns-clause-first : goal.returns-clause-first
returns-clause-first c =
    formed_print _ _ _ _ (copy_done _ _ _ _ c.in-Some.is c.apply_to_copy.ensures.applied) c.pair_fingerprints-both.ensures.left

pub returns-clause-second : goal.returns-clause-second
returns-clause-second c =
    formed_print _ _ _ _ (copy_done _ _ _ _ c.in-Some-apply_to_copy.is c.apply_to_copy-2.ensures.applied) c.pair_fingerprints-both.ensures.right
