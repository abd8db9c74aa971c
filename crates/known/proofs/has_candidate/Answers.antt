-- `has_candidate` meets its contract: the candidate's matrix is formed, and the search is for it.
use mathlib.Core.Path.{◌∙◌}
use native.Mathlib.Omega.{arith}
use Rattle.places.proofs.Placed.{area_le}
use Rattle.node_matrix.proofs.Prints.{copy_done}
use Rattle.walk.specs.Modes.{keeping}
use Rattle.known.proofs.Known.{known_alike}
use Rattle.known.proofs.has_candidate.Goals as goal

pub has_equal-requires-clause-asked : goal.has_equal-requires-clause-asked
has_equal-requires-clause-asked c =
    let w = copy_done _ _ _ _ c.in-Some.is c.apply_to_copy.ensures.applied in
    (omega (arith, area_le _ c.requires.bounds.0, c.apply_to_copy.ensures.long), w.1.small)

pub returns : goal.returns
returns c =
    let w = copy_done _ _ _ _ c.in-Some.is c.apply_to_copy.ensures.applied in
    record { found = c.has_equal.ensures.found ∙ known_alike _ _ _ w.1.equal keeping }
