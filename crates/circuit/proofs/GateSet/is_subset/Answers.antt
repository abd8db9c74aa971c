-- `is_subset` meets its contract: the common bits are all of the set's own exactly where it has no bit outside the
-- other. Assumes nothing.
use native.Mathlib.Omega.{arith}
use Rattle.circuit.proofs.Sets.{subset_and}
use Rattle.circuit.proofs.GateSet.is_subset.Goals as goal

pub returns : goal.returns
returns c = subset_and c.args.self.0 c.args.other.0 (omega arith)
