-- `is_disjoint` meets its contract: two sets of qubits share no bit exactly where the gates share no qubit. Assumes
-- nothing.
use mathlib.Core.Path.{◌∙◌}
use lib.Bits.{bit_and}
use lib.Dec.{eqb}
use Rattle.circuit.specs.Pairs.{qubits, disjoint}
use Rattle.circuit.proofs.Sets.{mask_apart}
use Rattle.circuit.proofs.LibraryGate.is_disjoint.Goals as goal

pub returns : goal.returns
unfolding disjoint
returns c =
    (λ i. eqb (bit_and (c.qubit_mask.ensures i) (c.qubit_mask-2.ensures i)) 0)
    ∙ mask_apart (qubits c.args.self.0) (qubits c.args.other.0)
