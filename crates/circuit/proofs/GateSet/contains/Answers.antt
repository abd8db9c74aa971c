-- `contains` meets its contract: below 32 it is the bit's own definition, and a number of 32 bits has no bit past 31.
-- Assumes nothing.
use native.Mathlib.Omega.{arith}
use mathlib.Core.Path.{refl, sym}
use Rattle.ints.specs.Bits.{bit}
use Rattle.ints.proofs.Bits.{high_bit}
use Rattle.circuit.proofs.GateSet.contains.Goals as goal

pub returns-then-kind-ge32 : goal.returns-then-kind-ge32
returns-then-kind-ge32 c = sym (high_bit c.args.self.0 32 c.args.kind (omega arith) c.if-kind-ge32.true)

pub returns : goal.returns
unfolding bit
returns c = refl
