-- The table's one law: every row computes to what the specification states (SPECIFICATION 11.1). Assumes nothing.
use mathlib.Core.Path.{refl}
use Rattle.ints.specs.Bits.{bit}
use Rattle.ints.specs.Lists.{range, each, all, elem, distinct}
use Rattle.cyclotomic.specs.Zomega.{zeroω, oneω, sqrt2, is_zero, addω, subω, turn, divisible, over_sqrt2, less, least_up_to, fits}
use Rattle.cyclotomic.specs.Told.{checked}
use Rattle.kinds.specs.Kinds.{kind_at, number, arity, sorted, is_kind, dual, of_tables}
use Rattle.operands.specs.Operands.{placed, rises}
use Rattle.circuit.specs.Codes.{valid, valid_for}
use Rattle.circuit.specs.Pairs.{inverse}
use Rattle.kinds.specs.Kinds.{kind_charge}
use Rattle.circuit.specs.Charge.{charge}
use Rattle.generators.specs.Generators.{kept, generators}
use Rattle.exact.specs.Matrix.{all_divisible, lower}
use Rattle.exact.specs.Rows.{flip, column, gate_of}
use Rattle.exact.specs.Lists.{product}
use Rattle.exact.specs.Fits.{step_fits}
use Rattle.exact.specs.Phase.{pivot, phase_of}
use Rattle.tables.specs.Checks.{first_row}
use Rattle.tables.specs.Lists.{listed}
use Rattle.worked_cases.specs.Cases.{AsStated}

pub as_stated : AsStated
unfolding of_tables number dual inverse kind_charge charge listed first_row bit range each all elem distinct addω subω turn divisible over_sqrt2 less least_up_to fits checked kind_at arity sorted is_kind placed rises valid valid_for kept generators zeroω oneω sqrt2 is_zero all_divisible lower flip column gate_of step_fits product pivot phase_of
as_stated = record { rows = refl }
