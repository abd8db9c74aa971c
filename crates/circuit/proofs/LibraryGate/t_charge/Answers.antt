-- `t_charge` meets its contract: the charge of the kind that was found, or of none. Assumes nothing.
use mathlib.Core.Path.{ap, ◌∙◌}
use Rattle.kinds.specs.Kinds.{kind_charge}
use Rattle.kinds.proofs.Told.{charge_found}
use Rattle.circuit.proofs.LibraryGate.t_charge.Goals as goal

pub returns : goal.returns
returns c = charge_found c.gate_kind.result c.map_or.result c.map_or.ensures ∙ ap kind_charge c.gate_kind.ensures
