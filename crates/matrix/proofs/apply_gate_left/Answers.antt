-- `apply_gate_left` meets its contract: the gate of a valid code is that of its kind on its operands. Assumes nothing.
use mathlib.Core.Path.{◌≡◌, sym, ap, ◌∙◌}
use Rattle.exact.proofs.Coded.{valid_kind_lem}
use Rattle.kinds.specs.Kinds.{is_kind}
use Rattle.kinds.specs.Told.{told_kind, told_found}
use Rattle.circuit.specs.Codes.{kind_of}
use Rattle.matrix.proofs.ByKind.{is_found, coded, coded_proper}
use Rattle.matrix.proofs.apply_gate_left.Goals as goal

pub unwrap-kind-requires : goal.unwrap-kind-requires
unwrap-kind-requires c = is_found c.gate_kind.result (ap is_kind c.gate_kind.ensures ∙ valid_kind_lem _ _ c.requires.gate_value)

pub kind_step-requires-clause-proper : goal.kind_step-requires-clause-proper
kind_step-requires-clause-proper c =
    let e : told_kind c.unwrap-kind.result ≡ kind_of c.args.gate.0 = ap told_found (sym c.unwrap-kind.ensures) ∙ c.gate_kind.ensures in
    rw (e, c.first.ensures, c.second.ensures, c.third.ensures) (coded_proper _ _ c.requires.gate_value)

pub returns : goal.returns
returns c =
    let e : told_kind c.unwrap-kind.result ≡ kind_of c.args.gate.0 = ap told_found (sym c.unwrap-kind.ensures) ∙ c.gate_kind.ensures in
    rw (coded _ _ c.requires.gate_value) (rw (e, c.first.ensures, c.second.ensures, c.third.ensures) at c.kind_step.ensures)
