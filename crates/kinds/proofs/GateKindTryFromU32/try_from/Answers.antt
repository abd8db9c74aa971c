-- `try_from` meets its contract: the constant has the kind of each number. Assumes nothing.
use native.Mathlib.Omega.{arith}
use mathlib.Core.Path.{refl, sym, ap, ◌∙◌}
use Rattle.kinds.specs.Told.{told_found}
use Rattle.kinds.proofs.ByNumber.{kind_past}
use Rattle.kinds.proofs.Told.{by_number}
use Rattle.kinds.proofs.GateKindTryFromU32.try_from.Goals as goal

pub returns-then-number-ge27 : goal.returns-then-number-ge27
returns-then-number-ge27 c = (refl, kind_past c.args.number (omega arith))

pub returns-in-Some : goal.returns-in-Some
returns-in-Some c = sym (ap told_found c.in-Some.is) ∙ by_number c.args.number

pub returns-in-None : goal.returns-in-None
returns-in-None c = (refl, sym (by_number c.args.number) ∙ ap told_found c.in-None.is)
