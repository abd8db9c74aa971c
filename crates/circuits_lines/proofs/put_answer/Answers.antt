-- `put_answer` meets its contract. Assumes nothing.
use mathlib.Core.Path.{ap}
use Rattle.circuits_text.specs.Writing.{decimal}
use Rattle.circuits_text.proofs.Placing.{then_put, put_as}
use Rattle.circuits_lines.specs.Lines.{answer_line}
use Rattle.circuits_lines.proofs.put_answer.Goals as goal

pub returns-clause-text : goal.returns-clause-text
unfolding answer_line
returns-clause-text c =
    let e = ap decimal c.t_charge.ensures in
    then_put (then_put (then_put c.put_number-first.ensures.text (put_as e c.put_decimal-second.ensures.written)) c.put_codes-third.ensures.text) c.put_byte.ensures
