-- `put_table_line` meets its contract. Assumes nothing.
use mathlib.Core.Path.{ap}
use Prim.Native.Nat.{ℕ}
use Rattle.circuits_text.proofs.Placing.{then_put, put_as}
use Rattle.circuits_text.specs.Reading.{newline}
use Rattle.circuits_lines.specs.Lines.{number_then, table_line}
use Rattle.circuits_lines.proofs.put_table_line.Goals as goal

pub returns-clause-text : goal.returns-clause-text
unfolding table_line
returns-clause-text c =
    let e = ap (λ (n : ℕ). number_then n newline) c.digit.ensures in
    then_put
    (then_put (then_put (then_put c.put_bytes-first.ensures c.put_number-second.ensures.text) c.put_number-third.ensures.text) c.put_number-fourth.ensures.text)
    (put_as e c.put_number.ensures.text)
