-- `put_refused` meets its contract. Assumes nothing.
use Rattle.circuits_text.proofs.Placing.{then_put}
use Rattle.circuits_lines.specs.Lines.{refused_line}
use Rattle.circuits_lines.proofs.put_refused.Goals as goal

pub returns-clause-text : goal.returns-clause-text
unfolding refused_line
returns-clause-text c =
    let m = c.number_of-told.ensures in
    rw (← m.number, ← m.position) (then_put (then_put c.put_bytes-first.ensures c.put_number-second.ensures.text) c.put_number.ensures.text)
