-- `put_number` meets its contract. Assumes nothing.
use Rattle.circuits_text.proofs.Placing.{then_put}
use Rattle.circuits_lines.proofs.put_number.Goals as goal

pub returns-clause-text : goal.returns-clause-text
returns-clause-text c = then_put c.put_decimal-next.ensures.written c.put_byte.ensures
