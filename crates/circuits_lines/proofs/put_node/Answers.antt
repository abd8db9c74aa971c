-- `put_node` meets its contract: 32-bit numbers have at most ten digits. Assumes nothing.
use native.Mathlib.Omega.{arith}
use Rattle.circuits_text.specs.Reading.{space, newline}
use Rattle.circuits_text.proofs.Placing.{then_put}
use Rattle.circuits_lines.specs.Lines.{node_line}
use Rattle.circuits_lines.proofs.Each.{short}
use Rattle.circuits_lines.proofs.put_node.Goals as goal

pub put_number-requires : goal.put_number-requires
put_number-requires c =
    let s = c in
    let a = c.put_number-first in
    let b = c.put_number-second in
    omega (arith, s.requires, short s.args.node space (omega (arith, s.ranges.node)) a.ensures.text, short s.args.parent space (omega (arith, s.ranges.parent)) b.ensures.text, a.auto.out, b.auto.out)

pub returns-clause-text : goal.returns-clause-text
unfolding node_line
returns-clause-text c = then_put (then_put c.put_number-first.ensures.text c.put_number-second.ensures.text) c.put_number.ensures.text

pub returns-clause-most : goal.returns-clause-most
returns-clause-most c =
    let s = c in
    omega (
      arith,
      short s.args.node space (omega (arith, s.ranges.node)) c.put_number-first.ensures.text,
      short s.args.parent space (omega (arith, s.ranges.parent)) c.put_number-second.ensures.text,
      short s.args.code newline (omega (arith, s.ranges.code)) c.put_number.ensures.text,
    )
