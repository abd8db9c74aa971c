-- `put_code` meets its contract: a 32-bit number has at most ten digits. Assumes nothing.
use native.Mathlib.Omega.{arith}
use Rattle.circuits_text.proofs.Placing.{decimal_short}
use Rattle.circuits_lines.proofs.put_code.Goals as goal

pub returns-clause-most : goal.returns-clause-most
returns-clause-most c =
    let b = c.put_byte-next.ensures in
    let d = c.put_decimal.ensures in
    omega (arith, decimal_short 9 c.args.code (omega (arith, c.ranges.code)), b.after, d.written.after)
