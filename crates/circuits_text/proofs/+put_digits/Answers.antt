-- `put_digits` meets its contract: the digits of n / 10, then the last; n falls. Assumes nothing.
use mathlib.Core.Path.{ap}
use native.Mathlib.Omega.{arith}
use lib.ListN.{length}
use Rattle.circuits_text.proofs.Placing.{decimal_small, decimal_length, put_digit, put_last}
use Rattle.circuits_text.proofs.+put_digits.Goals as goal

pub put_byte-requires : goal.put_byte-requires
put_byte-requires t c = omega (arith, ap length (decimal_small c.args.n c.if-n-lt10.true), c.requires)

pub returns-then-n-lt10 : goal.returns-then-n-lt10
returns-then-n-lt10 t c = put_digit c.if-n-lt10.true c.glyph.ensures c.put_byte.ensures

pub put_digits-next-requires : goal.put_digits-next-requires
put_digits-next-requires t c =
    (omega (arith, c.if-n-lt10.false, c.decreases), omega (arith, decimal_length c.args.n c.if-n-lt10.false, c.requires))

pub put_byte-requires-2 : goal.put_byte-requires-2
put_byte-requires-2 t c =
    let d = c.put_digits-next in
    omega (arith, decimal_length c.args.n c.if-n-lt10.false, c.requires, d.ensures.after, d.auto.out)

pub returns : goal.returns
returns t c = put_last c.if-n-lt10.false c.glyph-2.ensures c.put_digits-next.ensures c.put_byte-2.ensures
