-- `put_decimal` meets its contract: a 64-bit number has at most 20 digits. Assumes nothing.
use native.Mathlib.Omega.{arith}
use Rattle.circuits_text.proofs.Placing.{decimal_short}
use Rattle.circuits_text.proofs.put_decimal.Goals as goal

pub put_digits-requires : goal.put_digits-requires
put_digits-requires c =
    let s = c in
    omega (arith, decimal_short 19 s.args.n (omega (arith, s.ranges.n)), s.requires)

pub returns-clause-most : goal.returns-clause-most
returns-clause-most c =
    let s = c in
    omega (arith, decimal_short 19 s.args.n (omega (arith, s.ranges.n)), s.put_digits.ensures.after)
