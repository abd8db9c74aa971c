-- `put_codes` meets its contract. Assumes nothing.
use native.Mathlib.Omega.{arith}
use Rattle.circuits_lines.proofs.Each.{laid_none, laid_on, codes_none, codes_more}
use Rattle.circuits_lines.proofs.put_codes.Goals as goal

pub loop-code-init : goal.loop-code-init
loop-code-init c = (omega arith, laid_none codes_none (omega arith))

pub loop-code-preserved : goal.loop-code-preserved
loop-code-preserved c =
    let l = c.loop-code in
    let d = c.put_code-p in
    let test = c.loop-code-test.true in (
      omega (arith, l.invariant.0, d.ensures.most),
      laid_on (codes_more _ _ test) l.invariant.1 d.ensures.text d.auto.out,
    )
