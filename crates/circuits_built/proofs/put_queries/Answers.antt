-- `put_queries` meets its contract: one line after the other; the place rises. Assumes nothing.
use native.Mathlib.Omega.{arith}
use borrow.Author.Rules.{rules}
use Rattle.circuits_built.proofs.Asking.{asking_cut, asking_on, asking_done}
use Rattle.circuits_built.proofs.put_queries.Goals as goal

pub returns-then-later-e : goal.returns-then-later-e
returns-then-later-e c = asking_cut c.loop-i.invariant.0 _ c.find-e.ensures.found (search rules) (search rules) c.put_refused.ensures.text

pub loop-i-preserved : goal.loop-i-preserved
loop-i-preserved c =
    let d = c.put_query-p in (
      asking_on c.loop-i.invariant.0 _ c.find-e.ensures.found (search rules) (search rules) d.ensures.text d.ensures.most d.auto.out,
      c.loop-i.invariant.1,
    )

pub returns : goal.returns
returns c = asking_done c.loop-i.invariant.0 (omega (arith, c.loop-i-test.false))
