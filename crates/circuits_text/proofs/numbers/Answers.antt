-- `numbers` meets its contract: the words passed are numbers and stand in the list. Assumes nothing.
use mathlib.Core.Path.{sym}
use native.Mathlib.Omega.{arith}
use Rattle.circuits_text.proofs.Split.{read_none, read_last, read_on, read_other, read_full}
use Rattle.circuits_text.proofs.numbers.Goals as goal

pub loop-k-init : goal.loop-k-init
loop-k-init c = read_none _ _

pub returns-in_err-list : goal.returns-in_err-list
returns-in_err-list c =
    rw c.from_residual.ensures
    (read_other c.loop-k.invariant c.find-e.result c.find-e.ensures.found (sym c.in_err-list.ensures))

pub returns-then-line-e : goal.returns-then-line-e
returns-then-line-e c =
    read_last c.loop-k.invariant c.find-e.result c.find-e.ensures.found _ (omega arith) (sym c.in_ok-list.ensures) (omega arith)

pub loop-k-preserved : goal.loop-k-preserved
loop-k-preserved c =
    read_on c.loop-k.invariant c.find-e.result c.find-e.ensures.found _ (omega arith) (sym c.in_ok-list.ensures) (omega arith)

pub returns : goal.returns
returns c = read_full c.loop-k.invariant (omega arith)
