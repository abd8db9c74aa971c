-- `sum_row` meets its contract: what comes next is as it was, so sum and difference of each pair read fit.
use mathlib.Core.Path.{refl, ◌∙◌}
use Rattle.h_entries.proofs.Runs.{summed_more}
use Rattle.h_entries.proofs.sum_row.Goals as goal

pub loop-i-preserved : goal.loop-i-preserved
loop-i-preserved c =
    let b = c.requires.c_bound in
    summed_more c.loop-i.invariant b.0 c.loop-i-test.true c.told-m b.1
    (c.add.ensures ∙ rw (c.get-x.ensures, c.get-y.ensures) refl) (c.sub.ensures ∙ rw (c.get-x.ensures, c.get-y.ensures) refl)
    c.put_at.ensures c.put_at-in-loop-i.ensures
