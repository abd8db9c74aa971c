-- `root_row` meets its contract: what comes next is as it was, so √2 times each entry read fits.
use mathlib.Core.Path.{refl, ◌∙◌}
use Rattle.h_entries.proofs.Runs.{summed_more}
use Rattle.h_entries.proofs.root_row.Goals as goal

pub loop-i-preserved : goal.loop-i-preserved
loop-i-preserved c =
    let b = c.requires.c_bound in
    summed_more c.loop-i.invariant b.0 c.loop-i-test.true c.told-m b.1
    (c.times_sqrt_2.ensures ∙ rw c.get-x.ensures refl) (c.times_sqrt_2-in-loop-i.ensures ∙ rw c.get-y.ensures refl)
    c.put_at.ensures c.put_at-in-loop-i.ensures
