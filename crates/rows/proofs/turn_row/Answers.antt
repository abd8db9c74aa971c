-- `turn_row` meets its contract: what it turned so far is turned, and the next entry is as it was. Assumes nothing.
use mathlib.Core.Path.{ap, ◌∙◌}
use native.Mathlib.Omega.{arith}
use Rattle.cyclotomic.specs.Zomega.{turn}
use Rattle.rows.proofs.Runs.{turned_next, turned_more}
use Rattle.rows.proofs.turn_row.Goals as goal

pub loop-i-preserved : goal.loop-i-preserved
loop-i-preserved c =
    let i = c.loop-i in
    let r = c.get-z.ensures ∙ turned_next _ _ _ _ i.invariant in
    turned_more _ _ _ i.i i.invariant c.told-m (omega (arith, c.requires.c_bound))
    (c.times_omega.ensures ∙ ap (turn c.args.power) r)
    c.put_at.ensures
