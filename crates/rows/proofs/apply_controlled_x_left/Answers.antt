-- `apply_controlled_x_left` meets its contract: the pairs whose lower row is below r are done, the others are as they
-- were.
use Rattle.rows.proofs.Sweeps.{swept_more}
use Rattle.rows.proofs.Pairs.{pair_same}
use Rattle.rows.proofs.apply_controlled_x_left.Goals as goal

pub loop-r-preserved : goal.loop-r-preserved
loop-r-preserved c =
    let i = c.loop-r in
    swept_more _ _ i.r i.invariant c.exchange_row.ensures (pair_same _ _ c.args.t i.r c.requires.n_bound.1 i.invariant)
