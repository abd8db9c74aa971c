-- `h_rows` meets its contract: pairs whose lower row was passed are worked and all others are as they were,
-- so each pair fits when it is reached.
use Rattle.h_rows.proofs.HRows.{row_next, row_worked, rows_worked}
use Rattle.h_rows.proofs.h_rows.Goals as goal

pub row_pair-requires-clause-n_bound : goal.row_pair-requires-clause-n_bound
row_pair-requires-clause-n_bound g c =
    let p = row_next c.args.control c.args.t c.requires.t_value c.requires.n_bound.1 c.dim-d.ensures c.mask-bit.ensures c.loop-r.invariant c.requires.all_small c.loop-r-test.true in
    (c.requires.n_bound.0, p.0, p.1)

pub row_pair-requires-clause-pair_fits : goal.row_pair-requires-clause-pair_fits
row_pair-requires-clause-pair_fits g c =
    let p = row_next c.args.control c.args.t c.requires.t_value c.requires.n_bound.1 c.dim-d.ensures c.mask-bit.ensures c.loop-r.invariant c.requires.all_small c.loop-r-test.true in
    p.2

pub loop-r-preserved : goal.loop-r-preserved
loop-r-preserved g c =
    row_worked c.args.control c.args.t c.requires.t_value c.requires.n_bound.1 c.dim-d.ensures c.mask-bit.ensures c.loop-r.invariant c.loop-r-test.true c.row_pair.ensures

pub returns-clause-summed : goal.returns-clause-summed
returns-clause-summed g c =
    let p = rows_worked c.args.control c.args.t c.requires.t_value c.requires.n_bound.1 c.dim-d.ensures c.mask-bit.ensures c.loop-r.invariant c.told-m c.loop-r-test.false in
    p.1.0
