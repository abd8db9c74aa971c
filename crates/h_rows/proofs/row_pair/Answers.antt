-- `row_pair` meets its contract: a row without the bit lies before its partner, and what is required of the
-- pair is what `sum_row` asks.
use native.Mathlib.Omega.{arith}
use borrow.Author.Tests.{ne_eqb}
use Rattle.h_rows.proofs.HRows.{pair_lies}
use Rattle.h_rows.proofs.row_pair.Goals as goal

pub overflow_mul-r-then-r-control : goal.overflow_mul-r-then-r-control
overflow_mul-r-then-r-control g c =
    let p = c.requires.n_bound in
    let w = pair_lies p.0 p.1 p.2 (ne_eqb _ _ c.if-r-bit.false) c.dim-d.ensures in
    omega (arith, w)

pub root_row-requires-clause-c_bound : goal.root_row-requires-clause-c_bound
root_row-requires-clause-c_bound g c =
    let p = c.requires.n_bound in
    pair_lies p.0 p.1 p.2 (ne_eqb _ _ c.if-r-bit.false) c.dim-d.ensures

pub overflow_mul-r-3 : goal.overflow_mul-r-3
overflow_mul-r-3 g c =
    let p = c.requires.n_bound in
    let w = pair_lies p.0 p.1 p.2 (ne_eqb _ _ c.if-r-bit.false) c.dim-d.ensures in
    omega (arith, w)

pub sum_row-requires-clause-c_bound : goal.sum_row-requires-clause-c_bound
sum_row-requires-clause-c_bound g c =
    let p = c.requires.n_bound in
    pair_lies p.0 p.1 p.2 (ne_eqb _ _ c.if-r-bit.false) c.dim-d.ensures
