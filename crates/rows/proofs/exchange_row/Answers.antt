-- `exchange_row` meets its contract: the pair of r is r and r | 2^t, both with all bits of control or neither; where r
-- has the bit it is no lower row.
use native.Mathlib.Omega.{arith}
use Rattle.rows.proofs.Pairs.{pair_fits, pair_off, pair_none, pair_exchanged}
use Rattle.rows.proofs.exchange_row.Goals as goal

pub returns-then-r-control : goal.returns-then-r-control
returns-then-r-control c = pair_off _ _ _ _ c.requires.t_value c.if-r-control.true

pub returns-then-r-bit : goal.returns-then-r-bit
returns-then-r-bit c =
    let e = c.mask-bit.ensures in
    pair_none _ _ _ _ (rw e at c.if-r-bit.true)

pub overflow_mul-r-3 : goal.overflow_mul-r-3
overflow_mul-r-3 c =
    let b = c.requires.n_bound in
    let w = pair_fits _ _ _ _ _ b.0 b.1 c.requires.r_bound c.dim-d.ensures c.mask-bit.ensures c.if-r-bit.false in
    omega (arith, w)

pub overflow_mul-r-4 : goal.overflow_mul-r-4
overflow_mul-r-4 c =
    let b = c.requires.n_bound in
    let w = pair_fits _ _ _ _ _ b.0 b.1 c.requires.r_bound c.dim-d.ensures c.mask-bit.ensures c.if-r-bit.false in
    omega (arith, w)

pub exchange_places-requires : goal.exchange_places-requires
exchange_places-requires c =
    let b = c.requires.n_bound in
    let w = pair_fits _ _ _ _ _ b.0 b.1 c.requires.r_bound c.dim-d.ensures c.mask-bit.ensures c.if-r-bit.false in
    record { len_bound = (omega (arith, w), omega (arith, w)) }

pub returns : goal.returns
returns c =
    let d = c.dim-d.ensures in
    let b = c.mask-bit.ensures in
    pair_exchanged _ _ _ _ c.requires.n_bound.1 c.requires.r_bound c.if-r-control.false (rw b at c.if-r-bit.false) (rw (d, b) at c.exchange_places.ensures)
