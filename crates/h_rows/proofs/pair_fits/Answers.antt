-- `pair_fits` meets its contract: a row without the bit and its partner lie in the array, and `sizes_fit`
-- tests just what their sums ask.
use mathlib.Core.Path.{◌≡◌, refl}
use mathlib.Core.Bool.{true}
use native.Mathlib.Omega.{arith}
use borrow.Author.Tests.{eq-eqb, ne_eqb}
use Rattle.rows.specs.Rows.{has}
use Rattle.h_rows.proofs.HRows.{pair_lies, pair_tells, all_have}
use Rattle.h_rows.proofs.pair_fits.Goals as goal
use Rattle.h_rows.proofs.pair_fits.Goals.{else-this-ne0-via-then-this-ne0+else-r-control, else-this-ne0-via-else-this-ne0}

pub overflow_mul-r-then-r-control : goal.overflow_mul-r-then-r-control
overflow_mul-r-then-r-control g c =
    let p = c.requires.n_bound in
    let w = pair_lies p.0 p.1 p.2 (ne_eqb _ _ c.if-r-bit.false) c.dim-d.ensures in
    omega (arith, w)

pub roots_fit-requires : goal.roots_fit-requires
roots_fit-requires g c =
    let p = c.requires.n_bound in
    record { c_bound = pair_lies p.0 p.1 p.2 (ne_eqb _ _ c.if-r-bit.false) c.dim-d.ensures }

pub overflow_mul-r-4 : goal.overflow_mul-r-4
overflow_mul-r-4 g c =
    let p = c.requires.n_bound in
    let w = pair_lies p.0 p.1 p.2 (ne_eqb _ _ c.if-r-bit.false) c.dim-d.ensures in
    omega (arith, w)

pub overflow_mul-r-5 : goal.overflow_mul-r-5
overflow_mul-r-5 g c =
    let p = c.requires.n_bound in
    let w = pair_lies p.0 p.1 p.2 (ne_eqb _ _ c.if-r-bit.false) c.dim-d.ensures in
    omega (arith, w)

pub sizes_fit-requires : goal.sizes_fit-requires
sizes_fit-requires g c =
    let p = c.requires.n_bound in
    let w = pair_lies p.0 p.1 p.2 (ne_eqb _ _ c.if-r-bit.false) c.dim-d.ensures in
    (omega (arith, w), omega (arith, w))

pub returns : goal.returns
returns g c =
    let active : has c.args.r c.args.control ≡ true = elim c.else-this-ne0.branch [
      | else-this-ne0-via-then-this-ne0+else-r-control w ↦ eq-eqb _ _ w.if-r-control.false
      | else-this-ne0-via-else-this-ne0 w ↦ rw (c.requires.no_control (rw w.if-this-ne0.false refl)) (all_have c.args.r)
    ] in
    pair_tells c.dim-d.ensures (ne_eqb _ _ c.if-r-bit.false) active c.sizes_fit.ensures
