-- `h_fits` meets its contract: where every pair, tested at its lower row, fits, so does the whole result,
-- and a pair that does not is part of it.
use native.Mathlib.Omega.{arith}
use mathlib.Core.Path.{refl}
use lib.Pow.{pow-lt}
use Rattle.ints.proofs.Bools.{clash}
use Rattle.h_rows.proofs.HRows.{fits_more, fits_all, all_pair}
use Rattle.h_rows.proofs.h_fits.Goals as goal

pub pair_fits-requires-clause-n_bound : goal.pair_fits-requires-clause-n_bound
pair_fits-requires-clause-n_bound g c = (c.requires.n_bound.0, omega (arith, c.dim-d.ensures), rw c.mask-bit.ensures (pow-lt c.requires.n_bound.1))

pub returns-then-not-pair_fits : goal.returns-then-not-pair_fits
returns-then-not-pair_fits g c =
    record {
      holds = λ h. clash h refl;
      fails = λ h w. c.pair_fits.ensures.fails c.if-not-pair_fits.true
          (rw c.mask-bit.ensures (all_pair c.args.control c.args.t c.requires.t_value w c.requires.n_bound.1 (omega (arith, c.dim-d.ensures))));
    }

pub loop-r-preserved : goal.loop-r-preserved
loop-r-preserved g c =
    fits_more c.loop-r.invariant (rw c.mask-bit.ensures at (c.pair_fits.ensures.holds c.if-not-pair_fits.false))

pub returns : goal.returns
returns g c = record {
  holds = λ h. fits_all c.args.control c.args.t c.requires.t_value c.loop-r.invariant (omega (arith, c.dim-d.ensures));
  fails = λ h. clash refl h;
}
