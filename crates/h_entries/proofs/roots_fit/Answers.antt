-- `roots_fit` meets its contract: where every entry passed fits, so do they all, and one that does not is among them.
use mathlib.Core.Path.{refl, sym, ap, ◌∙◌}
use Rattle.ints.proofs.Bools.{clash}
use Rattle.cyclotomic.specs.Zomega.{Zω, fits, sqrt2}
use Rattle.cyclotomic.proofs.Answers.{fits_small, small_fits}
use Rattle.h_entries.proofs.Runs.{sums_more}
use Rattle.h_entries.proofs.roots_fit.Goals as goal

pub returns-then-not-sqrt_2_fits : goal.returns-then-not-sqrt_2_fits
returns-then-not-sqrt_2_fits c =
    let first = c.sqrt_2_fits.ensures ∙ ap (λ (z : Zω). fits (sqrt2 z)) c.get-x.ensures in record {
      holds = λ h. clash h refl;
      fails = λ h w. clash (small_fits _ (w.sum_fits c.loop-i.i c.loop-i-test.true)) (sym first ∙ c.if-not-sqrt_2_fits.true);
    }

pub returns-then-not-sqrt_2_fits-2 : goal.returns-then-not-sqrt_2_fits-2
returns-then-not-sqrt_2_fits-2 c =
    let second = c.sqrt_2_fits-in-loop-i.ensures ∙ ap (λ (z : Zω). fits (sqrt2 z)) c.get-y.ensures in record {
      holds = λ h. clash h refl;
      fails = λ h w. clash (small_fits _ (w.difference_fits c.loop-i.i c.loop-i-test.true)) (sym second ∙ c.if-not-sqrt_2_fits-2.true);
    }

pub loop-i-preserved : goal.loop-i-preserved
loop-i-preserved c =
    let first = c.sqrt_2_fits.ensures ∙ ap (λ (z : Zω). fits (sqrt2 z)) c.get-x.ensures in
    let second = c.sqrt_2_fits-in-loop-i.ensures ∙ ap (λ (z : Zω). fits (sqrt2 z)) c.get-y.ensures in
    sums_more _ _ _ _ _ c.loop-i.invariant (fits_small _ (sym first ∙ c.if-not-sqrt_2_fits.false)) (fits_small _ (sym second ∙ c.if-not-sqrt_2_fits-2.false))
