-- `divide_by_sqrt_2` meets its contract: a sum and a difference of two small coefficients are at most twice the limit,
-- which `halved` asks. Assumes nothing.
use mathlib.Core.Path.{ap, ◌∙◌}
use lib.IntN.{◌+ℤ◌, ◌-ℤ◌}
use Rattle.ints.proofs.Machine.{said}
use Rattle.coefficients.specs.Coefficients.{near, half}
use Rattle.cyclotomic.specs.Zomega.{over_sqrt2}
use Rattle.cyclotomic.proofs.Each.{SizeKept, kept, each, formed}
use Rattle.cyclotomic.proofs.Cyclotomic.divide_by_sqrt_2.Goals as goal

pub returns : goal.returns
unfolding over_sqrt2
returns c =
    let s : SizeKept c.args.self = kept c.well_formed.0.1.1 in
    let first = formed ◌-ℤ◌ s.b_kept s.d_kept c.minus.type_inv c.minus.ensures in
    let second = formed ◌+ℤ◌ s.a_kept s.c_kept c.plus.type_inv c.plus.ensures in
    let third = formed ◌+ℤ◌ s.b_kept s.d_kept c.plus-2.type_inv c.plus-2.ensures in
    let fourth = formed ◌-ℤ◌ s.c_kept s.a_kept c.minus-2.type_inv c.minus-2.ensures in
    each
    (said near c.halved.type_inv c.halved.ensures ∙ ap half first)
    (said near c.halved-2.type_inv c.halved-2.ensures ∙ ap half second)
    (said near c.halved-3.type_inv c.halved-3.ensures ∙ ap half third)
    (said near c.halved-4.type_inv c.halved-4.ensures ∙ ap half fourth)
