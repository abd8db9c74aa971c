-- `divide_all` meets its contract: the entries so far are divided, and the others are as they were. Assumes nothing.
use mathlib.Core.Path.{◌≡◌, ap, ◌∙◌}
use Prim.Native.Nat.{◌<◌}
use native.Mathlib.Omega.{arith}
use Rattle.cyclotomic.specs.Zomega.{over_sqrt2}
use Rattle.exact.specs.Places.{entry}
use Rattle.places.proofs.Placed.{area_le, small_at, kept_entries}
use Rattle.lowering.proofs.Divided.{divided_more}
use Rattle.lowering.proofs.divide_all.Goals as goal

pub get-z-requires : goal.get-z-requires
get-z-requires c =
    omega (arith, c.loop-e.invariant.long, c.told-m, area_le _ c.requires.n_bound, c.area-size.ensures)

-- the entry that was read is the first array's
pub divide_by_sqrt_2-requires : goal.divide_by_sqrt_2-requires
divide_by_sqrt_2-requires c =
    let is : c.get-z.result ≡ entry c.args.m.now c.loop-e.e =
    c.get-z.ensures ∙ c.loop-e.invariant.other _ (omega arith) in
    rw is
    (small_at _ _ _ c.requires.all_small (omega (arith, c.area-size.ensures)))

pub put_at-requires : goal.put_at-requires
put_at-requires c = omega (arith, area_le _ c.requires.n_bound, c.area-size.ensures)

pub loop-e-preserved : goal.loop-e-preserved
loop-e-preserved c =
    let inside : c.loop-e.e < 1024 = omega (arith, area_le _ c.requires.n_bound, c.area-size.ensures) in
    let is : c.get-z.result ≡ entry c.args.m.now c.loop-e.e =
    c.get-z.ensures ∙ c.loop-e.invariant.other _ (omega arith) in
    divided_more _ _ c.loop-e.invariant c.told-m inside (c.divide_by_sqrt_2.ensures ∙ ap over_sqrt2 is) c.put_at.ensures

pub returns-clause-kept : goal.returns-clause-kept
returns-clause-kept c =
    kept_entries _ (λ k h. c.loop-e.invariant.other k (omega (arith, c.loop-e.auto.e-end, c.area-size.ensures)))
