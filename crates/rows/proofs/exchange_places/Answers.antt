-- `exchange_places` meets its contract: the first i places of both runs are exchanged, and as the runs do not overlap
-- the next two are unchanged.
use Prim.Native.Nat.{◌+◌}
use native.Mathlib.Omega.{arith}
use mathlib.Core.Path.{◌≡◌, refl, ◌∙◌}
use borrow.Author.Rules.{rules}
use mir.Val.{to_z, of_z}
use Rattle.coefficients.specs.Coefficients.{near}
use Rattle.rows.specs.Work.{at}
use Rattle.rows.proofs.Pairs.{still_low, still_high, exchanged_more}
use Rattle.rows.proofs.exchange_places.Goals as goal

pub loop-i-preserved : goal.loop-i-preserved
loop-i-preserved c =
    let m = c.loop-i.m in
    let i = c.loop-i.i in
    let w = c.loop-i.invariant in
    let b = c.requires.len_bound in
    let x : to_z near (of_z near (at m (c.args.p + i))) ≡ at m (c.args.p + i) = search rules in
    let y : to_z near (of_z near (at m (c.args.q + i))) ≡ at m (c.args.q + i) = search rules in
    exchanged_more _ _ _ i c.args.len w b.0 (omega (arith, c.told-m)) c.loop-i-test.true
    (y ∙ still_high _ _ _ i c.args.len w b.0 c.loop-i-test.true)
    (x ∙ still_low _ _ _ i c.args.len w b.0 c.loop-i-test.true) refl
