-- `fitting` meets its contract: of the gates passed, those whose steps fit stand in the first places, with the
-- fingerprints of their candidates. Assumes nothing.
use mathlib.Core.Path.{◌≡◌}
use Prim.Native.Nat.{◌+◌, ◌-◌, ◌*◌, ◌<◌}
use native.Mathlib.Omega.{arith}
use Rattle.fitting_gates.proofs.TwoSifted.{source_at, two_all, two_put}
use Rattle.fitting_gates.proofs.fitting.Goals as goal

pub loop-pair-preserved : goal.loop-pair-preserved
loop-pair-preserved c =
    let room = c.requires.room in
    let l = c.loop-pair in
    let t : 2 * l.pair + 1 < c.args.size = omega (arith, c.loop-pair-test.true) in
    let a = c.two_prints-two.ensures in
    let e = c.put_formed-place.ensures in
    let f = c.put_formed-fit.ensures in
    let two : 2 * l.pair + 1 + 1 ≡ 2 * (l.pair + 1) = omega arith in
    let w = two_put _ _ room l.invariant.0 (omega (arith, t)) _ (source_at room l.invariant.0 (2 * l.pair) (omega arith) (omega (arith, t))) a.first e.next e.gates e.prints in (
      rw (← two) (two_put _ _ room w t _ (source_at room l.invariant.0 (2 * l.pair + 1) (omega arith) t) a.second f.next f.gates f.prints),
      a.long.0,
      a.long.1,
    )

pub returns-clause-fitting : goal.returns-clause-fitting
returns-clause-fitting c =
    let room = c.requires.room in
    let l = c.loop-pair in
    let odd : c.args.size - 1 ≡ 2 * l.pair = omega arith in
    let t : 2 * l.pair < c.args.size = omega arith in
    let a = c.two_prints-both.ensures in
    let e = c.put_formed.ensures in
    let w = two_put _ _ room l.invariant.0 t _ (rw odd (source_at room l.invariant.0 (2 * l.pair) (omega arith) t)) a.first e.next e.gates e.prints in
    two_all room w (omega arith) (omega (arith, t))
