-- `in_range` meets its contract: the least tells of the coefficients passed.
use Rattle.std.proofs.Common.{rules, ◌≡◌, pos, to_z, of_z}
use lib.ListN.{get_or}
use mir.Val.{SFits}
use mir.Facts.{to_z-of_z}
use Rattle.coefficients.specs.Coefficients.{near}
use Rattle.murm_query.proofs.Least.{least_none, least_taken, least_kept}
use Rattle.murm_query.proofs.in_range.Goals as goal
use Rattle.murm_query.proofs.in_range.Goals.{then-x-least, else-x-least}

pub loop-x-init : goal.loop-x-init
loop-x-init c = least_none _

pub loop-x-preserved : goal.loop-x-preserved
loop-x-preserved c =
    let l = c.loop-x in
    let x = get_or c.args.entries.now l.x-index (pos 0) in
    let f : SFits near x = search rules in
    let same : to_z near (of_z near x) ≡ x = to_z-of_z f in
    elim c.if-x-least.branch [
      | then-x-least w ↦ rw (w.least-is, same) (least_taken l.invariant c.loop-x-test.true f (rw same at w.if-x-least.true))
      | else-x-least w ↦ rw w.least-is (least_kept l.invariant c.loop-x-test.true f (rw same at w.if-x-least.false))
    ]
