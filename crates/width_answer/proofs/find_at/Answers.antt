-- `find_at` meets its contract: node after node, until one answers or has a bad chain.
use mathlib.Core.Path.{refl, ap}
use Rattle.std.proofs.Common.{arith, rules}
use Rattle.std.specs.Prelude.{Ok}
use Rattle.width_answer.proofs.Widths.{as_told, search_below, after_start, after_done, after_none, after_ends, after_on}
use Rattle.width_answer.proofs.find_at.Goals as goal

pub loop-turn-init : goal.loop-turn-init
loop-turn-init c = (after_start _ _ _ _ c.requires.print_value, refl, c.requires.holds)

pub find_node-requires-clause-node_in_bounds : goal.find_node-requires-clause-node_in_bounds
find_node-requires-clause-node_in_bounds c =
    let b = search_below _ _ _ _ c.loop-turn.invariant.0 in
    let p = c.requires.count_in_bounds in
    (omega (arith, b, p.1), omega (arith, b, p.2))

pub overflow_add-at : goal.overflow_add-at
overflow_add-at c =
    let b = search_below _ _ _ _ c.loop-turn.invariant.0 in
    omega (arith, b, c.requires.count_in_bounds.0, c.ranges.part.0)

pub returns-in-Ok-Some : goal.returns-in-Ok-Some
returns-in-Ok-Some c = record { found = after_ends _ _ _ _ c.loop-turn.invariant.0 (omega (arith, c.loop-turn-test.true)) (as_told (ap Ok c.in-Ok-Some.field-0-is) c.in-Ok-Some.ensures.is) refl }

pub returns-in-Err : goal.returns-in-Err
returns-in-Err c = record { found = after_ends _ _ _ _ c.loop-turn.invariant.0 (omega (arith, c.loop-turn-test.true)) c.in-Err.ensures.is refl }

pub returns-in_default : goal.returns-in_default
returns-in_default c =
    record {
      found = after_none _ _ _ _ c.loop-turn.invariant.0 (omega (arith, c.loop-turn-test.true)) (as_told (ap Ok c.in-Ok-None.field-0-is) c.in-Ok-None.ensures.is) refl c.look_up.ensures.looked_up
          c.in_default.is _;
    }

pub loop-turn-preserved : goal.loop-turn-preserved
loop-turn-preserved c = (
  after_on _ _ _ _ c.loop-turn.invariant.0 (omega (arith, c.loop-turn-test.true)) (as_told (ap Ok c.in-Ok-None.field-0-is) c.in-Ok-None.ensures.is) refl c.look_up.ensures.looked_up
      c.in-Some.is,
  search rules,
  c.set_identity.ensures.identity,
)

pub returns : goal.returns
returns c = record { found = after_done _ _ _ _ c.loop-turn.invariant.0 (omega (arith, c.loop-turn-test.false)) _ }
