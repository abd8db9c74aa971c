-- `depth` meets its contract, with 0 at node 0 and one more than the parent's depth elsewhere. The measure is the
-- node's number. Assumes nothing.
use mathlib.Core.Path.{sym, ◌∙◌}
use Rattle.std.proofs.Common.{arith}
use Rattle.synthesis_arena.proofs.Depths.{depth_unmarked, depth_root, depth_spent, depth_not_below, depth_not_valid, depth_more, depth_bad, told_err, deep}
use Rattle.synthesis_arena.proofs.+depth.Goals as goal

pub returns-then-not-is_marked : goal.returns-then-not-is_marked
returns-then-not-is_marked t c = record { depth = depth_unmarked _ _ _ _ _ _ c.if-node-eq0.true (sym c.if-not-is_marked.ensures.marked) }

pub returns-then-node-eq0 : goal.returns-then-node-eq0
returns-then-node-eq0 t c = record { depth = depth_root _ _ _ _ _ _ c.if-node-eq0.true (sym c.if-not-is_marked.ensures.marked) }

pub returns-then-limit-eq0 : goal.returns-then-limit-eq0
returns-then-limit-eq0 t c = record { depth = depth_spent _ _ _ _ _ _ (omega arith) c.if-limit-eq0.true }

pub returns-then-parent-node : goal.returns-then-parent-node
returns-then-parent-node t c = record { depth = depth_not_below _ _ _ _ _ _ (omega arith) c.if-parent-node.true }

pub returns-then-not-is_valid_for : goal.returns-then-not-is_valid_for
returns-then-not-is_valid_for t c = record { depth = depth_not_valid _ _ _ _ _ _ (omega arith) (sym c.if-not-is_valid_for.ensures) }

pub overflow_add-result : goal.overflow_add-result
overflow_add-result t c =
    let k = deep _ _ _ _ _ _ c.in_ok-depth.ensures.depth in
    omega (arith, k.within, c.ranges.limit.fits)

pub returns-in_err-depth : goal.returns-in_err-depth
returns-in_err-depth t c = record {
  depth = sym (told_err c.from_residual.result c.from_residual.ensures.0) ∙ depth_bad _ _ _ _ _ _ (omega arith) (omega arith) c.if-parent-node.false (sym c.if-not-is_valid_for.ensures) c.in_err-depth.ensures.depth;
}

pub returns : goal.returns
returns t c = record { depth = depth_more _ _ _ _ _ _ (omega arith) (omega arith) c.if-parent-node.false (sym c.if-not-is_valid_for.ensures) c.in_ok-depth.ensures.depth }
