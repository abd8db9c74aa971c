-- `check_node` meets its contract: each test that was passed decides its row. Assumes nothing.
use mathlib.Core.Path.{ap, subst}
use Prim.Native.Nat.{ℕ, ◌≤◌, ◌<◌}
use Rattle.refusal.specs.Told.{by_row}
use Rattle.murm_config.specs.Told.{told_murm}
use Rattle.murm_config.proofs.Asking.{no_node, too_short, long_enough}
use Rattle.murm_config.proofs.check_node.Goals as goal

pub returns-then-node-count_at : goal.returns-then-node-count_at
returns-then-node-count_at c =
    let a = c.args in
    ap by_row (no_node (told_murm a.table) a.width a.node a.room (subst (λ (k : ℕ). k ≤ a.node) c.count_at.ensures c.if-node-count_at.true))

pub returns-then-room-table : goal.returns-then-room-table
returns-then-room-table c =
    let a = c.args in
    ap by_row (too_short (told_murm a.table) a.width a.node a.room (subst (λ (k : ℕ). a.node < k) c.count_at.ensures c.if-node-count_at.false) c.if-room-table.true)

pub returns : goal.returns
returns c =
    let a = c.args in
    ap by_row (long_enough (told_murm a.table) a.width a.node a.room (subst (λ (k : ℕ). a.node < k) c.count_at.ensures c.if-node-count_at.false) c.if-room-table.false)
