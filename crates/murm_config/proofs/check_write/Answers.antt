-- `check_write` meets its contract: the rows of the table, then those of the node. Assumes nothing.
use Rattle.tables.specs.Tables.{table_rows}
use Rattle.murm_config.specs.Told.{told_murm}
use Rattle.murm_config.proofs.Asking.{numbered_table}
use Rattle.murm_limits.proofs.Asking.{later_rows, first_refuses}
use Rattle.murm_config.proofs.check_write.Goals as goal

pub returns-in_err-check_table : goal.returns-in_err-check_table
returns-in_err-check_table c =
    let a = c.args in
    let t = told_murm a.table in
    first_refuses (table_rows t a.prints a.parents a.codes) _ (numbered_table t a.prints a.parents a.codes) _ _ c.from_residual.ensures.1 c.in_err-check_table.ensures

pub returns : goal.returns
returns c =
    let a = c.args in
    let t = told_murm a.table in
    later_rows (table_rows t a.prints a.parents a.codes) _ (numbered_table t a.prints a.parents a.codes) c.in_ok-check_table.ensures c.check_node.ensures
