-- `check_look` meets its contract: the rows of the table, then row 17. Assumes nothing.
use mathlib.Core.Path.{◌≡◌, sym, ap}
use mathlib.Core.Bool.{false}
use native.Mathlib.Omega.{arith}
use Rattle.refusal.specs.Told.{by_row}
use Rattle.refusal.proofs.Numbers.{passed}
use Rattle.tables.specs.Tables.{record_row, table_rows}
use Rattle.tables.proofs.Rows.{first_none}
use Rattle.tables.proofs.Accepted.{record_limits}
use Rattle.index.specs.Told.{told_by}
use Rattle.murm_config.specs.Told.{told_murm}
use Rattle.murm_config.proofs.Asking.{numbered_table}
use Rattle.murm_limits.proofs.Asking.{later_rows, first_refuses, index_refuses, index_passes}
use Rattle.murm_config.proofs.check_look.Goals as goal

pub returns-in_err-check_table : goal.returns-in_err-check_table
returns-in_err-check_table c =
    let a = c.args in
    let t = told_murm a.table in
    first_refuses (table_rows t a.prints a.parents a.codes) _ (numbered_table t a.prints a.parents a.codes) _ _ c.from_residual.ensures.1 c.in_err-check_table.ensures

pub bad_index-requires : goal.bad_index-requires
bad_index-requires c =
    -- the record is not refused
    let recorded : (record_row (told_murm c.args.table)).holds ≡ false = (first_none _ _ (omega arith) (passed c.in_ok-check_table.ensures)).0 in
    let a = record_limits (told_murm c.args.table) recorded in
    (a.some_width, a.widths, a.entries, c.requires)

pub returns-then-bad_index : goal.returns-then-bad_index
returns-then-bad_index c =
    let a = c.args in
    let t = told_murm a.table in
    later_rows (table_rows t a.prints a.parents a.codes) _ (numbered_table t a.prints a.parents a.codes) c.in_ok-check_table.ensures
    (ap by_row (index_refuses t.limits (told_by a.by) a.places (sym c.if-bad_index.ensures)))

pub returns : goal.returns
returns c =
    let a = c.args in
    let t = told_murm a.table in
    later_rows (table_rows t a.prints a.parents a.codes) _ (numbered_table t a.prints a.parents a.codes) c.in_ok-check_table.ensures
    (ap by_row (index_passes t.limits (told_by a.by) a.places (sym c.if-bad_index.ensures)))
