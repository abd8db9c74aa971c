-- `check_build` meets its contract: each test that was passed decides its row. Assumes nothing.
use mathlib.Core.Path.{sym, ap}
use Rattle.refusal.specs.Told.{by_row}
use Rattle.refusal.proofs.Numbers.{passed}
use Rattle.tables.specs.Checks.{limit_rows}
use Rattle.tables.proofs.Accepted.{accepted}
use Rattle.tables.proofs.Rows.{numbered_limits}
use Rattle.index.specs.Told.{told_by}
use Rattle.murm_limits.specs.Told.{told_config}
use Rattle.murm_limits.proofs.Asking.{later_rows, first_refuses, arrays_short, arrays_long, index_refuses, index_passes}
use Rattle.murm_limits.proofs.check_build.Goals as goal

pub returns-in_err-limits : goal.returns-in_err-limits
returns-in_err-limits c =
    let l = told_config c.args.config in
    first_refuses (limit_rows l) _ (numbered_limits l) _ _ c.from_residual.ensures.1 c.in_err-limits.ensures

pub too_short-requires : goal.too_short-requires
too_short-requires c = let a = accepted (told_config c.args.config) (passed c.in_ok-limits.ensures) in (a.widths, a.entries)

pub returns-then-too_short : goal.returns-then-too_short
returns-then-too_short c =
    let a = c.args in
    let l = told_config a.config in
    later_rows (limit_rows l) _ (numbered_limits l) c.in_ok-limits.ensures
    (ap by_row (arrays_short l (told_by a.by) a.prints a.parents a.codes a.places (sym c.if-too_short.ensures)))

pub bad_index-requires : goal.bad_index-requires
bad_index-requires c = let a = accepted (told_config c.args.config) (passed c.in_ok-limits.ensures) in (a.some_width, a.widths, a.entries, c.requires)

pub returns-then-bad_index : goal.returns-then-bad_index
returns-then-bad_index c =
    let a = c.args in
    let l = told_config a.config in
    later_rows (limit_rows l) _ (numbered_limits l) c.in_ok-limits.ensures
    (ap by_row (arrays_long l (told_by a.by) a.prints a.parents a.codes a.places (sym c.if-too_short.ensures)
    (index_refuses l (told_by a.by) a.places (sym c.if-bad_index.ensures))))

pub returns : goal.returns
returns c =
    let a = c.args in
    let l = told_config a.config in
    later_rows (limit_rows l) _ (numbered_limits l) c.in_ok-limits.ensures
    (ap by_row (arrays_long l (told_by a.by) a.prints a.parents a.codes a.places (sym c.if-too_short.ensures)
    (index_passes l (told_by a.by) a.places (sym c.if-bad_index.ensures))))
