-- `check_table` meets its contract: each test that was passed decides its row. Assumes nothing.
use mathlib.Core.Path.{sym, ap, ◌∙◌}
use Rattle.refusal.specs.Told.{by_row}
use Rattle.tables.proofs.Accepted.{record_limits}
use Rattle.murm_config.specs.Told.{told_murm}
use Rattle.murm_config.proofs.Asking.{bad, short, asked}
use Rattle.murm_config.proofs.check_table.Goals as goal

pub returns-then-bad_record : goal.returns-then-bad_record
returns-then-bad_record c = let a = c.args in ap by_row (bad (told_murm a.table) a.prints a.parents a.codes (sym c.bad_record.ensures ∙ c.if-bad_record.true))

pub too_short-requires : goal.too_short-requires
too_short-requires c = let l = record_limits (told_murm c.args.table) (sym c.bad_record.ensures ∙ c.if-bad_record.false) in (l.widths, l.entries)

pub returns-then-too_short : goal.returns-then-too_short
returns-then-too_short c =
    let a = c.args in
    ap by_row (short (told_murm a.table) a.prints a.parents a.codes (sym c.bad_record.ensures ∙ c.if-bad_record.false) (sym c.too_short.ensures ∙ c.if-too_short.true))

pub returns : goal.returns
returns c =
    let a = c.args in
    ap by_row (asked (told_murm a.table) a.prints a.parents a.codes (sym c.bad_record.ensures ∙ c.if-bad_record.false) (sym c.too_short.ensures ∙ c.if-too_short.false))
