-- `check_find` meets its contract: the rows of the table and the index, then those of the query. Assumes nothing.
use native.Mathlib.Omega.{arith}
use Rattle.std.proofs.lemmas.Result.{err_from_is_err_and}
use Rattle.refusal.proofs.Numbers.{some}
use Rattle.tables.specs.Tables.{look_rows}
use Rattle.tables.proofs.Asked.{numbered_look}
use Rattle.index.specs.Told.{told_by}
use Rattle.murm_config.specs.Told.{told_murm}
use Rattle.murm_limits.proofs.Asking.{later_rows, first_refuses}
use Rattle.murm_find.proofs.check_find.Goals as goal

pub returns-in_err-check_look : goal.returns-in_err-check_look
returns-in_err-check_look c =
    let a = c.args in
    let p = err_from_is_err_and c.from_residual.result c.from_residual.ensures.1 in
    record {
      told = first_refuses (look_rows (told_murm a.table) (told_by a.by) a.prints a.parents a.codes a.places) _
          (numbered_look (told_murm a.table) (told_by a.by) a.prints a.parents a.codes a.places)
          _ _ c.from_residual.ensures.1 c.in_err-check_look.ensures;
      small = λ e. let none = rw p.1 at e in absurd (omega (arith, some p.0, none));
    }

pub returns : goal.returns
returns c =
    let a = c.args in
    record {
      told = later_rows (look_rows (told_murm a.table) (told_by a.by) a.prints a.parents a.codes a.places) _
          (numbered_look (told_murm a.table) (told_by a.by) a.prints a.parents a.codes a.places)
          c.in_ok-check_look.ensures c.check_query.ensures.told;
      small = c.check_query.ensures.small;
    }
