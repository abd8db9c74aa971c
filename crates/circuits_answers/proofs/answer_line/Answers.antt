-- `answer_line` meets its contract: what the line asks decides. Assumes nothing.
use mathlib.Core.Path.{◌∙◌}
use Rattle.std.specs.Prelude.{Ok, Err}
use Rattle.std.proofs.lemmas.Result.{err_from_is_err_and}
use Rattle.circuits_answers.specs.Told.{told_record, told_arrays}
use Rattle.circuits_input.specs.Input.{ended}
use Rattle.circuits_answers.proofs.Replies.{line_reply_lem}
use Rattle.circuits_answers.proofs.answer_line.Goals as goal

pub returns-in_err-width : goal.returns-in_err-width
returns-in_err-width c =
    let s = c.args in
    let p = err_from_is_err_and c.from_residual.result c.from_residual.ensures.1 in
    rw (p.1, p.2)
    (line_reply_lem (told_record s.table) (told_arrays s.table) s.list.now (ended s.line.now) c.read_query.new.numbers
    (Err c.in_err-width.field-0.0) c.in_err-width.ensures.is)

pub returns : goal.returns
returns c =
    let s = c.args in
    c.answer_list.ensures
    ∙ line_reply_lem (told_record s.table) (told_arrays s.table) s.list.now (ended s.line.now) c.read_query.new.numbers
    (Ok (c.in_ok-width.width, c.in_ok-width.end)) c.in_ok-width.ensures.is
