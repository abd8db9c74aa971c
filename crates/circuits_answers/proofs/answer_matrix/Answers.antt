-- `answer_matrix` meets its contract: the find, then the write of the node found. Assumes nothing.
use mathlib.Core.Path.{refl, ap}
use Rattle.std.specs.Prelude.{Ok, Err}
use Rattle.std.proofs.lemmas.Result.{err_from_is_err_and}
use Rattle.tables.specs.Tables.{query}
use Rattle.circuits_answers.specs.Told.{told_record, told_arrays}
use Rattle.circuits_answers.proofs.Replies.{node_written_lem, none_found, find_refused}
use Rattle.circuits_answers.proofs.answer_matrix.Goals as goal

pub returns-in_err-found : goal.returns-in_err-found
returns-in_err-found c =
    let s = c.args in
    let p = err_from_is_err_and c.from_residual.result c.from_residual.ensures.1 in
    rw (p.1, p.2)
    (find_refused (told_record s.table) (told_arrays s.table) (query s.width s.exponent s.matrix.now) s.list.now c.requires
    {r = Err c.in_err-found.field-0.0} c.in_err-found.ensures refl)

pub returns-in_default : goal.returns-in_default
returns-in_default c =
    let s = c.args in
    none_found (told_record s.table) (told_arrays s.table) (query s.width s.exponent s.matrix.now) s.list.now c.requires
    {r = Ok c.in_ok-found.found} c.in_ok-found.ensures (ap Ok c.in_default.is)

pub returns-in_err-size : goal.returns-in_err-size
returns-in_err-size c =
    let s = c.args in
    let p = err_from_is_err_and c.from_residual-in_err-size.result c.from_residual-in_err-size.ensures.1 in
    rw (p.1, p.2)
    (node_written_lem (told_record s.table) (told_arrays s.table) (query s.width s.exponent s.matrix.now) s.list.now c.requires
    {r = Ok c.in_ok-found.found} (Err c.in_err-size.field-0.0) c.in_ok-found.ensures (ap Ok c.in-Some.is) c.in_err-size.ensures)

pub returns : goal.returns
returns c =
    let s = c.args in
    node_written_lem (told_record s.table) (told_arrays s.table) (query s.width s.exponent s.matrix.now) s.list.now c.requires
    {r = Ok c.in_ok-found.found} (Ok c.in_ok-size.size) c.in_ok-found.ensures (ap Ok c.in-Some.is) c.in_ok-size.ensures
