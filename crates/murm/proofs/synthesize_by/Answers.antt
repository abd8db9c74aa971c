-- `synthesize_by` meets its contract: each test that was passed decides its row. Assumes nothing.
use mathlib.Core.Path.{◌∙◌}
use Rattle.std.proofs.lemmas.Result.{err_from_is_err_and}
use Rattle.refusal.proofs.Numbers.{passed, refused}
use Rattle.tables.specs.Checks.{arrays_by}
use Rattle.tables.specs.Tables.{query}
use Rattle.index.specs.Told.{told_by}
use Rattle.murm_config.specs.Told.{told_murm}
use Rattle.tables.proofs.Asked.{asked_is}
use Rattle.murm_find.proofs.Answered.{may_search}
use Rattle.murm.proofs.Asked.{refused_answer}
use Rattle.murm.proofs.synthesize_by.Goals as goal

pub ask-requires-clause-table_value : goal.ask-requires-clause-table_value
ask-requires-clause-table_value c =
    let s = c.args in
    let t = told_murm s.table in
    let m = arrays_by (told_by s.by) s.fingerprints.now s.parents.now s.codes.now s.index.now in
    let q = query s.width s.exponent s.matrix.now in
    (may_search t m q c.in_ok-check_lent.ensures).0

pub ask-requires-clause-codes_value : goal.ask-requires-clause-codes_value
ask-requires-clause-codes_value c =
    let s = c.args in
    let t = told_murm s.table in
    let m = arrays_by (told_by s.by) s.fingerprints.now s.parents.now s.codes.now s.index.now in
    let q = query s.width s.exponent s.matrix.now in
    (may_search t m q c.in_ok-check_lent.ensures).1.0

pub ask-requires-clause-matrix_value : goal.ask-requires-clause-matrix_value
ask-requires-clause-matrix_value c =
    let s = c.args in
    let t = told_murm s.table in
    let m = arrays_by (told_by s.by) s.fingerprints.now s.parents.now s.codes.now s.index.now in
    let q = query s.width s.exponent s.matrix.now in
    (may_search t m q c.in_ok-check_lent.ensures).1.1

pub returns-in_err-check_lent : goal.returns-in_err-check_lent
returns-in_err-check_lent c =
    let s = c.args in
    let m = arrays_by (told_by s.by) s.fingerprints.now s.parents.now s.codes.now s.index.now in
    let p = err_from_is_err_and c.from_residual.result c.from_residual.ensures.1 in
    rw (p.1, p.2) (refused_answer (told_murm s.table) m (query s.width s.exponent s.matrix.now) s.out.now (refused c.in_err-check_lent.ensures.told))

pub returns : goal.returns
returns c =
    let s = c.args in
    let m = arrays_by (told_by s.by) s.fingerprints.now s.parents.now s.codes.now s.index.now in
    c.ask.ensures ∙ asked_is (told_murm s.table) m (query s.width s.exponent s.matrix.now) s.out.now (passed c.in_ok-check_lent.ensures.told)
