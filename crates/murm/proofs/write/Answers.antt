-- `write` meets its contract: each test that was passed decides its row. Assumes nothing.
use mathlib.Core.Path.{◌∙◌}
use Rattle.std.proofs.lemmas.Result.{err_from_is_err_and}
use Rattle.refusal.proofs.Numbers.{passed, refused}
use Rattle.tables.specs.Checks.{arrays}
use Rattle.murm_config.specs.Told.{told_murm}
use Rattle.murm.proofs.Asked.{writable, node_written_lem, refused_write}
use Rattle.murm.proofs.write.Goals as goal

pub write_part-requires : goal.write_part-requires
write_part-requires c =
    let s = c.args in
    writable (told_murm s.table) (arrays s.fingerprints.now s.parents.now s.codes.now) s.width s.node s.out.now (passed c.in_ok-check_write.ensures)

pub returns : goal.returns
returns c =
    let s = c.args in
    c.write_part.ensures
    ∙ node_written_lem (told_murm s.table) (arrays s.fingerprints.now s.parents.now s.codes.now) s.width s.node s.out.now (passed c.in_ok-check_write.ensures)

pub returns-in_err-check_write : goal.returns-in_err-check_write
returns-in_err-check_write c =
    let s = c.args in
    let p = err_from_is_err_and c.from_residual.result c.from_residual.ensures.1 in
    rw (p.1, p.2) (refused_write (told_murm s.table) (arrays s.fingerprints.now s.parents.now s.codes.now) s.width s.node s.out.now (refused c.in_err-check_write.ensures))
