-- `fill_index` meets its contract: a refusal is that of the first row that holds, and else each part is filled. Assumes
-- nothing.
use mathlib.Core.List.{[]}
use Rattle.std.proofs.lemmas.Result.{err_from_is_err_and}
use Rattle.walk.specs.Index.{indexed}
use Rattle.tables.specs.Checks.{arrays_by}
use Rattle.tables.proofs.Accepted.{roomy}
use Rattle.tables.proofs.Asked.{good_look}
use Rattle.refusal.proofs.Numbers.{passed, refused}
use Rattle.murm_config.specs.Told.{told_murm}
use Rattle.murm_build.proofs.Builds.{refused_fill, passed_fill}
use Rattle.murm_build.proofs.fill_index.Goals as goal

pub fill_widths-requires-clause-record : goal.fill_widths-requires-clause-record
fill_widths-requires-clause-record c =
    let s = c.args in
    let t = told_murm s.table in
    let m = arrays_by indexed s.fingerprints.now s.parents.now s.codes.now s.index.now in
    (good_look t indexed m [] (passed c.in_ok-check_look.ensures)).0

pub fill_widths-requires-clause-room : goal.fill_widths-requires-clause-room
fill_widths-requires-clause-room c =
    let s = c.args in
    let t = told_murm s.table in
    let m = arrays_by indexed s.fingerprints.now s.parents.now s.codes.now s.index.now in
    (roomy t.limits m (good_look t indexed m [] (passed c.in_ok-check_look.ensures)).1).0

pub returns-in_err-check_look : goal.returns-in_err-check_look
returns-in_err-check_look c =
    let a = c.args in
    let p = err_from_is_err_and c.from_residual.result c.from_residual.ensures.1 in
    rw (p.1, p.2) (refused_fill (told_murm a.table) a.fingerprints.now a.parents.now a.codes.now a.index.now (refused c.in_err-check_look.ensures))

pub returns : goal.returns
returns c =
    let a = c.args in
    passed_fill (told_murm a.table) a.fingerprints.now a.parents.now a.codes.now a.index.now (passed c.in_ok-check_look.ensures) c.fill_widths.ensures.index
