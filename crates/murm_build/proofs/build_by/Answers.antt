-- `build_by` meets its contract: a refusal is that of the first row that holds, and else the arrays and the index are
-- filled. Assumes nothing.
use Rattle.std.proofs.lemmas.Result.{err_from_is_err_and}
use Rattle.tables.specs.Checks.{arrays_by}
use Rattle.tables.proofs.Accepted.{accepted, roomy}
use Rattle.tables.proofs.FromBuild.{build_passed}
use Rattle.refusal.proofs.Numbers.{passed, refused}
use Rattle.index.specs.Told.{told_by}
use Rattle.known.specs.Known.{told_mode}
use Rattle.murm_config.specs.Told.{told_config, told_murm}
use Rattle.murm_build.proofs.Builds.{refused_build, passed_build}
use Rattle.murm_build.proofs.build_by.Goals as goal

pub build_widths-table-requires-clause-bounds : goal.build_widths-table-requires-clause-bounds
build_widths-table-requires-clause-bounds c =
    let s = c.args in
    let l = told_config s.config in
    let m = arrays_by (told_by s.by) s.fingerprints.now s.parents.now s.codes.now s.index.now in
    let (e, r, p) = build_passed l m (passed c.in_ok-check_build.ensures) in
    let a = accepted l e in
    (a.some_width, a.widths, a.gates, a.some, a.entries)

pub build_widths-table-requires-clause-room : goal.build_widths-table-requires-clause-room
build_widths-table-requires-clause-room c =
    let s = c.args in
    let l = told_config s.config in
    let m = arrays_by (told_by s.by) s.fingerprints.now s.parents.now s.codes.now s.index.now in
    let (e, r, p) = build_passed l m (passed c.in_ok-check_build.ensures) in
    roomy l m r

pub build_widths-table-requires-clause-index : goal.build_widths-table-requires-clause-index
build_widths-table-requires-clause-index c =
    let s = c.args in
    let l = told_config s.config in
    let m = arrays_by (told_by s.by) s.fingerprints.now s.parents.now s.codes.now s.index.now in
    let (e, r, p) = build_passed l m (passed c.in_ok-check_build.ensures) in
    p

pub returns-in_err-check_build : goal.returns-in_err-check_build
returns-in_err-check_build c =
    let s = c.args in
    let m = arrays_by (told_by s.by) s.fingerprints.now s.parents.now s.codes.now s.index.now in
    let p = err_from_is_err_and c.from_residual.result c.from_residual.ensures.1 in
    rw (p.1, p.2) (refused_build (told_mode s.mode) (told_config s.config) m (refused c.in_err-check_build.ensures))

pub returns : goal.returns
returns c =
    let s = c.args in
    let m = arrays_by (told_by s.by) s.fingerprints.now s.parents.now s.codes.now s.index.now in
    let b = c.build_widths-table in
    let e = b.ensures in
    passed_build (told_mode s.mode) (told_config s.config) m (passed c.in_ok-check_build.ensures) (told_murm b.result)
    b.new.fingerprints b.new.parents b.new.codes b.new.index e.rows e.fingerprints e.parents e.codes e.index
