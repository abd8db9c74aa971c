-- `library_fingerprint` meets its contract: a refusal is the check's, and else the fingerprint is the matrix's.
use mathlib.Core.Path.{refl, sym, ap, ◌∙◌}
use Rattle.std.proofs.lemmas.Result.{err_from_is_err_and}
use Rattle.exact.specs.Answers.{given}
use Rattle.refusal.proofs.Numbers.{passed, refused}
use Rattle.murm_query.proofs.Rows.{allowed_size}
use Rattle.murm_query.proofs.Fingerprints.{printed, not_printed}
use Rattle.murm_query.proofs.library_fingerprint.Goals as goal

pub returns-in_err-check_query : goal.returns-in_err-check_query
returns-in_err-check_query c =
    let s = c.args in
    let p = err_from_is_err_and c.from_residual.result c.from_residual.ensures.1 in
    rw (p.1, p.2) (not_printed s.width s.exponent s.entries.now (refused c.in_err-check_query.ensures.told))

pub unitary_fingerprint-requires : goal.unitary_fingerprint-requires
unitary_fingerprint-requires c =
    let q = c.in_ok-check_query.ensures in
    let w = allowed_size c.args.width c.args.exponent c.args.entries.now (passed q.told) in
    record { n_bound = w.0; n_in_bounds = w.1; all_small = q.small refl }

pub returns : goal.returns
returns c =
    let s = c.args in
    ap given c.unitary_fingerprint.ensures ∙ printed s.width s.exponent s.entries.now (sym (passed c.in_ok-check_query.ensures.told))
