-- `answer_list` meets its contract: the answer to the list decides. Assumes nothing.
use mathlib.Core.List.{List}
use mathlib.Core.Path.{◌≡◌, sym, ap, ◌∙◌}
use lib.IntN.{ℤ}
use lib.ListN.{length}
use lib.Seq.{take_at}
use Rattle.std.specs.Prelude.{Ok, Err}
use Rattle.std.proofs.lemmas.Result.{err_from_is_err_and}
use Rattle.tables.specs.Tables.{query, synthesized}
use Rattle.circuits_answers.specs.Told.{told_record, told_arrays}
use Rattle.circuits_answers.proofs.Replies.{lent_part, lent_length, list_reply_lem}
use Rattle.circuits_answers.proofs.answer_list.Goals as goal

pub returns-in_err-k : goal.returns-in_err-k
returns-in_err-k c =
    let s = c.args in
    let n = c.coefficient_count-n in
    let p = err_from_is_err_and c.from_residual.result c.from_residual.ensures.1 in
    rw (p.1, p.2)
    (list_reply_lem (told_record s.table) (told_arrays s.table) s.list.now s.width s.gates.now (Err c.in_err-k.field-0.0)
    (lent_part n.ensures.most c.coefficient_space-space.ensures s.width n.ensures.count) c.in_err-k.ensures)

pub returns : goal.returns
returns c =
    let s = c.args in
    let t = told_record s.table in
    let m = told_arrays s.table in
    let n = c.coefficient_count-n in
    let all = c.coefficient_space-space.ensures in
    let count : length c.library_circuit_matrix.new.out ≡ n.result = c.library_circuit_matrix.auto.out ∙ sym (lent_length n.ensures.most all) in
    c.answer_matrix.ensures
    ∙ (ap (λ (xs : List ℤ). synthesized t m (query s.width c.in_ok-k.k xs) s.list.now) (take_at c.library_circuit_matrix.new.out _ _ count)
    ∙ list_reply_lem t m s.list.now s.width s.gates.now (Ok c.in_ok-k.k) (lent_part n.ensures.most all s.width n.ensures.count) c.in_ok-k.ensures)
