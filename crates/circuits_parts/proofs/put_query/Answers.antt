-- `put_query` meets its contract. Assumes nothing.
use Rattle.circuits_input.specs.Input.{ended}
use Rattle.circuits_answers.specs.Told.{told_record, told_arrays}
use Rattle.circuits_parts.proofs.Replies.{query_as}
use Rattle.circuits_parts.proofs.put_query.Goals as goal

pub returns-clause-text : goal.returns-clause-text
returns-clause-text c =
    let s = c.args in
    let a = c.answer_line-answer in
    query_as (told_record s.table) (told_arrays s.table) (ended s.line.now) a.result _ _ c.list_space-list.ensures a.ensures c.put_reply.ensures.text
