-- `find_any` meets its contract: a width without entries has no node, and the answer of a width with entries is made
-- anew. Assumes nothing.
use Rattle.tables.specs.Tables.{matrix_of, limits_at, part_by}
use Rattle.width_answer.proofs.Widths.{empty_found}
use Rattle.murm_config.specs.Told.{told_config}
use Rattle.murm_query.specs.Entries.{told_query}
use Rattle.murm_part.specs.Told.{told_lent}
use Rattle.murm_find.proofs.find_any.Goals as goal

pub returns-then-count-eq0 : goal.returns-then-count-eq0
returns-then-count-eq0 c =
    let a = c.args in
    empty_found (limits_at (told_config a.config) a.query.width) (part_by (told_config a.config) a.count (told_lent a.lent) a.query.width)
    (matrix_of (told_query a.query)) _ c.if-count-eq0.true
