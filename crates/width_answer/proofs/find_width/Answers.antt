-- `find_width` meets its contract: the search is by the matrix's own fingerprint, from the first node that has it on.
use Rattle.exact.specs.Places.{held}
use Rattle.synthesis_arena.specs.Limits.{told_limits}
use Rattle.index.specs.Told.{told_part}
use Rattle.width_answer.proofs.Widths.{search_miss, own_print}
use Rattle.width_answer.proofs.find_width.Goals as goal

pub returns-in_default : goal.returns-in_default
returns-in_default c =
    let a = c.args in
    own_print (told_limits a.limits) (told_part a.part) (held a.limits.width a.exponent a.query.now)
    c.unitary_fingerprint-print.ensures (search_miss _ _ _ _ c.look_up.ensures.looked_up c.in_default.is _)

pub returns : goal.returns
returns c =
    let a = c.args in
    own_print (told_limits a.limits) (told_part a.part) (held a.limits.width a.exponent a.query.now)
    c.unitary_fingerprint-print.ensures c.find_at.ensures.found
