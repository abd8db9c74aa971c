-- `find_part` meets its contract: the part's bounds hold. Assumes nothing.
use Rattle.murm_query.proofs.Rows.{allowed_size}
use Rattle.murm_part.proofs.find_part.Goals as goal

pub find_from-requires-clause-asked_places : goal.find_from-requires-clause-asked_places
find_from-requires-clause-asked_places c = let q = c.requires.matrix_value in ((allowed_size c.args.query.width c.args.query.exponent c.args.query.matrix.now q.0.0).1, q.0.1)
