-- `find_passed` meets its contract: what is found with the count that the table has. Assumes nothing.
use Rattle.murm_config.specs.Told.{told_murm}
use Rattle.murm_part.proofs.Parts.{record_counted}
use Rattle.murm.proofs.find_passed.Goals as goal

pub find_any-requires-clause-counted : goal.find_any-requires-clause-counted
find_any-requires-clause-counted c = record_counted (told_murm c.args.table) c.args.query.width c.requires.table_value c.count_at-count.ensures
