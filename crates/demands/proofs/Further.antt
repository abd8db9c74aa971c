-- What is proved beside the demands. Assumes nothing.
use Rattle.walk.proofs.Meaning.{find_rule}
use Rattle.walk.proofs.Indexed.{indexing}
use Rattle.tables.proofs.Indexes.{part_sizes}
use Rattle.tables.proofs.AnswerRule.{first_node}
use Rattle.tables.proofs.FindWrite.{find_write}
use Rattle.tables.proofs.Demand3.{beside}
use Rattle.demands.specs.Further.{Further}

pub further : Further
further = record { find_write = find_write; rule = find_rule; first = first_node; index = indexing; parts = part_sizes; beside = beside }
