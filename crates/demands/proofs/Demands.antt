-- The demands hold of what the public entries answer. Assumes nothing.
use Rattle.cyclotomic.proofs.Turns.{turns_add}
use Rattle.exact.proofs.Papers.{paper_value}
use Rattle.exact.proofs.Listed.{product_lowest}
use Rattle.walk.proofs.Meaning.{write_means}
use Rattle.walk.proofs.Indexed.{indexing}
use Rattle.walk.proofs.Fitting.{fitting}
use Rattle.tables.proofs.Demand2.{demand_2}
use Rattle.tables.proofs.Demand3.{demand}
use Rattle.tables.proofs.AnswerRule.{answer_rule}
use Rattle.tables.proofs.EitherLookup.{either_lookup}
use Rattle.tables.proofs.Exactly.{exactly}
use Rattle.murm_query.proofs.Fingerprints.{fingerprint_exactly}
use Rattle.demands.specs.Demands.{Demands}

pub demands : Demands
demands = record {
  refusals = exactly;
  fingerprints = fingerprint_exactly;
  turns = turns_add;
  products = record { value = paper_value; lowest = product_lowest };
  second = λ n codes numbers. demand_2 n codes numbers;
  third = demand;
  either = either_lookup;
  begins = indexing.begins;
  onward = indexing.onward;
  probes = indexing.probe;
  answers = answer_rule;
  writes = write_means;
  fitting = fitting;
}
