-- `unpruned` meets its contract: of the gates passed, those that are not pruned stand in the first places. Assumes
-- nothing.
use Rattle.skip_rules.specs.Skips.{pruned_at}
use Rattle.skip_rules.proofs.Sifting.{Sifted}
use Rattle.skip_rules.proofs.unpruned.Given as goal

abbrev pub invariant-loop-gate : goal.invariant-loop-gate
invariant-loop-gate l = Sifted (pruned_at l.codes l.node) (λ g. g) l.gates l.initial.kept l.kept l.size l.gate-index
