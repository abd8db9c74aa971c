-- `pair_fingerprints` meets its contract: before each round the words of the entries passed are mixed into each
-- matrix's own streams. Assumes nothing.
use mathlib.Core.Path.{◌≡◌}
use Rattle.cyclotomic.specs.Zomega.{turn}
use Rattle.exact.specs.Fingerprint.{mix_all, words_of}
use Rattle.exact.specs.Places.{entry}
use Rattle.prints.specs.Prints.{streams}
use Rattle.pair_prints.proofs.pair_fingerprints.Given as goal

abbrev pub invariant-loop-e : goal.invariant-loop-e
invariant-loop-e l =
    (streams l.s ≡ mix_all (streams l.initial.s) (words_of l.e (λ i. turn l.p (entry l.left i))))
    × (streams l.t ≡ mix_all (streams l.initial.t) (words_of l.e (λ i. turn l.q (entry l.right i))))
