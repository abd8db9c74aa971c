-- `mix_entries` meets its contract: before each turn the words of the entries passed are mixed in.
use Rattle.std.proofs.Common.{◌≡◌}
use Rattle.cyclotomic.specs.Zomega.{turn}
use Rattle.exact.specs.Fingerprint.{mix_all, words_of}
use Rattle.exact.specs.Places.{entry}
use Rattle.prints.specs.Prints.{streams}
use Rattle.prints.proofs.mix_entries.Given as goal

abbrev pub invariant-loop-e : goal.invariant-loop-e
invariant-loop-e l = streams l.t ≡ mix_all (streams l.initial.t) (words_of l.e (λ i. turn l.power (entry l.m i)))
