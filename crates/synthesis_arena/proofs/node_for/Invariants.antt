-- `node_for` meets its contract: the look-up from the node reached is the look-up from the start. Assumes nothing.
use mathlib.Core.Path.{◌≡◌}
use Rattle.walk.specs.Lookup.{lowest_from}
use Rattle.synthesis_arena.proofs.node_for.Given as goal

abbrev pub invariant-loop-i : goal.invariant-loop-i
invariant-loop-i l = lowest_from l.fingerprints l.count l.i l.fingerprint ≡ lowest_from l.fingerprints l.count l.fn.from l.fingerprint
