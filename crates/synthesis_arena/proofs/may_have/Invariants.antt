-- `may_have` meets its contract: node by node, whether one that was passed has the fingerprint. Assumes nothing.
use mathlib.Core.Path.{◌≡◌}
use Prim.Native.Nat.{◌%◌}
use Rattle.walk.proofs.Lookups.{Passed}
use Rattle.synthesis_arena.proofs.may_have.Given as goal

abbrev pub invariant-loop-i : goal.invariant-loop-i
invariant-loop-i l = (l.half ≡ l.fingerprint % 4294967296) × Passed l.fingerprints l.from l.end l.fingerprint l.i l.found
