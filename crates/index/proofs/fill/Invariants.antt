-- `fill` meets its contract: after i turns the nodes below i are in the part. Assumes nothing.
use mathlib.Core.Path.{◌≡◌}
use lib.ListN.{length}
use Rattle.walk.specs.Index.{filled}
use Rattle.index.proofs.fill.Given as goal

abbrev pub invariant-loop-i : goal.invariant-loop-i
invariant-loop-i l = l.index ≡ filled l.fingerprints (length l.initial.index) l.i
