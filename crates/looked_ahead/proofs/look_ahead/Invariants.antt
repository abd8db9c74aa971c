-- `look_ahead` meets its contract: before each round the first places hold what was looked up for the fingerprints
-- passed. Assumes nothing.
use mathlib.Core.Path.{◌≡◌}
use lib.ListN.{length, take}
use Rattle.index.specs.Told.{told_by}
use Rattle.looked_ahead.specs.Ahead.{ahead_of}
use Rattle.looked_ahead.proofs.look_ahead.Given as goal

abbrev pub invariant-loop-j : goal.invariant-loop-j
invariant-loop-j l = (take l.j l.nodes ≡ ahead_of (told_by l.part.by) l.part.index.now l.part.fingerprints.now l.part.count (take l.j l.prints)) × (length l.nodes ≡ 105)
