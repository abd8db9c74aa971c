-- `replay_all` ends: the place rises. Assumes nothing.
use Rattle.std.proofs.Common.{◌-◌, length}
use Rattle.replay_circuits.proofs.replay_all.Given as goal

abbrev pub decreases-loop-at : goal.decreases-loop-at
decreases-loop-at g l = length l.runs - l.at
