-- `with_runs` lends its array whole. The law's arguments are written out: otherwise antt would make the list. Assumes
-- nothing.
use mathlib.Core.Path.{sym}
use Prim.Native.Nat.{ℕ}
use lib.ListN.{length-replicate}
use Rattle.replay_circuits.proofs.with_runs.Goals as goal

pub slice_bounds-with_output-end : goal.slice_bounds-with_output-end
slice_bounds-with_output-end g c = sym (length-replicate {0} {A = ℕ} 3200000 0)
