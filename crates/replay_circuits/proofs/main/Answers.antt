-- `main` lends its array whole. The law's arguments are written out: otherwise antt would make the list. Assumes
-- nothing.
use mathlib.Core.Path.{sym}
use Prim.Native.Nat.{ℕ}
use lib.ListN.{length-replicate}
use Rattle.replay_circuits.proofs.main.Goals as goal

pub slice_bounds-with_input-end : goal.slice_bounds-with_input-end
slice_bounds-with_input-end c = sym (length-replicate {0} {A = ℕ} 1048577 0)
