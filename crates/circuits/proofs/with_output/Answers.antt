-- `with_output` lends its array whole. The law's arguments are written out: otherwise antt would make the list. Assumes
-- nothing.
use mathlib.Core.Path.{◌≡◌, sym}
use Prim.Native.Nat.{ℕ, ◌≤◌}
use native.Mathlib.Omega.{arith}
use lib.ListN.{length, replicate, length-replicate}
use Rattle.circuits_built.specs.Built.{room_for}
use Rattle.circuits_output.proofs.Whole.{room_is}
use Rattle.circuits.proofs.with_output.Goals as goal

reaches : {m n : ℕ} → m ≡ n → room_for 2048 ≡ m → room_for 2048 ≤ n
reaches e r = omega (arith, e, r)

at_most : (n : ℕ) → n ≤ length (replicate {A = ℕ} n 0)
at_most n = omega (arith, length-replicate {0} {A = ℕ} n 0)

pub slice_bounds-write_answer-end : goal.slice_bounds-write_answer-end
slice_bounds-write_answer-end g c = sym (length-replicate {0} {A = ℕ} 3133584 0)

pub write_answer-requires : goal.write_answer-requires
write_answer-requires g c = reaches (sym (length-replicate {0} {A = ℕ} 3133584 0)) room_is
