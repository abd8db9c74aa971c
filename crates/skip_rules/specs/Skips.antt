-- The two skip rules by an array of codes, and the gates that a test leaves: the contracts of `is_pruned` and
-- `unpruned`. Assumes nothing.
use Rattle.std.specs.Prelude.{◌≡◌, Bool, false, ◌||◌, ◌&&◌, List, [], ◌∷◌, ℕ, zero, suc, ◌≤◌, ltb, length, take, get_or}
use Rattle.ints.specs.Lists.{pick}
use Rattle.circuit.specs.Pairs.{inverse, disjoint}

-- the two skip rules (SPECIFICATION 6.5) by the code that the array has for the node; node 0 has no gate
abbrev pub pruned_at : List ℕ → ℕ → ℕ → Bool
pruned_at codes zero g = false
pruned_at codes (suc node) g =
    inverse g (get_or codes (suc node) 0) || (disjoint g (get_or codes (suc node) 0) && ltb g (get_or codes (suc node) 0))

-- the gates that a test does not skip, in order
abbrev pub unskipped : (ℕ → Bool) → List ℕ → List ℕ
unskipped skip [] = []
unskipped skip (g ∷ gs) = pick (skip g) (unskipped skip gs) (g ∷ unskipped skip gs)

-- the first places of 105 hold the gates that the two skip rules leave after the node, by the array of codes
pub record Unpruned (node : ℕ) (gs c kept : List ℕ) (size : ℕ) : Type 0 where
  pub is : take size kept ≡ unskipped (pruned_at c node) gs
  pub few : size ≤ length gs
  pub long : length kept ≡ 105
