-- Which gates are left because their step fits, and the fingerprints of their candidates: the contracts of `put_formed`
-- and `fitting`. Assumes nothing.
use Rattle.std.specs.Prelude.{◌≡◌, Bool, true, not, List, map, ℕ, ◌+◌, ◌≤◌, ◌<◌, length, take, get_or, set, Option, Some, None}
use Rattle.circuit.specs.Codes.{valid}
use Rattle.exact.specs.Matrix.{Exact}
use Rattle.exact.specs.Rows.{act, gate_of}
use Rattle.exact.specs.Fits.{step_fits}
use Rattle.exact.specs.Fingerprint.{fingerprint}
use Rattle.skip_rules.specs.Skips.{unskipped}

-- the step by the gate g after the matrix x does not fit
abbrev pub unfit : ℕ → Exact → ℕ → Bool
unfit n x g = not (step_fits n (gate_of n g) x)

-- the fingerprint of the matrix x after the gate g
abbrev pub candidate_print : ℕ → Exact → ℕ → ℕ
candidate_print n x g = fingerprint n (act n (gate_of n g) x)

-- the first places of two arrays of 105 hold the gates of gs that a test does not skip, and what y says of each
pub record LeftOf (skip : ℕ → Bool) (y : ℕ → ℕ) (gs kept prints : List ℕ) (size : ℕ) : Type 0 where
  pub gates_are : take size kept ≡ unskipped skip gs
  pub prints_are : take size prints ≡ map y (unskipped skip gs)
  pub few : size ≤ length gs
  pub long_gates : length kept ≡ 105
  pub long_prints : length prints ≡ 105

-- two arrays of 105 places, of which the first are in use
pub record Room105 (size : ℕ) (kept prints : List ℕ) : Type 0 where
  pub few : size ≤ 105
  pub long_gates : length kept ≡ 105
  pub long_prints : length prints ≡ 105

-- the codes in the first places are valid
pub record ValidTo (n : ℕ) (kept : List ℕ) (size : ℕ) : Type 0 where
  pub at : (j : ℕ) → j < size → valid n (get_or kept j 0) ≡ true

-- a candidate that fits is put at a place
abbrev pub placed_count : Option (ℕ × ℕ) → ℕ → ℕ
placed_count (Some (y, k)) at = at + 1
placed_count None at = at

abbrev pub placed_gate : Option (ℕ × ℕ) → ℕ → List ℕ → ℕ → List ℕ
placed_gate (Some (y, k)) g kept at = set kept at g
placed_gate None g kept at = kept

abbrev pub placed_print : Option (ℕ × ℕ) → List ℕ → ℕ → List ℕ
placed_print (Some (y, k)) prints at = set prints at y
placed_print None prints at = prints
