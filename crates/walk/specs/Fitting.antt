-- What fits in lists of a basis, and why: the squares of the coefficients of each row sum to 2^k (SPECIFICATION 8.18).
-- Lists are oldest gate first. Assumes nothing.
use Rattle.std.specs.Prelude.{◌≡◌, true, List, reverse, ℕ, suc, ◌*◌, ◌^◌, ◌≤◌, ◌<◌, length}
use Rattle.coefficients.specs.Coefficients.{limit}
use Rattle.circuit.specs.Codes.{valid_for}
use Rattle.exact.specs.Rows.{raw, gate_of}
use Rattle.exact.specs.Lists.{product}
use Rattle.exact.specs.Fits.{fitting_gates, step_fits, all_fit, steps}
use Rattle.exact.specs.Unitary.{RowLaw}
use Rattle.walk.specs.Walk.{list_at}
use Rattle.walk.specs.Modes.{Mode}
use Rattle.walk.specs.AtWidth.{built, ListOf}

pub record Fitting : Type 0 where
  -- the row law, of the product of every list
  pub rows : (n : ℕ) (l : List ℕ) → RowLaw n (product n l)
  -- and of what one gate more makes of it before lowering. Of a gate of a basis, which is one row operation, that is
  -- the raw step
  pub rows_raw : (n g : ℕ) (l : List ℕ) → RowLaw n (raw (gate_of n g) (product n l))
  -- which may be 32767² and not 32768²: 29 is the most for which 2^k stays below
  pub bound : (2 ^ fitting_gates < suc limit * suc limit) × (suc limit * suc limit ≤ 2 ^ suc fitting_gates)
  -- so a list of a basis fits at every step up to 29 gates
  pub lists : (n basis : ℕ) (l : List ℕ) → ListOf n basis l → length l ≤ fitting_gates → steps n l ≡ all_fit
  -- and with gate limit up to 29 no candidate of a build fails to fit: a gate of the basis behind the list of a node
  -- that is shorter than the limit
  pub candidates : (mode : Mode) (n basis G E : ℕ) → n ≤ 5 → G ≤ fitting_gates → (k g : ℕ) → k < length (built mode n basis G E).nodes
      → length (list_at (built mode n basis G E).nodes k) < G → valid_for n basis g ≡ true
      → step_fits n (gate_of n g) (product n (reverse (list_at (built mode n basis G E).nodes k))) ≡ true
