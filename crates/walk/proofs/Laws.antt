-- The laws asked of what the walk is handed, and the words of demand 3 over it. Lists are newest gate first. Assumes
-- nothing.
use mathlib.Core.Path.{◌≡◌}
use mathlib.Core.Bool.{Bool, true}
use mathlib.Core.List.{List, [], ◌∷◌, Memᴰ}
use Prim.Native.Nat.{ℕ, ◌≤◌, ◌<◌}
use lib.ListN.{length}
use Rattle.exact.specs.Matrix.{Exact}
use Rattle.exact.specs.Rows.{act, gate_of}
use Rattle.exact.specs.Fits.{step_fits}
use Rattle.walk.specs.Walk.{Rules, Node, any, list_at, prod, pruned, knows, candidate}

-- Same: the one is a power of omega times the other. Lowest: the matrix is in lowest denominator, as every product and
-- every query is.
-- A node that is the same as a candidate makes it known, and one that is the same as a query answers it; what counts as
-- known by a node counts so for all that is the same; and a node that answers a query makes known whatever is the same
-- as the query.
pub record Laws (R : Rules) (Same : R.Mat → R.Mat → Type 0) : Type 1 where
  pub Lowest : R.Mat → Type 0
  pub one_lowest : Lowest R.one
  pub act_lowest : (g : ℕ) (x : R.Mat) → Lowest (R.act g x)
  pub same_refl : (x : R.Mat) → Same x x
  pub same_sym : {x y : R.Mat} → Same x y → Same y x
  pub same_trans : {x y z : R.Mat} → Same x y → Same y z → Same x z
  pub act_same : (g : ℕ) {x y : R.Mat} → Same x y → Same (R.act g x) (R.act g y)
  pub inverse_undoes : (g h : ℕ) (x : R.Mat) → R.inverse g h ≡ true → Same (R.act g (R.act h x)) x
  pub disjoint_swaps : (g h : ℕ) (x : R.Mat) → R.disjoint g h ≡ true → Same (R.act g (R.act h x)) (R.act h (R.act g x))
  pub same_known : {x y : R.Mat} → Lowest x → Lowest y → Same x y → R.known x y ≡ true
  pub known_then : {x y z : R.Mat} → Lowest x → Lowest y → Lowest z → R.known x y ≡ true → Same y z → R.known x z ≡ true
  pub same_answers : {x y : R.Mat} → Lowest x → Lowest y → Same x y → R.answers x y ≡ true
  pub answers_known : {x y z : R.Mat} → Lowest x → Lowest y → Lowest z → R.answers x z ≡ true → Same y z → R.known x y ≡ true
  pub equal_same : (x y : R.Mat) → R.equal x y ≡ true → Same x y
  pub same_equal : {x y : R.Mat} → Lowest x → Lowest y → Same x y → R.equal x y ≡ true
  pub bound : ℕ
  pub below : (g : ℕ) → Memᴰ g R.generators → g < bound

module _ (R : Rules) where
  -- a list of the basis at the width: every gate is a generator
  abbrev pub Over : List ℕ → Type 0
  Over [] = Unit {0}
  Over (g ∷ l) = Memᴰ g R.generators × Over l

  -- within G gates every step fits
  abbrev pub AllFit : ℕ → Type 0
  AllFit G = (g : ℕ) (l : List ℕ) → Memᴰ g R.generators → Over l → length l < G → R.fits g (prod R l) ≡ true

  module _ (Same : R.Mat → R.Mat → Type 0) where
    -- no clash: a list makes another known only where their products are the same, among lists of the basis within G
    -- gates (SPECIFICATION 8.14)
    abbrev pub NoClash : ℕ → Type 0
    NoClash G =
        (l m : List ℕ) → Over l → Over m → length l ≤ G → length m ≤ G → R.known (prod R l) (prod R m) ≡ true → Same (prod R l) (prod R m)

    -- some node, no deeper than the list is long, has its product up to a power of omega
    abbrev pub Has : List Node → List ℕ → Type 0
    Has ns l = (k : ℕ) × (k < length ns) × (length (list_at ns k) ≤ length l) × Same (prod R (list_at ns k)) (prod R l)

    -- every list of the basis of at most d gates has such a node
    abbrev pub HasAll : ℕ → List Node → Type 0
    HasAll d ns = (l : List ℕ) → Over l → length l ≤ d → Has ns l

-- ---- the walk at a width

-- a gate by its code
abbrev pub act_by : ℕ → ℕ → Exact → Exact
act_by n g x = act n (gate_of n g) x

abbrev pub fits_by : ℕ → ℕ → Exact → Bool
fits_by n g x = step_fits n (gate_of n g) x
