-- Hypothesis K, from which completeness follows too: what the walk skipped as known is present up to a power of omega.
-- It follows from there being no clash, holds by itself where clashing nodes are kept, and speaks of the nodes at hand
-- alone (SPECIFICATION 8.14, 8.17). Lists are newest gate first. Assumes nothing.
use Rattle.std.specs.Prelude.{◌≡◌, true, false, ℕ, ◌<◌, length}
use mathlib.Core.List.{List, Memᴰ}
use Rattle.exact.specs.Matrix.{PowerOf}
use Rattle.walk.specs.Walk.{Rules, Node, any, list_at, prod, pruned, knows, candidate}
use Rattle.walk.specs.Modes.{Mode}
use Rattle.walk.specs.AtWidth.{at_width, built}

module _ (R : Rules) (Same : R.Mat → R.Mat → Type 0) where
  -- some node has the matrix up to a power of omega
  abbrev pub Present : List Node → R.Mat → Type 0
  Present ns x = (k : ℕ) × (k < length ns) × Same (prod R (list_at ns k)) x

  -- Hypothesis K, of the nodes at hand: a candidate within d gates that fits and is skipped as known has a product that
  -- is a power of omega times the product of some node present. (One that was appended is such a node itself.)
  abbrev pub KnownIsPresent : ℕ → List Node → Type 0
  KnownIsPresent d ns =
      (k g : ℕ) → k < length ns → Memᴰ g R.generators → length (list_at ns k) < d → pruned R g (list_at ns k) ≡ false
      → R.fits g (prod R (list_at ns k)) ≡ true → any (knows R (candidate R ns k g)) ns ≡ true → Present ns (candidate R ns k g)

-- what suffices, and can be looked up in a given table: each candidate of its completed depths that was skipped as
-- known has a product that is a power of omega times the product of a node present
abbrev pub SkippedRightly : Mode → ℕ → ℕ → ℕ → ℕ → Type 0
SkippedRightly mode n basis G E =
    KnownIsPresent (at_width mode n basis) (PowerOf n) (built mode n basis G E).depth (built mode n basis G E).nodes
