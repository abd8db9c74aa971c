-- Demand 3 at one width (SPECIFICATION 8.3 to 8.5), of what the nodes answer. Lists are oldest gate first. The demand
-- itself, of the public entries, is tables/specs/Demand3.antt. Assumes nothing.
use mathlib.Core.Path.{◌≡◌}
use mathlib.Core.Logic.{◌↔◌}
use mathlib.Core.Bool.{Bool, false}
use mathlib.Core.List.{List}
use mathlib.Core.Option.{none, some}
use Prim.Native.Nat.{ℕ, ◌≤◌}
use lib.ListN.{length}
use Rattle.exact.specs.Matrix.{Exact, Lowest, PowerOf}
use Rattle.exact.specs.Lists.{product}
use Rattle.exact.specs.Fits.{fitting_gates}
use Rattle.walk.specs.Walk.{Node}
use Rattle.walk.specs.Modes.{Mode, keeping}
use Rattle.walk.specs.AtWidth.{built, ListOf, NoSharedPrint}
use Rattle.walk.specs.Known.{SkippedRightly}
use Rattle.walk.proofs.Nodewise.{answered_by, answered}

module _ (mode : Mode) (n basis : ℕ) where
  -- no list of the basis at the width, however long, has the product asked and fewer gates than the one answered
  abbrev pub Shortest : ℕ → ℕ → Exact → Type 0
  Shortest G E x =
      (l : List ℕ) → answered mode n basis G E x ≡ some l → (m : List ℕ) → ListOf n basis m → PowerOf n x (product n m) → length l ≤ length m

  -- none is answered exactly where no list of the basis at the width within the gate limit has the product asked
  abbrev pub NoneExactly : ℕ → ℕ → Exact → Type 0
  NoneExactly G E x =
      (answered mode n basis G E x ≡ none) ↔ ((m : List ℕ) → ListOf n basis m → length m ≤ G → PowerOf n x (product n m) → ⊥)

  -- both, the second at a width that is not saturated (SPECIFICATION 8.5). A matrix that is not refused is in lowest
  -- denominator
  pub record WidthComplete (G E : ℕ) : Type 0 where
    pub shortest : (x : Exact) → Lowest n x → Shortest G E x
    pub none_exactly : (built mode n basis G E).saturated ≡ false → (x : Exact) → Lowest n x → NoneExactly G E x

  pub record WidthDemand3 : Type 0 where
    -- an answer is right, whatever the nodes are and whichever test finds one (SPECIFICATION 8.3)
    pub right : (test : Node → Bool) (ns : List Node) (x : Exact) (l : List ℕ) → answered_by mode n basis test ns x ≡ some l → PowerOf n x (product n l)
    -- larger tables agree: the same list is answered where G and E are no smaller (SPECIFICATION 8.4)
    pub larger : (G G' E E' : ℕ) → G ≤ G' → E ≤ E' → (x : Exact) (l : List ℕ)
        → answered mode n basis G E x ≡ some l → answered mode n basis G' E' x ≡ some l
    -- up to 29 gates, and with no clash at the width (SPECIFICATION 8.5, 8.14)
    pub complete : (G E : ℕ) → G ≤ fitting_gates → NoSharedPrint n basis G → WidthComplete G E
    -- up to 29 gates, where clashing nodes are kept: no condition on fingerprints (SPECIFICATION 8.5, 8.17)
    pub complete_keeping : mode ≡ keeping → (G E : ℕ) → G ≤ fitting_gates → WidthComplete G E
    -- the same, where the table at hand was looked through and every candidate that was skipped as known was skipped
    -- rightly
    pub complete_rightly : (G E : ℕ) → G ≤ fitting_gates → SkippedRightly mode n basis G E → WidthComplete G E
    -- besides: an answered list is a list of the basis within the gate limit
    pub within : (G E : ℕ) (x : Exact) (l : List ℕ) → answered mode n basis G E x ≡ some l → ListOf n basis l × (length l ≤ G)
