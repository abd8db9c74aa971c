-- The recheck of a list, by its two parts. Assumes nothing.
use mathlib.Core.Path.{◌≡◌, refl, ap}
use mathlib.Core.Bool.{true, ◌&&◌}
use mathlib.Core.List.{List}
use mathlib.Core.Logic.{◌↔◌}
use Prim.Native.Nat.{ℕ}
use Rattle.ints.proofs.Bools.{clash, both_true, and_both}
use Rattle.exact.specs.Matrix.{Exact}
use Rattle.exact.specs.Lists.{product}
use Rattle.exact.specs.Fits.{Steps, all_fit, unfit_at, steps}
use Rattle.exact.specs.Phase.{up_to_phase}
use Rattle.walk.specs.Finds.{fits_all, rechecked}

fits_all_lem : (s : Steps) → fits_all s ≡ true → s ≡ all_fit
fits_all_lem all_fit e = refl
fits_all_lem (unfit_at i) e = clash e refl

pub rechecked_exactly : (n : ℕ) (l : List ℕ) (x : Exact) → (rechecked n l x ≡ true) ↔ ((steps n l ≡ all_fit) × (up_to_phase n (product n l) x ≡ true))
unfolding rechecked
rechecked_exactly n l x = (to, λ p. and_both (fits_all (steps n l)) (up_to_phase n (product n l) x) (ap fits_all p.0) p.1)
  where
    to : fits_all (steps n l) && up_to_phase n (product n l) x ≡ true → (steps n l ≡ all_fit) × (up_to_phase n (product n l) x ≡ true)
    to e = let b = both_true (fits_all (steps n l)) (up_to_phase n (product n l) x) e in (fits_all_lem (steps n l) b.0, b.1)
