-- `clear` meets its contract: the matrix's places are filled with 0, and the later ones stay. Assumes nothing.
use mathlib.Core.Path.{ap}
use Prim.Native.Nat.{ℕ, ◌*◌, ◌≤◌}
use native.Mathlib.Omega.{arith}
use Rattle.places.specs.Places.{places}
use Rattle.places.proofs.Placed.{area_le}
use Rattle.identity.proofs.Filling.{filled_zero, filled_kept}
use Rattle.identity.proofs.clear.Goals as goal

-- the matrix's places are there
pub slice_bounds-fill-end : goal.slice_bounds-fill-end
slice_bounds-fill-end c = omega (arith, c.area-size.ensures, area_le _ c.requires.n_bound)

pub returns-clause-zero : goal.returns-clause-zero
returns-clause-zero c =
    let b : 4 * c.area-size.result ≤ places = omega (arith, c.area-size.ensures, area_le _ c.requires.n_bound) in
    filled_zero _ _ _ c.told-m b (ap (λ (a : ℕ). 4 * a) c.area-size.ensures) (c.fill.ensures.after (λ y e. e))

pub returns-clause-kept : goal.returns-clause-kept
returns-clause-kept c =
    let b : 4 * c.area-size.result ≤ places = omega (arith, c.area-size.ensures, area_le _ c.requires.n_bound) in
    filled_kept _ _ _ c.told-m b (ap (λ (a : ℕ). 4 * a) c.area-size.ensures) (c.fill.ensures.after (λ y e. e))
