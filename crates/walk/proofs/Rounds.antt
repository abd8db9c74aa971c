-- The places of a probe, round the part: where it begins, which place comes after one, and that every place of the part
-- is met. Assumes nothing.
use mathlib.Core.Path.{◌≡◌, sym, ap, ◌∙◌}
use Prim.Native.Nat.{ℕ, ◌+◌, ◌-◌, ◌%◌, ◌<◌}
use native.Mathlib.Nat.{mod-lt, mod-eq_of_lt, mod-add-mod, add-mod_right}
use native.Mathlib.Decide.{dec_lt}
use native.Mathlib.Omega.{arith}
use Rattle.walk.specs.Index.{place_of}

pub place_below : (size f j : ℕ) → 0 < size → place_of size f j < size
place_below size f j h = mod-lt (f % size + j) h

-- a probe begins at the remainder, and each step goes to the next place
pub place_first : (size f : ℕ) → 0 < size → f % size ≡ place_of size f 0
place_first size f h =
    let e : f % size + 0 ≡ f % size = omega arith in
    sym (ap (λ (x : ℕ). x % size) e ∙ mod-eq_of_lt (mod-lt f h))

pub place_next : (size f j : ℕ) → (place_of size f j + 1) % size ≡ place_of size f (j + 1)
place_next size f j =
    let e : f % size + j + 1 ≡ f % size + (j + 1) = omega arith in
    mod-add-mod (f % size + j) size 1 ∙ ap (λ (x : ℕ). x % size) e

-- every place is met
pub place_met : (size f p : ℕ) → p < size → (j : ℕ) × (j < size) × (place_of size f j ≡ p)
place_met size f p h = by (dec_lt p (f % size))
  where
    in_part : f % size < size
    in_part = mod-lt f (omega arith)

    by : Dec (p < f % size) → (j : ℕ) × (j < size) × (place_of size f j ≡ p)
    by (yes l) =
        let e : f % size + (p + size - f % size) ≡ p + size = omega (arith, in_part) in
        (p + size - f % size, omega (arith, in_part), ap (λ (x : ℕ). x % size) e ∙ add-mod_right p size ∙ mod-eq_of_lt h)
    by (no l) =
        let e : f % size + (p - f % size) ≡ p = omega (arith, in_part) in
        (p - f % size, omega arith, ap (λ (x : ℕ). x % size) e ∙ mod-eq_of_lt h)
