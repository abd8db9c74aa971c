-- Widths by their numbers. Assumes nothing.
use mathlib.Core.Path.{◌≡◌, refl}
use mathlib.Core.List.{[], ◌∷◌}
use Prim.Native.Nat.{ℕ, zero, suc, ◌≤◌, ◌<◌}
use native.Mathlib.Omega.{arith}
use Rattle.tables.specs.Checks.{Limits}
use Rattle.tables.specs.Tables.{Width, not_built, width_at}

-- a number past the five has no row, nor has 0
pub other_width : (l : Limits) (a b c d e : Width) (w : ℕ) → (w ≡ 1 → ⊥) → (w ≡ 2 → ⊥) → (w ≡ 3 → ⊥) → (w ≡ 4 → ⊥) → (w ≡ 5 → ⊥)
    → not_built ≡ width_at (record { limits = l; widths = a ∷ b ∷ c ∷ d ∷ e ∷ [] }) w
other_width l a b c d e zero h1 h2 h3 h4 h5 = refl
other_width l a b c d e (suc zero) h1 h2 h3 h4 h5 = absurd (h1 refl)
other_width l a b c d e (suc (suc zero)) h1 h2 h3 h4 h5 = absurd (h2 refl)
other_width l a b c d e (suc (suc (suc zero))) h1 h2 h3 h4 h5 = absurd (h3 refl)
other_width l a b c d e (suc (suc (suc (suc zero)))) h1 h2 h3 h4 h5 = absurd (h4 refl)
other_width l a b c d e (suc (suc (suc (suc (suc zero))))) h1 h2 h3 h4 h5 = absurd (h5 refl)
other_width l a b c d e (suc (suc (suc (suc (suc (suc k)))))) h1 h2 h3 h4 h5 = refl

pub is_five : (w : ℕ) → 0 < w → w ≤ 5 → (w ≡ 1 → ⊥) → (w ≡ 2 → ⊥) → (w ≡ 3 → ⊥) → (w ≡ 4 → ⊥) → w ≡ 5
is_five zero p q h1 h2 h3 h4 = absurd (omega arith)
is_five (suc zero) p q h1 h2 h3 h4 = absurd (h1 refl)
is_five (suc (suc zero)) p q h1 h2 h3 h4 = absurd (h2 refl)
is_five (suc (suc (suc zero))) p q h1 h2 h3 h4 = absurd (h3 refl)
is_five (suc (suc (suc (suc zero)))) p q h1 h2 h3 h4 = absurd (h4 refl)
is_five (suc (suc (suc (suc (suc w))))) p q h1 h2 h3 h4 = omega arith
