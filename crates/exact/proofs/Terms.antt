-- Sums over rows, of which all terms but one or two are zero. Assumes nothing.
use mathlib.Core.Path.{◌≡◌, refl, sym, ◌∙◌}
use Prim.Native.Nat.{ℕ, zero, suc, ◌<◌}
use native.Mathlib.Omega.{arith}
use native.Mathlib.Decide.{ℕ_discrete}
use Rattle.cyclotomic.specs.Zomega.{Zω, zeroω, addω}
use Rattle.cyclotomic.proofs.Sums.{add_comm, add_zero, zero_add}
use Rattle.exact.specs.Paper.{sumω}

pub sum_none : (m : ℕ) (f : ℕ → Zω) → ((s : ℕ) → s < m → f s ≡ zeroω) → sumω m f ≡ zeroω
sum_none zero f h = refl
sum_none (suc m) f h = (λ i. addω (sum_none m f (λ s q. h s (omega arith)) i) (h m (omega arith) i)) ∙ add_zero zeroω

pub sum_one : (m : ℕ) (f : ℕ → Zω) (k : ℕ) → k < m → ((s : ℕ) → s < m → (s ≡ k → ⊥) → f s ≡ zeroω) → sumω m f ≡ f k
sum_one zero f k p h = absurd (omega arith)
sum_one (suc m) f k p h = by (ℕ_discrete k m) (λ q. sum_one m f k q (λ s w. h s (omega arith)))
  where
    by : Dec (k ≡ m) → (k < m → sumω m f ≡ f k) → addω (sumω m f) (f m) ≡ f k
    by (yes e) u = (λ i. addω (sum_none m f (λ s q. h s (omega arith) (λ w. omega arith)) i) (f (sym e i))) ∙ zero_add (f k)
    by (no e) u = (λ i. addω (u (omega arith) i) (h m (omega arith) (λ w. e (sym w)) i)) ∙ add_zero (f k)

pub sum_two : (m : ℕ) (f : ℕ → Zω) (j k : ℕ) → j < m → k < m → (j ≡ k → ⊥)
    → ((s : ℕ) → s < m → (s ≡ j → ⊥) → (s ≡ k → ⊥) → f s ≡ zeroω) → sumω m f ≡ addω (f j) (f k)
sum_two zero f j k p q d h = absurd (omega arith)
sum_two (suc m) f j k p q d h =
    by (ℕ_discrete j m) (ℕ_discrete k m) (λ u v. sum_two m f j k u v d (λ s w. h s (omega arith)))
  where
    by : Dec (j ≡ m) → Dec (k ≡ m) → (j < m → k < m → sumω m f ≡ addω (f j) (f k)) → addω (sumω m f) (f m) ≡ addω (f j) (f k)
    by (yes e) o u =
        (λ i. addω (sum_one m f k (omega arith) (λ s w g. h s (omega arith) (λ z. omega arith) g) i) (f (sym e i))) ∙ add_comm (f k) (f j)
    by (no g) (yes e) u = λ i. addω (sum_one m f j (omega arith) (λ s w g. h s (omega arith) g (λ z. omega arith)) i) (f (sym e i))
    by (no g) (no e) u =
        (λ i. addω (u (omega arith) (omega arith) i) (h m (omega arith) (λ w. g (sym w)) (λ w. e (sym w)) i)) ∙ add_zero (addω (f j) (f k))
