-- Tests: what `&&`, `||` and a list's tests say. Assumes nothing.
use mathlib.Core.Path.{◌≡◌, refl, sym, ◌∙◌, subst}
use mathlib.Core.Bool.{Bool, true, false, ◌&&◌, ◌||◌, true≢false}
use mathlib.Core.List.{List, [], ◌∷◌}
use Prim.Native.Nat.{ℕ, suc, zero, ◌+◌, ◌≤◌, ◌<◌}
use native.Mathlib.Omega.{arith}
use lib.ListN.{length, get_or}
use native.Mathlib.Decide.{ℕ_discrete}
use Rattle.ints.specs.Lists.{range, all}
-- the kit's
pub use mathlib.Core.Bool.{and-true, and_assoc, or-false, or_assoc}

-- no test is both true and false
pub clash {ℓ} : {A : Type ℓ} {t : Bool} → t ≡ true → t ≡ false → A
clash p q = absurd (true≢false (sym p ∙ q))

pub both_true : (s t : Bool) → s && t ≡ true → (s ≡ true) × (t ≡ true)
both_true true t h = (refl, h)
both_true false t h = clash h refl

pub and_left : (s t : Bool) → s && t ≡ true → s ≡ true
and_left s t h = (both_true s t h).0

pub and_right : (s t : Bool) → s && t ≡ true → t ≡ true
and_right s t h = (both_true s t h).1

pub and_both : (s t : Bool) → s ≡ true → t ≡ true → s && t ≡ true
and_both true t p q = q
and_both false t p q = p

pub neither : (s t : Bool) → s || t ≡ false → (s ≡ false) × (t ≡ false)
neither true t h = clash refl h
neither false t h = (refl, h)

pub or_right : (s t : Bool) → t ≡ true → s || t ≡ true
or_right true t h = refl
or_right false t h = h

-- two tests that follow from each other are one
pub iff : (s t : Bool) → (s ≡ true → t ≡ true) → (t ≡ true → s ≡ true) → s ≡ t
iff true t f g = sym (f refl)
iff false true f g = g refl
iff false false f g = refl

-- a test of every number of a list, at one place
pub all_at : (f : ℕ → Bool) (l : List ℕ) (i : ℕ) → all f l ≡ true → i < length l → f (get_or l i 0) ≡ true
unfolding all
all_at f [] i h p = absurd (omega arith)
all_at f (x ∷ l) zero h p = and_left (f x) (all f l) h
all_at f (x ∷ l) (suc i) h p = all_at f l i (and_right (f x) (all f l) h) (omega arith)

-- a test over the numbers from i on, both ways
pub all_range : (f : ℕ → Bool) (m i : ℕ) → all f (range i m) ≡ true → (k : ℕ) → i ≤ k → k < i + m → f k ≡ true
unfolding all range
all_range f zero i h k p q = absurd (omega arith)
all_range f (suc m) i h k p q =
    by (ℕ_discrete k i) (λ l. all_range f m (suc i) (and_right (f i) (all f (range (suc i) m)) h) k l (omega arith))
  where
    by : Dec (k ≡ i) → (suc i ≤ k → f k ≡ true) → f k ≡ true
    by (yes e) u = subst (λ (x : ℕ). f x ≡ true) (sym e) (and_left (f i) (all f (range (suc i) m)) h)
    by (no e) u = u (omega arith)

pub range_all : (f : ℕ → Bool) (m i : ℕ) → ((k : ℕ) → i ≤ k → k < i + m → f k ≡ true) → all f (range i m) ≡ true
unfolding all range
range_all f zero i h = refl
range_all f (suc m) i h =
    and_both (f i) (all f (range (suc i) m)) (h i (omega arith) (omega arith)) (range_all f m (suc i) (λ k p q. h k (omega arith) (omega arith)))
