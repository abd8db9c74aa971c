-- Tests, what is said of each element of a list, lists with one more at the end, and beginnings of lists, as the walk's
-- proofs use them. Assumes nothing.
use mathlib.Core.Path.{◌≡◌, refl, sym, ap, ◌∙◌}
use mathlib.Core.Logic.{◌⊎◌, inl, inr, ⊎_elim}
use mathlib.Core.Bool.{Bool, true, false, ◌||◌}
use mathlib.Core.List.{List, [], ◌∷◌, ◌++◌, map, append_assoc, append-nil}
use Prim.Native.Nat.{ℕ, zero, suc, ◌≤◌, ◌<◌}
use native.Mathlib.Nat.{not-suc-le-zero, le_of_suc-le-suc, zero-lt-suc}
use native.Mathlib.Decide.{dec_lt}
use native.Mathlib.Omega.{arith}
use lib.ListN.{length, get_or, length-append, get_or-append}
use lib.Seq.{get_or-append_seam}
use Rattle.ints.proofs.Bools.{clash, or_right}
use Rattle.walk.specs.Walk.{any}
use Rattle.walk.proofs.Grown.{Prefix}

-- ---- tests

pub or-false : (s t : Bool) → (s || t) ≡ false → (s ≡ false) × (t ≡ false)
or-false true t e = clash refl e
or-false false t e = (refl, e)

pub or_cases : (s t : Bool) → (s || t) ≡ true → (s ≡ true) ⊎ (t ≡ true)
or_cases true t e = inl refl
or_cases false t e = inr e

pub bool : (t : Bool) → (t ≡ true) ⊎ (t ≡ false)
bool true = inl refl
bool false = inr refl

pub lt_or : (a b : ℕ) → (a < b) ⊎ (b ≤ a)
lt_or a b = by (dec_lt a b)
  where
    by : Dec (a < b) → (a < b) ⊎ (b ≤ a)
    by (yes h) = inl h
    by (no h) = inr (omega arith)

-- a test that holds of one of a list
module _ {A : Type 0} (f : A → Bool) (d : A) where
  pub any_true : (ns : List A) → any f ns ≡ true → (k : ℕ) × (k < length ns) × (f (get_or ns k d) ≡ true)
  any_true [] e = clash e refl
  any_true (n ∷ ns) e =
      ⊎_elim (λ (h : f n ≡ true). (zero, zero-lt-suc _, h))
      (λ (h : any f ns ≡ true). let r = any_true ns h in (suc r.0, omega (arith, r.1), r.2))
      (or_cases (f n) (any f ns) e)

  pub any_false : (ns : List A) → any f ns ≡ false → (k : ℕ) → k < length ns → f (get_or ns k d) ≡ false
  any_false [] e k h = absurd (not-suc-le-zero h)
  any_false (n ∷ ns) e zero h = (or-false (f n) (any f ns) e).0
  any_false (n ∷ ns) e (suc k) h = any_false ns (or-false (f n) (any f ns) e).1 k (le_of_suc-le-suc h)

  pub any_at : (ns : List A) (k : ℕ) → k < length ns → f (get_or ns k d) ≡ true → any f ns ≡ true
  any_at [] k h e = absurd (not-suc-le-zero h)
  any_at (n ∷ ns) zero h e = rw e
  any_at (n ∷ ns) (suc k) h e = or_right (f n) (any f ns) (any_at ns k (le_of_suc-le-suc h) e)

-- ---- what p says of each element

module _ {A : Type 0} (p : A → ℕ) where
  -- at one of them, by whatever element stands for those past the end
  pub map_at : (d : A) (ns : List A) (j : ℕ) → j < length ns → get_or (map p ns) j 0 ≡ p (get_or ns j d)
  map_at d [] j h = absurd (not-suc-le-zero h)
  map_at d (n ∷ ns) zero h = refl
  map_at d (n ∷ ns) (suc j) h = map_at d ns j (le_of_suc-le-suc h)

  pub map_snoc : (ns : List A) (m : A) → map p (ns ++ (m ∷ [])) ≡ map p ns ++ (p m ∷ [])
  map_snoc [] m = refl
  map_snoc (n ∷ ns) m = ap (λ (z : List ℕ). p n ∷ z) (map_snoc ns m)

-- ---- one more at the end

module _ {A : Type 0} (ns : List A) (n : A) where
  pub length_snoc : length (ns ++ (n ∷ [])) ≡ suc (length ns)
  length_snoc = simp length-append (omega arith)

  -- what holds at each number, and at the new one, holds at each of the longer list
  pub all_snoc : (d : A) (P : ℕ → A → Type 0) → ((k : ℕ) → k < length ns → P k (get_or ns k d)) → P (length ns) n
      → (k : ℕ) → k < length (ns ++ (n ∷ [])) → P k (get_or (ns ++ (n ∷ [])) k d)
  all_snoc d P h t k l =
      ⊎_elim (λ (p : k < length ns). rw (get_or-append ns (n ∷ []) d k p) (h k p))
      (λ (p : length ns ≤ k). let e : k ≡ length ns = omega (arith, length_snoc) in rw (e, get_or-append_seam ns n [] d) t)
      (lt_or k (length ns))

-- ---- beginnings

module _ {A : Type 0} where
  pub prefix_refl : (ns : List A) → Prefix ns ns
  prefix_refl ns = record { rest = []; is = sym (append-nil ns) }

  pub prefix_snoc : (ns : List A) (n : A) → Prefix ns (ns ++ (n ∷ []))
  prefix_snoc ns n = record { rest = n ∷ []; is = refl }

  pub prefix_trans : {ls ns ms : List A} → Prefix ls ns → Prefix ns ms → Prefix ls ms
  prefix_trans {ls} p q = record {
    rest = p.rest ++ q.rest;
    is = q.is ∙ ap (λ (z : List A). z ++ q.rest) p.is ∙ append_assoc ls p.rest q.rest;
  }

  pub prefix_at : {ns ms : List A} → Prefix ns ms → (k : ℕ) (d : A) → k < length ns → get_or ms k d ≡ get_or ns k d
  prefix_at {ns} p k d h = rw p.is (get_or-append ns p.rest d k h)

  pub prefix_length : {ns ms : List A} → Prefix ns ms → length ns ≤ length ms
  prefix_length {ns} p = omega (arith, ap length p.is, length-append ns p.rest)
