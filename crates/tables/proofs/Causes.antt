-- Rows by their tests and rows in words: where each test tells its words, the first that holds is the same. Assumes
-- nothing.
use mathlib.Core.Path.{◌≡◌, refl, sym, ap, ◌∙◌}
use mathlib.Core.Logic.{◌⊎◌, inl, inr}
use mathlib.Core.Bool.{Bool, true, false, not, ◌&&◌, ◌||◌}
use mathlib.Core.List.{List, [], ◌∷◌, ◌++◌}
use Prim.Native.Nat.{ℕ, ◌<◌}
use native.Mathlib.Omega.{arith}
use borrow.Author.Tests.{eqb-true, eq-eqb, ltb-true, lt-ltb, not-true}
use lib.Dec.{eqb, ltb}
use Rattle.ints.specs.Lists.{pick}
use Rattle.ints.proofs.Bools.{clash, both_true, and_both}
use Rattle.tables.specs.Checks.{Row, row, row_at, first_row, first_position}
use Rattle.tables.specs.Exactly.{Cause, cause, cause_at, Past, First, NoCause}
use Rattle.tables.proofs.Rows.{first_past, first_none}

-- ---- a test and its words

-- the test is true exactly where C is so
pub record Decides (C : Type 0) (b : Bool) : Type 0 where
  pub to : b ≡ true → C
  pub from : C → b ≡ true

pub is_eq : (a b : ℕ) → Decides (a ≡ b) (eqb a b)
is_eq a b = record { to = eqb-true a b; from = eq-eqb a b }

pub is_lt : (a b : ℕ) → Decides (a < b) (ltb a b)
is_lt a b = record { to = ltb-true a b; from = lt-ltb a b }

pub is_true : (b : Bool) → Decides (b ≡ true) b
is_true b = record { to = λ e. e; from = λ e. e }

pub is_false : (b : Bool) → Decides (b ≡ false) (not b)
is_false b = record { to = not-true b; from = λ e. ap not e }

pub is_not : {C : Type 0} {b : Bool} → Decides C b → Decides (C → ⊥) (not b)
is_not {C} {b} m = record { to = λ e c. clash (m.from c) (not-true b e); from = by b refl }
  where
    by : (s : Bool) → b ≡ s → (C → ⊥) → not s ≡ true
    by true e h = absurd (h (m.to e))
    by false e h = refl

pub is_or : {C D : Type 0} {b c : Bool} → Decides C b → Decides D c → Decides (C ⊎ D) (b || c)
is_or {C} {D} {b} {c} m o = record { to = to b refl; from = from }
  where
    to : (s : Bool) → b ≡ s → (s || c) ≡ true → C ⊎ D
    to true e h = inl (m.to e)
    to false e h = inr (o.to h)

    from : C ⊎ D → (b || c) ≡ true
    from (inl x) = rw (m.from x)
    from (inr y) = by b
      where
        by : (s : Bool) → (s || c) ≡ true
        by true = refl
        by false = o.from y

pub is_and : {C D : Type 0} {b c : Bool} → Decides C b → Decides D c → Decides (C × D) (b && c)
is_and {C} {D} {b} {c} m o = record {
  to = λ h. let x = both_true b c h in (m.to x.0, o.to x.1);
  from = λ x. and_both b c (m.from x.0) (o.from x.1);
}

pub fails : {C : Type 0} {b : Bool} → Decides C b → (C → ⊥) → b ≡ false
fails {C} {b} m h = by b refl
  where
    by : (s : Bool) → b ≡ s → s ≡ false
    by true e = absurd (h (m.to e))
    by false e = refl

-- ---- rows and causes

-- the test is true exactly where C is so of a position, and then it is so of p alone
pub record DecidesAt (C : ℕ → Type 0) (b : Bool) (p : ℕ) : Type 0 where
  pub to : b ≡ true → C p
  pub from : (q : ℕ) → C q → (b ≡ true) × (q ≡ p)

-- row by row, each with its number, which is not 0; a row needs to be its words only where those before it do not hold
pub data InWords : List Row → List Cause → Type 1 where
  done : InWords [] []
  more_at : {C : ℕ → Type 0} {b : Bool} {p : ℕ} {rs : List Row} {cs : List Cause} (s : ℕ) → 0 < s → DecidesAt C b p → (b ≡ false → InWords rs cs)
      → InWords (row_at b s p ∷ rs) (cause_at s C ∷ cs)

-- a row that tells no position
pub at_0 : {C : Type 0} {b : Bool} → Decides C b → DecidesAt (λ p. C × (p ≡ 0)) b 0
at_0 m = record { to = λ e. (m.to e, refl); from = λ q c. (m.from c.0, c.1) }

pub more : {C : Type 0} {b : Bool} {rs : List Row} {cs : List Cause} (s : ℕ) → 0 < s → Decides C b → InWords rs cs → InWords (row b s ∷ rs) (cause s C ∷ cs)
more {C} s h m w = more_at {C = λ p. C × (p ≡ 0)} s h (at_0 m) (λ e. w)

pub words_append : {rs ss : List Row} {cs ds : List Cause} → InWords rs cs → InWords ss ds → InWords (rs ++ ss) (cs ++ ds)
words_append done v = v
words_append (more_at s h m w) v = more_at s h m (λ e. words_append (w e) v)

-- a row that does not hold is past
past : {C : ℕ → Type 0} {b : Bool} {p : ℕ} (s : ℕ) → DecidesAt C b p → b ≡ false → Past (cause_at s C)
past s m f q c = clash (m.from q c).0 f

-- and back
not_past : {C : ℕ → Type 0} {b : Bool} {p : ℕ} (s : ℕ) → DecidesAt C b p → Past (cause_at s C) → b ≡ false
not_past {C} {b} {p} s m n = by b refl
  where
    by : (t : Bool) → b ≡ t → t ≡ false
    by true e = absurd (n p (m.to e))
    by false e = refl

-- the first row that holds, and the first cause
pub first_to : {rs : List Row} {cs : List Cause} → InWords rs cs → (r : ℕ) → 0 < r → first_row rs ≡ r → First r (first_position rs) cs
unfolding first_row
first_to done r h e = absurd (omega arith)
first_to (more_at {C} {b} {p} {rs} {cs} s g m w) r h e = by b refl (λ f q. first_to (w f) r h q) e
  where
    by : (t : Bool) → b ≡ t → (b ≡ false → first_row rs ≡ r → First r (first_position rs) cs) → pick t s (first_row rs) ≡ r
        → First r (pick t p (first_position rs)) (cause_at s C ∷ cs)
    by true f k x = inl (x, m.to f)
    by false f k x = inr (past s m f, k f x)

pub first_from : {rs : List Row} {cs : List Cause} → InWords rs cs → (r q : ℕ) → First r q cs → (first_row rs ≡ r) × (0 < r) × (q ≡ first_position rs)
unfolding first_row
first_from done r q f = absurd f
first_from (more_at {C} {b} {p} {rs} {cs} s h m w) r q (inl (e, x)) =
    let (y, z) = m.from q x in
    rw y (e, omega (arith, h, e), z)
first_from (more_at {C} {b} {p} {rs} {cs} s h m w) r q (inr (n, f)) =
    let y = not_past s m n in
    rw y (first_from (w y) r q f)

-- none holds
pub none_to : {rs : List Row} {cs : List Cause} → InWords rs cs → first_row rs ≡ 0 → NoCause cs
none_to done e = tt
none_to (more_at {C} {b} {p} {rs} {cs} s h m w) e =
    let z = first_none (row_at b s p) rs h e in
    (past s m z.0, none_to (w z.0) z.1)

pub none_from : {rs : List Row} {cs : List Cause} → InWords rs cs → NoCause cs → first_row rs ≡ 0
unfolding first_row
none_from done n = refl
none_from (more_at {C} {b} {p} {rs} {cs} s h m w) n =
    let y = not_past s m n.0 in
    first_past (row_at b s p) rs y ∙ none_from (w y) n.1

-- ---- causes after causes

pub first_more : (cs ds : List Cause) (r p : ℕ) → First r p cs → First r p (cs ++ ds)
first_more [] ds r p f = absurd f
first_more (c ∷ cs) ds r p (inl x) = inl x
first_more (c ∷ cs) ds r p (inr (n, f)) = inr (n, first_more cs ds r p f)

pub first_later : (cs ds : List Cause) (r p : ℕ) → NoCause cs → First r p ds → First r p (cs ++ ds)
first_later [] ds r p n f = f
first_later (c ∷ cs) ds r p n f = inr (n.0, first_later cs ds r p n.1 f)

pub first_split : (cs ds : List Cause) (r p : ℕ) → First r p (cs ++ ds) → First r p cs ⊎ (NoCause cs × First r p ds)
first_split [] ds r p f = inr (tt, f)
first_split (c ∷ cs) ds r p (inl x) = inl (inl x)
first_split (c ∷ cs) ds r p (inr (n, f)) = by (first_split cs ds r p f)
  where
    by : First r p cs ⊎ (NoCause cs × First r p ds) → First r p (c ∷ cs) ⊎ (NoCause (c ∷ cs) × First r p ds)
    by (inl g) = inl (inr (n, g))
    by (inr (m, g)) = inr ((n, m), g)
