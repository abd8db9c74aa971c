-- Which input an entry refuses, exactly, said once for every entry: its rows are tried, and where none holds it comes
-- to what was asked, which may itself tell a refusal, by a last cause. Assumes nothing.
use mathlib.Core.Path.{◌≡◌, refl, sym, ◌∙◌, subst}
use mathlib.Core.Logic.{◌↔◌, ◌⊎◌, inl, inr}
use mathlib.Core.List.{List, [], ◌∷◌, ◌++◌}
use Prim.Native.Nat.{ℕ, zero, suc, ◌<◌}
use native.Mathlib.Omega.{arith}
use Rattle.tables.specs.Checks.{Row, first_row, first_position, by_rows}
use Rattle.tables.specs.Exactly.{Cause, cause, First, NoCause, RefusedWhere}
use Rattle.tables.proofs.Rows.{rows_pass, rows_refuse}
use Rattle.tables.proofs.Causes.{InWords, first_to, first_from, none_to, none_from, first_more, first_later, first_split}

-- an entry x over rows: what is asked where none holds, and a refusal by its number, its position and what memory holds
-- after it; refusals that differ are told apart; `last` are the causes by which what is asked is a refusal itself
pub record Entry {A M : Type 0} (x asked : A) (refuse : ℕ → ℕ → M → A) (lent : M) (rows : List Row) (last : List Cause) : Type 0 where
  pub is : x ≡ by_rows rows asked (λ r p. refuse r p lent)
  pub same : (r p s q : ℕ) (m n : M) → refuse r p m ≡ refuse s q n → (r ≡ s) × (p ≡ q) × (m ≡ n)
  pub later : first_row rows ≡ 0 → (r p : ℕ) (m : M) → (asked ≡ refuse r p m) ↔ (First r p last × (m ≡ lent))

module _ {A M : Type 0} {x asked : A} {refuse : ℕ → ℕ → M → A} {lent : M} {rows : List Row} {last : List Cause} {causes : List Cause}
    (e : Entry x asked refuse lent rows last) (w : InWords rows causes) where
  passes : first_row rows ≡ 0 → x ≡ asked
  passes f = e.is ∙ rows_pass rows asked (λ r p. refuse r p lent) f

  refuses : (r : ℕ) → 0 < r → first_row rows ≡ r → x ≡ refuse r (first_position rows) lent
  refuses r h f = e.is ∙ rows_refuse rows asked (λ r p. refuse r p lent) r h f

  pub refused_where : RefusedWhere x refuse lent (causes ++ last)
  refused_where m r p = (λ n. to n (first_row rows) refl, λ y. from (first_split causes last r p y.0) y.1)
    where
      to : x ≡ refuse r p m → (s : ℕ) → first_row rows ≡ s → First r p (causes ++ last) × (m ≡ lent)
      to n zero f = let z = (e.later f r p m).0 (sym (passes f) ∙ n) in (first_later causes last r p (none_to w f) z.0, z.1)
      to n (suc s) f =
          let (y, z, u) = e.same (suc s) (first_position rows) r p lent m (sym (refuses (suc s) (omega arith) f) ∙ n) in
          let g = first_to w (suc s) (omega arith) f in (
            first_more causes last r p (subst (λ (j : ℕ). First r j causes) z (subst (λ (j : ℕ). First j (first_position rows) causes) y g)),
            sym u,
          )

      from : First r p causes ⊎ (NoCause causes × First r p last) → m ≡ lent → x ≡ refuse r p m
      from (inl f) z = let (y, h, u) = first_from w r p f in refuses r h y ∙ (λ k. refuse r (sym u k) (sym z k))
      from (inr (n, f)) z = passes (none_from w n) ∙ (e.later (none_from w n) r p m).1 (f, z)

  -- what is no refusal is what was asked, and no row holds
  pub not_refused : ((r p : ℕ) (m : M) → x ≡ refuse r p m → ⊥) → (x ≡ asked) × NoCause causes
  not_refused apart = by (first_row rows) refl
    where
      by : (s : ℕ) → first_row rows ≡ s → (x ≡ asked) × NoCause causes
      by zero f = (passes f, none_to w f)
      by (suc s) f = absurd (apart (suc s) (first_position rows) lent (refuses (suc s) (omega arith) f))

  -- where what is asked is no refusal, it is come to exactly where no row holds
  pub done_where : ((r p : ℕ) (m : M) → asked ≡ refuse r p m → ⊥) → (x ≡ asked) ↔ NoCause causes
  done_where apart = (λ n. (not_refused (λ r p m z. apart r p m (sym n ∙ z))).1, λ n. passes (none_from w n))

-- a last cause at no position, numbered s
pub only : (s : ℕ) (C : Type 0) {r p : ℕ} → First r p (cause s C ∷ []) → (s ≡ r) × C × (p ≡ 0)
only s C (inl (e, (c, z))) = (e, c, z)
only s C (inr (n, f)) = absurd f
