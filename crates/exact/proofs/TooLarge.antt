-- A list is too large exactly where a step passes the limit, at the first such step: what `steps` tells, against each
-- step by itself, and the exponent, which never decides. Assumes nothing.
use mathlib.Core.Path.{◌≡◌, refl, sym, ap, ◌∙◌, subst}
use mathlib.Core.Bool.{Bool, true, false}
use mathlib.Core.List.{List, [], ◌∷◌}
use mathlib.Core.Logic.{◌↔◌}
use Prim.Native.Nat.{ℕ, zero, suc, ◌≤◌, ◌<◌}
use native.Mathlib.Decide.{ℕ_discrete, dec_lt}
use native.Mathlib.Omega.{arith}
use lib.ListN.{length, get_or, take}
use lib.Seq.{get_or-take, take-take, take-length, length-take-le}
use Rattle.ints.specs.Lists.{pick}
use Rattle.ints.proofs.Bools.{clash}
use Rattle.exact.specs.Matrix.{Exact, identity}
use Rattle.exact.specs.Rows.{act, gate_of}
use Rattle.exact.specs.Lists.{after, product}
use Rattle.exact.specs.Fits.{Steps, all_fit, unfit_at, next, step_fits, steps_from, steps, step_within, FirstPast}
use Rattle.exact.proofs.Coded.{proper}
use Rattle.exact.proofs.Unitaries.{unitary_product}
use Rattle.exact.proofs.Bounds.{coefficients_decide, product_small}

module _ (n : ℕ) where
  -- ---- each step by itself

  -- whether the step by gate j fits, from x on
  abbrev step_at : Exact → List ℕ → ℕ → Bool
  step_at x l j = step_fits n (gate_of n (get_or l j 0)) (after n x (take j l))

  -- gate i is the first that does not fit
  record First (x : Exact) (l : List ℕ) (i : ℕ) : Type 0 where
    inside : i < length l
    before : (j : ℕ) → j < i → step_at x l j ≡ true
    past : step_at x l i ≡ false

  -- what `steps` tells of each step
  abbrev Says : Exact → List ℕ → Steps → Type 0
  Says x l all_fit = (j : ℕ) → j < length l → step_at x l j ≡ true
  Says x l (unfit_at i) = First x l i

  -- one gate before
  more : (x : Exact) (g : ℕ) (l : List ℕ) (b : Bool) (s : Steps) → step_fits n (gate_of n g) x ≡ b → Says (act n (gate_of n g) x) l s
      → Says x (g ∷ l) (pick b (next s) (unfit_at 0))
  more x g l false s e t = record { inside = omega arith; before = λ j h. absurd (omega arith); past = e }
  more x g l true all_fit e t = at
    where
      at : (j : ℕ) → j < suc (length l) → step_at x (g ∷ l) j ≡ true
      at zero h = e
      at (suc j) h = t j (omega arith)
  more x g l true (unfit_at i) e t = record { inside = omega (arith, t.inside); before = at; past = t.past }
    where
      at : (j : ℕ) → j < suc i → step_at x (g ∷ l) j ≡ true
      at zero h = e
      at (suc j) h = t.before j (omega arith)

  tells : (x : Exact) (l : List ℕ) → Says x l (steps_from n x l)
  tells x [] = λ j h. absurd (omega arith)
  tells x (g ∷ l) = more x g l (step_fits n (gate_of n g) x) (steps_from n (act n (gate_of n g) x) l) refl (tells (act n (gate_of n g) x) l)

  -- the first is one alone, and there is none where all fit
  settled : (x : Exact) (l : List ℕ) (i : ℕ) (s : Steps) → Says x l s → First x l i → s ≡ unfit_at i
  settled x l i all_fit t f = clash (t i f.inside) f.past
  settled x l i (unfit_at k) t f = ap unfit_at (same (ℕ_discrete k i))
    where
      same : Dec (k ≡ i) → k ≡ i
      same (yes e) = e
      same (no e) = apart (dec_lt k i)
        where
          apart : Dec (k < i) → k ≡ i
          apart (yes h) = clash (f.before k h) t.past
          apart (no h) = clash (t.before i (omega arith)) f.past

  -- ---- from the identity

  -- whether the step by gate j of a list fits
  abbrev step_of : List ℕ → ℕ → Bool
  step_of l j = step_fits n (gate_of n (get_or l j 0)) (product n (take j l))

  by_walk : (l : List ℕ) (s : Steps) → steps n l ≡ s → Says identity l s
  unfolding steps
  by_walk l s e = subst (Says identity l) e (tells identity l)

  -- the gates before gate j fit, if each of their steps does
  prefix_fits : (l : List ℕ) (j : ℕ) → j ≤ length l → ((i : ℕ) → i < j → step_of l i ≡ true) → steps n (take j l) ≡ all_fit
  unfolding product steps
  prefix_fits l j h f = by (steps n (take j l)) refl
    where
      by : (s : Steps) → steps n (take j l) ≡ s → s ≡ all_fit
      by all_fit e = refl
      by (unfit_at i) e =
          let t = by_walk (take j l) (unfit_at i) e in
          let q : i < j = omega (arith, t.inside, length-take-le j l h) in
          clash (rw (get_or-take j l i 0 q, take-take i j l (omega arith)) (f i q)) t.past

  module _ (h : n ≤ 5) (l : List ℕ) where
    -- after steps that fit, the coefficients alone decide
    decides : (j : ℕ) → j ≤ length l → ((i : ℕ) → i < j → step_of l i ≡ true) → step_of l j ≡ step_within n l j
    unfolding step_within
    decides j q f = coefficients_decide n h (unitary_product n (take j l)) (product_small n (take j l) (prefix_fits l j q f)) (gate_of n (get_or l j 0)) (proper n (get_or l j 0))

    -- one step more
    fit_more : (i : ℕ) → i < length l → step_within n l i ≡ true → ((j : ℕ) → j < i → step_of l j ≡ true) → (j : ℕ) → j < suc i → step_of l j ≡ true
    fit_more i q w f j p = by (dec_lt j i)
      where
        by : Dec (j < i) → step_of l j ≡ true
        by (yes r) = f j r
        by (no r) =
            let e : j ≡ i = omega arith in
            subst (λ (k : ℕ). step_of l k ≡ true) (sym e) (decides i (omega arith) f ∙ w)

    within_fit : (i : ℕ) → i ≤ length l → ((j : ℕ) → j < i → step_within n l j ≡ true) → (j : ℕ) → j < i → step_of l j ≡ true
    within_fit zero q f j p = absurd (omega arith)
    within_fit (suc i) q f j p = fit_more i (omega arith) (f i (omega arith)) (within_fit i (omega arith) (λ k r. f k (omega arith))) j p

    -- gate i is told as the first that does not fit exactly where its step is the first past the limit (SPECIFICATION
    -- 8.2)
    pub too_large_exactly : (i : ℕ) → (steps n l ≡ unfit_at i) ↔ FirstPast n l i
    unfolding steps product
    too_large_exactly i = (to, from)
      where
        to : steps n l ≡ unfit_at i → FirstPast n l i
        to e =
            let t = by_walk l (unfit_at i) e in
            record {
              inside = t.inside;
              before = λ j p. sym (decides j (omega (arith, t.inside)) (λ k q. t.before k (omega arith))) ∙ t.before j p;
              past = sym (decides i (omega (arith, t.inside)) t.before) ∙ t.past;
            }

        from : FirstPast n l i → steps n l ≡ unfit_at i
        from f =
            let before = within_fit i (omega (arith, f.inside)) f.before in
            settled identity l i (steps n l) (by_walk l (steps n l) refl)
            (record { inside = f.inside; before = before; past = decides i (omega (arith, f.inside)) before ∙ f.past })

    -- and all its steps fit exactly where none passes it
    pub fits_exactly : (steps n l ≡ all_fit) ↔ ((j : ℕ) → j < length l → step_within n l j ≡ true)
    unfolding steps product
    fits_exactly = (to, from)
      where
        to : steps n l ≡ all_fit → (j : ℕ) → j < length l → step_within n l j ≡ true
        to e j p =
            let t = by_walk l all_fit e in
            sym (decides j (omega arith) (λ k q. t k (omega arith))) ∙ t j p

        from : ((j : ℕ) → j < length l → step_within n l j ≡ true) → steps n l ≡ all_fit
        from f = ap (steps n) (sym (take-length l)) ∙ prefix_fits l (length l) (omega arith) (within_fit (length l) (omega arith) f)
