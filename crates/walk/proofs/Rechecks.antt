-- The walk's recheck at a width, of a list that is newest gate first: it passes exactly where every step fits and the
-- product is equal up to phase to the matrix asked (SPECIFICATION 7.6). Assumes nothing.
use mathlib.Core.Path.{◌≡◌, refl, sym, ap, ◌∙◌}
use mathlib.Core.Logic.{◌↔◌}
use mathlib.Core.Bool.{Bool, true, false, ◌&&◌}
use mathlib.Core.List.{List, [], ◌∷◌, ◌++◌, reverse, reverse-cons, reverse-reverse}
use Prim.Native.Nat.{ℕ, ◌≤◌}
use Rattle.ints.specs.Lists.{pick}
use Rattle.ints.proofs.Bools.{clash, both_true, and_both}
use Rattle.exact.specs.Matrix.{Exact, identity}
use Rattle.exact.specs.Rows.{act, gate_of}
use Rattle.exact.specs.Lists.{after, product}
use Rattle.exact.specs.Fits.{step_fits, Steps, all_fit, unfit_at, next, steps_from, steps}
use Rattle.exact.specs.Phase.{up_to_phase}
use Rattle.walk.specs.Walk.{prod}
use Rattle.walk.proofs.Nodewise.{steps_fit, recheck}
use Rattle.walk.specs.Modes.{Mode}
use Rattle.walk.specs.AtWidth.{at_width}
use Rattle.walk.proofs.Exactly.{product_is, product_of}

-- the answer of `steps` as a test
abbrev ok : Steps → Bool
ok all_fit = true
ok (unfit_at i) = false

ok_next : (s : Steps) → ok (next s) ≡ ok s
ok_next all_fit = refl
ok_next (unfit_at i) = refl

ok_true : (s : Steps) → ok s ≡ true → s ≡ all_fit
ok_true all_fit e = refl
ok_true (unfit_at i) e = clash e refl

module _ (n : ℕ) where
  -- one more gate at the end
  ok_snoc : (x : Exact) (l : List ℕ) (g : ℕ) → ok (steps_from n x (l ++ (g ∷ []))) ≡ (ok (steps_from n x l) && step_fits n (gate_of n g) (after n x l))
  ok_snoc x [] g = by (step_fits n (gate_of n g) x)
    where
      by : (t : Bool) → ok (pick t all_fit (unfit_at 0)) ≡ t
      by true = refl
      by false = refl
  ok_snoc x (h ∷ l) g = by (step_fits n (gate_of n h) x) (ok_snoc (act n (gate_of n h) x) l g)
    where
      all : Steps
      all = steps_from n (act n (gate_of n h) x) (l ++ (g ∷ []))

      part : Steps
      part = steps_from n (act n (gate_of n h) x) l

      by : (t : Bool) → ok all ≡ (ok part && step_fits n (gate_of n g) (after n (act n (gate_of n h) x) l))
          → ok (pick t (next all) (unfit_at 0)) ≡ (ok (pick t (next part) (unfit_at 0)) && step_fits n (gate_of n g) (after n (act n (gate_of n h) x) l))
      by true e = ok_next all ∙ e ∙ ap (λ (t : Bool). t && step_fits n (gate_of n g) (after n (act n (gate_of n h) x) l)) (sym (ok_next part))
      by false e = refl

  module _ (mode : Mode) (basis : ℕ) (small : n ≤ 5) where
    fit_steps : (l : List ℕ) → steps_fit (at_width mode n basis) l ≡ ok (steps n (reverse l))
    unfolding steps product
    fit_steps [] = refl
    fit_steps (g ∷ l) =
        (λ i. fit_steps l i && step_fits n (gate_of n g) (sym (product_is mode n basis small l) i))
        ∙ sym (ok_snoc identity (reverse l) g) ∙ ap (λ (z : List ℕ). ok (steps_from n identity z)) (sym (reverse-cons g l))

    -- every step of a list that is newest gate first fits, and so of the list as callers have it
    pub steps_fit_lem : (l : List ℕ) → steps_fit (at_width mode n basis) l ≡ true → steps n (reverse l) ≡ all_fit
    steps_fit_lem l e = ok_true (steps n (reverse l)) (sym (fit_steps l) ∙ e)

    -- of a list as callers have it, oldest gate first
    pub recheck_exactly : (l : List ℕ) (x : Exact)
        → (recheck (at_width mode n basis) (reverse l) x ≡ true) ↔ ((steps n l ≡ all_fit) × (up_to_phase n (product n l) x ≡ true))
    unfolding recheck
    recheck_exactly l x = (to, from)
      where
        fits_are : steps_fit (at_width mode n basis) (reverse l) ≡ ok (steps n l)
        fits_are = fit_steps (reverse l) ∙ ap (λ (z : List ℕ). ok (steps n z)) (reverse-reverse l)

        test_is : up_to_phase n (product n l) x ≡ up_to_phase n (prod (at_width mode n basis) (reverse l)) x
        test_is = ap (λ (y : Exact). up_to_phase n y x) (product_of mode n basis small l)

        fit : Bool
        fit = steps_fit (at_width mode n basis) (reverse l)

        equal : Bool
        equal = up_to_phase n (prod (at_width mode n basis) (reverse l)) x

        to : fit && equal ≡ true → (steps n l ≡ all_fit) × (up_to_phase n (product n l) x ≡ true)
        to e = let b = both_true fit equal e in (ok_true (steps n l) (sym fits_are ∙ b.0), test_is ∙ b.1)

        from : (steps n l ≡ all_fit) × (up_to_phase n (product n l) x ≡ true) → fit && equal ≡ true
        from p = and_both fit equal (fits_are ∙ ap ok p.0) (sym test_is ∙ p.1)
