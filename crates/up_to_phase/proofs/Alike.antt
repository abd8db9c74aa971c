-- Equality up to phase by places: one matrix turned by the difference of the phases, compared place by place. Assumes
-- nothing.
use mathlib.Core.Path.{◌≡◌, refl, sym, ap, ◌∙◌}
use mathlib.Core.Bool.{Bool, true, false}
use mathlib.Core.List.{List}
use Prim.Native.Nat.{ℕ, ◌+◌, ◌*◌, ◌^◌, ◌/◌, ◌%◌, ◌<◌}
use borrow.Author.Tests.{eq-eqb, ne_eqb}
use native.Mathlib.Omega.{arith}
use native.Mathlib.Nat.{add_comm}
use lib.IntN.{ℤ}
use lib.Dec.{eqb}
use Rattle.ints.proofs.Bools.{clash, iff, and_right, and_both}
use Rattle.cyclotomic.specs.Zomega.{Zω, turn, eqω}
use Rattle.cyclotomic.proofs.Turns.{turn_sum, turn_mod, turn_back}
use Rattle.cyclotomic.proofs.Order.{phase_below}
use Rattle.exact.specs.Matrix.{Exact}
use Rattle.exact.specs.Phase.{pivot, phase_of, phased, up_to_phase}
use Rattle.exact.proofs.Phases.{row_lt, col_lt, flat_lt, eqω_true, eq_eqω}
use Rattle.exact.proofs.Values.{entries_to, entries_from}
use Rattle.exact.specs.Places.{entry, held}
use Rattle.places.proofs.Placed.{read_at}
use Rattle.phases.proofs.Pivots.{phase_any}

-- the entries at one place, the first turned by a power
abbrev pub alike : List ℤ → List ℤ → ℕ → ℕ → Bool
alike l m t e = eqω (turn t (entry l e)) (entry m e)

-- the turn of one side by which the test of both sides is made
abbrev pub apart : ℕ → ℕ → ℕ
apart p q = (p + 7 * q) % 8

-- turned by p and by q two entries are the same exactly where one of them, turned by the difference, is the other
one_side : (p q : ℕ) (x y : Zω) → eqω (turn p x) (turn q y) ≡ eqω (turn (apart p q) x) y
one_side p q x y = iff _ _ to from
  where
    moved : turn (7 * q) (turn p x) ≡ turn (apart p q) x
    moved = turn_sum (7 * q) p x ∙ ap (λ (k : ℕ). turn (k % 8) x) (add_comm (7 * q) p)

    back : turn q (turn (apart p q) x) ≡ turn p x
    back =
        let e : (q + apart p q) % 8 ≡ p % 8 = omega arith in
        turn_sum q (apart p q) x ∙ ap (λ (k : ℕ). turn k x) e ∙ turn_mod p x

    to : eqω (turn p x) (turn q y) ≡ true → eqω (turn (apart p q) x) y ≡ true
    to h = eq_eqω _ _ (sym moved ∙ ap (turn (7 * q)) (eqω_true _ _ h) ∙ turn_back q y)

    from : eqω (turn (apart p q) x) y ≡ true → eqω (turn p x) (turn q y) ≡ true
    from h = eq_eqω _ _ (sym back ∙ ap (turn q) (eqω_true _ _ h))

-- a phase is below 8
pub phase_of_below : (n : ℕ) (x : Exact) → phase_of n x < 8
unfolding phase_of
phase_of_below n x = phase_below (pivot n x)

module _ (n j k : ℕ) (l m : List ℤ) where
  pub exponents_differ : (j ≡ k → ⊥) → up_to_phase n (held n j l) (held n k m) ≡ false
  unfolding up_to_phase
  exponents_differ h = rw (ne_eqb j k h)

  module _ (p q : ℕ) (s : p ≡ phase_of n (held n 0 l)) (t : q ≡ phase_of n (held n 0 m)) where
    -- the test of row r and column c is that of their place
    by_phases : (r c : ℕ) → eqω ((phased n (held n j l)).e r c) ((phased n (held n k m)).e r c) ≡ alike l m (apart p q) (r * 2 ^ n + c)
    by_phases r c = rw (phase_any n j 0 l, phase_any n k 0 m, ← s, ← t) (one_side p q _ _)

    pub places_alike : j ≡ k → ((e : ℕ) → e < 2 ^ n * 2 ^ n → alike l m (apart p q) e ≡ true) → up_to_phase n (held n j l) (held n k m) ≡ true
    unfolding up_to_phase
    places_alike same h =
        and_both (eqb j k) _ (eq-eqb j k same)
        (entries_from n _ (λ r c i o. by_phases r c ∙ h (r * 2 ^ n + c) (flat_lt n r c i o)))

    pub place_differs : (e : ℕ) → e < 2 ^ n * 2 ^ n → alike l m (apart p q) e ≡ false → up_to_phase n (held n j l) (held n k m) ≡ false
    unfolding up_to_phase
    place_differs e i h =
        iff _ false
        (λ y. clash (entries_to n _ (and_right (eqb j k) _ y) (e / 2 ^ n) (e % 2 ^ n) (row_lt n e i) (col_lt n e))
        (by_phases (e / 2 ^ n) (e % 2 ^ n) ∙ rw (read_at n l e, read_at n m e) h))
        (λ y. clash y refl)
