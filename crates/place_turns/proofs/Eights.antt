-- Turns by places: the place of a negative, and what one turn of four places does to the entry that they give. Assumes
-- nothing.
use mathlib.Core.Path.{◌≡◌, refl, sym, ap, ◌∙◌}
use Prim.Native.Nat.{ℕ, zero, suc, ◌+◌, ◌-◌, ◌<◌, ◌≤◌}
use native.Mathlib.Omega.{arith}
use lib.IntN.{neg_ℤ, neg_ℤ-neg_ℤ}
use Rattle.place_turns.specs.declared.TurnPlaces.{TurnPlaces}
use Rattle.cyclotomic.specs.Zomega.{Zω, turn, eight_of}
use Rattle.place_turns.specs.Eights.{coefficient_at, OfEight, Opposite, OneTurn, PlacesOf}
use Rattle.cyclotomic.proofs.Each.{each}
use Rattle.cyclotomic.proofs.Turns.{turn_turn, turn_none}

-- a coefficient's negative is four places on
pub opposite_on : (i : ℕ) → i < 4 → Opposite i (i + 4)
opposite_on i h = record { below = omega arith; negative = by i h }
  where
    by : (i : ℕ) → i < 4 → (x : Zω) → coefficient_at (eight_of x) (i + 4) ≡ neg_ℤ (coefficient_at (eight_of x) i)
    by zero h x = refl
    by (suc zero) h x = refl
    by (suc (suc zero)) h x = refl
    by (suc (suc (suc zero))) h x = refl
    by (suc (suc (suc (suc i)))) h x = absurd (omega arith)

-- and a negative's is four places back: two negations are none
pub opposite_back : (i : ℕ) → 4 ≤ i → i < 8 → Opposite i (i - 4)
opposite_back i g h = record { below = omega arith; negative = λ x. sym (neg_ℤ-neg_ℤ _) ∙ ap neg_ℤ (sym (own x)) }
  where
    own : (x : Zω) → coefficient_at (eight_of x) i ≡ neg_ℤ (coefficient_at (eight_of x) (i - 4))
    own x = let e : i - 4 + 4 ≡ i = omega arith in rw e at ((opposite_on (i - 4) (omega arith)).negative x)

-- one turn of four places: the last place's negative comes to the front
pub places_turn : (s : TurnPlaces) (o : ℕ) → OfEight s → Opposite s.d o → OneTurn s (record { a = o; b = s.a; c = s.b; d = s.c })
unfolding turn
places_turn s o h g = record {
  inside = record { a_below = g.below; b_below = h.a_below; c_below = h.b_below; d_below = h.c_below };
  turns = λ x. each (g.negative x) refl refl refl;
}

-- the entry's own places
pub places_none : PlacesOf 0 (record { a = 0; b = 1; c = 2; d = 3 })
places_none = record { inside = record { a_below = omega arith; b_below = omega arith; c_below = omega arith; d_below = omega arith }; turns = λ x. sym (turn_none x) }

-- one turn more
pub places_more : {p : ℕ} {s t : TurnPlaces} → PlacesOf p s → OneTurn s t → PlacesOf (p + 1) t
places_more {p} h g = record {
  inside = g.inside;
  turns = λ x. g.turns x ∙ ap (turn 1) (h.turns x) ∙ turn_turn 1 p x ∙ (let q : 1 + p ≡ p + 1 = omega arith in ap (λ (j : ℕ). turn j x) q);
}
