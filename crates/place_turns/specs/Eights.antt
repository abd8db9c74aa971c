-- Turns of an entry by places: its four coefficients and their negatives are eight numbers, and every turn of the entry
-- is four of these. Which four is the same for all entries. Assumes nothing.
use Rattle.std.specs.Prelude.{◌≡◌, List, ℕ, ◌<◌, ℤ, pos, neg_ℤ, get_or}
use Rattle.place_turns.specs.declared.TurnPlaces.{TurnPlaces}
use Rattle.cyclotomic.specs.Zomega.{Zω, mk, turn, eight_of}

-- the number at a place
abbrev pub coefficient_at : List ℤ → ℕ → ℤ
coefficient_at l i = get_or l i (pos 0)

-- the entry that four places give
abbrev pub read_at : List ℤ → TurnPlaces → Zω
read_at l t = mk (coefficient_at l t.a) (coefficient_at l t.b) (coefficient_at l t.c) (coefficient_at l t.d)

-- four places of the eight
pub record OfEight (t : TurnPlaces) : Type 0 where
  pub a_below : t.a < 8
  pub b_below : t.b < 8
  pub c_below : t.c < 8
  pub d_below : t.d < 8

-- the place j has the negative of what the place i has, in every entry's eight
pub record Opposite (i j : ℕ) : Type 0 where
  pub below : j < 8
  pub negative : (x : Zω) → coefficient_at (eight_of x) j ≡ neg_ℤ (coefficient_at (eight_of x) i)

-- in every entry's eight the places t give omega times what the places s give
pub record OneTurn (s t : TurnPlaces) : Type 0 where
  pub inside : OfEight t
  pub turns : (x : Zω) → read_at (eight_of x) t ≡ turn 1 (read_at (eight_of x) s)

-- in every entry's eight the places t give omega to the p, times the entry
pub record PlacesOf (p : ℕ) (t : TurnPlaces) : Type 0 where
  pub inside : OfEight t
  pub turns : (x : Zω) → read_at (eight_of x) t ≡ turn p x
