-- A matrix divided by √2, whole and up to an entry. Assumes nothing.
use Rattle.std.specs.Prelude.{◌≡◌, List, ℕ, ◌≤◌, ◌<◌, ℤ, length}
use Rattle.cyclotomic.specs.Zomega.{Zω, over_sqrt2}
use Rattle.exact.specs.Places.{entry}

abbrev pub divided_all : (ℕ → ℕ → Zω) → ℕ → ℕ → Zω
divided_all x r c = over_sqrt2 (x r c)

-- the first c entries were divided by √2; no other entry changed
pub record Divided (l l' : List ℤ) (c : ℕ) : Type 0 where
  pub long : length l' ≡ length l
  pub divided : (k : ℕ) → k < c → entry l' k ≡ over_sqrt2 (entry l k)
  pub other : (k : ℕ) → c ≤ k → entry l' k ≡ entry l k
