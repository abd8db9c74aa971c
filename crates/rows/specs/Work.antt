-- What the loops over places do to them. Assumes nothing.
use Rattle.std.specs.Prelude.{◌≡◌, List, ℕ, ◌+◌, ◌^◌, ◌<◌, ℤ, pos, length, get_or}
use Rattle.cyclotomic.specs.Zomega.{Zω, turn, Small}
use Rattle.exact.specs.Places.{entry, read}
use Rattle.places.specs.Places.{Kept}

-- the place j
abbrev pub at : List ℤ → ℕ → ℤ
at l j = get_or l j (pos 0)

-- c places from p on and c places from q on were exchanged; no other place changed
pub record Exchanged (l l' : List ℤ) (p q c : ℕ) : Type 0 where
  pub long : length l' ≡ length l
  pub low : (i : ℕ) → i < c → at l' (p + i) ≡ at l (q + i)
  pub high : (i : ℕ) → i < c → at l' (q + i) ≡ at l (p + i)
  pub other : (j : ℕ) → ((i : ℕ) → i < c → j ≡ p + i → ⊥) → ((i : ℕ) → i < c → j ≡ q + i → ⊥) → at l' j ≡ at l j

-- the rows with key r became those of y; no other row changed, and no place past the matrix
pub record Worked (n : ℕ) (key : ℕ → ℕ) (r : ℕ) (y : ℕ → ℕ → Zω) (l l' : List ℤ) : Type 0 where
  pub long : length l' ≡ length l
  pub worked : (s c : ℕ) → s < 2 ^ n → c < 2 ^ n → key s ≡ r → read n l' s c ≡ y s c
  pub other : (s c : ℕ) → s < 2 ^ n → c < 2 ^ n → (key s ≡ r → ⊥) → read n l' s c ≡ read n l s c
  pub kept : Kept n l l'

-- c entries from e on were turned by omega^power; no other entry changed
pub record Turned (power : ℕ) (l l' : List ℤ) (e c : ℕ) : Type 0 where
  pub long : length l' ≡ length l
  pub turned : (k : ℕ) → k < c → entry l' (e + k) ≡ turn power (entry l (e + k))
  pub other : (k : ℕ) → ((i : ℕ) → i < c → k ≡ e + i → ⊥) → entry l' k ≡ entry l k

-- c entries from e on are within the limit
pub record SmallFrom (l : List ℤ) (e c : ℕ) : Type 0 where
  pub small : (k : ℕ) → k < c → Small (entry l (e + k))
