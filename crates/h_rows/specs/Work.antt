-- A pair of rows that fits, a pair that is worked, and what H or Ch leaves. Assumes nothing.
use Rattle.std.specs.Prelude.{◌≡◌, Bool, true, false, List, ℕ, ◌*◌, ◌^◌, ℤ, length}
use Rattle.std.specs.Int.Bits.{bit_or}
use Rattle.cyclotomic.specs.Zomega.{Zω}
use Rattle.exact.proofs.Words.{AllSmall}
use Rattle.exact.specs.Places.{read}
use Rattle.places.specs.Places.{places, Same, Kept}
use Rattle.rows.specs.Rows.{has}
use Rattle.h_entries.specs.Sums.{Summed, SumsFit}

-- where row r lacks the bit: what comes of it and of the row that has it besides is within the limit
pub record PairFits (n control bit : ℕ) (l : List ℤ) (r : ℕ) : Type 0 where
  pub pair : has r bit ≡ false → SumsFit (has r control) l (r * 2 ^ n) (bit_or r bit * 2 ^ n) (2 ^ n)

-- where row r lacks the bit: it and the row that has it besides became what comes of them; otherwise no place changed
pub record PairSummed (n control bit : ℕ) (l l' : List ℤ) (r : ℕ) : Type 0 where
  pub pair : has r bit ≡ false → Summed (has r control) l l' (r * 2 ^ n) (bit_or r bit * 2 ^ n) (2 ^ n)
  pub alone : has r bit ≡ true → l' ≡ l

-- what H or Ch leaves, where its exact result is x: all of x, which fits, or, where x does not fit, all places as they
-- were; the places past the matrix in both cases
pub record HDone (n : ℕ) (x : ℕ → ℕ → Zω) (l l' : List ℤ) (ok : Bool) : Type 0 where
  pub long : length l' ≡ places
  pub done : ok ≡ true → Same n (read n l') x × AllSmall n x
  pub refused : ok ≡ false → (l' ≡ l) × (AllSmall n x → ⊥)
  pub kept : Kept n l l'
