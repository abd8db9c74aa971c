-- That the places hold an exact matrix: a given one, one of 0s, or one that a step may start from. Assumes nothing.
use Rattle.std.specs.Prelude.{◌≡◌, List, ℕ, ◌*◌, ◌^◌, ◌<◌, ℤ, pos, length, get_or}
use Rattle.exact.specs.Matrix.{Exact, Lowest}
use Rattle.exact.proofs.Words.{Equal, AllSmall}
use Rattle.exact.specs.Places.{read, held}
use Rattle.places.specs.Places.{places}

-- the places hold the matrix x of width n, with exponent k and coefficients within the limit
pub record Holds (n k : ℕ) (l : List ℤ) (x : Exact) : Type 0 where
  pub long : length l ≡ places
  pub equal : Equal n (held n k l) x
  pub small : AllSmall n (read n l)

-- every coefficient of the matrix of width n in the places is 0
pub record AllZero (n : ℕ) (l : List ℤ) : Type 0 where
  pub long : length l ≡ places
  pub zero : (j : ℕ) → j < 4 * (2 ^ n * 2 ^ n) → get_or l j (pos 0) ≡ pos 0

-- the places hold some matrix of width n in lowest denominator, with exponent k and coefficients within the limit
pub record Ready (n k : ℕ) (l : List ℤ) : Type 0 where
  pub long : length l ≡ places
  pub small : AllSmall n (read n l)
  pub lowest : Lowest n (held n k l)
