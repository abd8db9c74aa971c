-- A number as a set of bits. Assumes nothing.
use Rattle.std.specs.Prelude.{Bool, ℕ, ◌^◌, ◌/◌, ◌%◌, eqb}

-- the digit of r at 2^k
abbrev pub digit : ℕ → ℕ → ℕ
digit r k = r / 2 ^ k % 2

-- bit k of r is 1
unfoldable pub bit : ℕ → ℕ → Bool
bit r k = eqb (digit r k) 1
