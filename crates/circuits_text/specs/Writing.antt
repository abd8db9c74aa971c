-- Numbers as bytes: decimal, signed decimal, hexadecimal, and what bytes put into places leave there. Assumes nothing.
use Rattle.std.specs.Prelude.{Bool, List, [], ◌∷◌, ◌++◌, ◌≡◌, ℕ, zero, suc, ◌+◌, ◌/◌, ◌%◌, ◌≤◌, ltb, ℤ, pos, negsuc, length, take, drop}
use Rattle.ints.specs.Lists.{pick}

-- the byte of a digit below 16: 0 to 9, then a to f
unfoldable pub glyph : ℕ → ℕ
glyph d = pick (ltb d 10) (48 + d) (87 + d)

-- no is 0, yes is 1
abbrev pub digit_of : Bool → ℕ
digit_of b = pick b 1 0

-- the decimal digits of a number below 10^m, the most significant first and no zero before them
unfoldable pub decimal_in : ℕ → ℕ → List ℕ
decimal_in zero n = []
decimal_in (suc m) n = pick (ltb n 10) (glyph n ∷ []) (decimal_in m (n / 10) ++ (glyph (n % 10) ∷ []))

-- the decimal digits of a number
unfoldable pub decimal : ℕ → List ℕ
decimal n = decimal_in (suc n) n

-- a signed number: its size, after a minus sign where it is below 0
unfoldable pub signed : ℤ → List ℕ
signed (pos n) = decimal n
signed (negsuc n) = 45 ∷ decimal (suc n)

-- the last k hexadecimal digits of a number, the most significant first
unfoldable pub hex_in : ℕ → ℕ → List ℕ
hex_in zero n = []
hex_in (suc k) n = hex_in k (n / 16) ++ (glyph (n % 16) ∷ [])

-- a 64-bit word as sixteen hexadecimal digits
abbrev pub hex : ℕ → List ℕ
hex = hex_in 16

-- new in the places from at on; the others keep what they held
abbrev pub bytes_at : ℕ → List ℕ → List ℕ → List ℕ
bytes_at at new old = take at old ++ (new ++ drop (at + length new) old)

-- new was put into the places from at on, and next is the place after it
pub record Put (at : ℕ) (new : List ℕ) (next : ℕ) (old now : List ℕ) : Type 0 where
  pub is : now ≡ bytes_at at new old
  pub after : next ≡ at + length new
  pub room : next ≤ length old
