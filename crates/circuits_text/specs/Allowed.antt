-- The lines of numbers that are allowed, said of the bytes alone, for somebody who writes input: no splitting, no tests
-- (SPECIFICATION 10.2). That the parser takes exactly these lines is proved in proofs/Accepts. Assumes nothing.
use Rattle.std.specs.Prelude.{List, [], ◌∷◌, ◌++◌, ℕ, ◌+◌, ◌*◌, ◌≤◌, length}

-- the bytes are decimal digits, 48 to 57, and n is what they say: a digit d written behind n makes n × 10 + d
pub data Digits : ℕ → List ℕ → Type 0 where
  no_digit : Digits 0 []
  behind : {n : ℕ} {w : List ℕ} (d : ℕ) → d ≤ 9 → Digits n w → Digits (n * 10 + d) (w ++ ((48 + d) ∷ []))

-- a word that is the number n: one to ten digits whose value is below 2^32 (SPECIFICATION 10.2)
pub record Spelled (n : ℕ) (word : List ℕ) : Type 0 where
  pub digits : Digits n word
  pub some : 1 ≤ length word
  pub few : length word ≤ 10
  pub small : n ≤ 4294967295

-- a line, given without its newline, and its numbers: one or more words, and a single space, byte 32, from each to the
-- next (SPECIFICATION 10.2)
pub data AllowedLine : List ℕ → List ℕ → Type 0 where
  alone : {n : ℕ} {w : List ℕ} → Spelled n w → AllowedLine (n ∷ []) w
  spaced : {n : ℕ} {ns w l : List ℕ} → Spelled n w → AllowedLine ns l → AllowedLine (n ∷ ns) (w ++ (32 ∷ l))
