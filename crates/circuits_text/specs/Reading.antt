-- Lines of numbers, as bytes, by the tests that the code makes: what a word, a number and a line's numbers are
-- (SPECIFICATION 10.2). Assumes nothing.
use Rattle.std.specs.Prelude.{Bool, true, false, ◌&&◌, List, [], ◌∷◌, ◌≡◌, ℕ, ◌+◌, ◌-◌, ◌*◌, eqb, leb, length, take}
use Rattle.std.proofs.Math.Option.{Option as Maybe, none, some}
use Rattle.std.specs.Prelude.{Option, Some, None}
use Rattle.ints.specs.Lists.{pick, over, all}

-- the bytes between words, and after a line
abbrev pub space : ℕ
space = 32

abbrev pub newline : ℕ
newline = 10

-- the bytes before the first c; all of them where there is none
unfoldable pub before : ℕ → List ℕ → List ℕ
before c [] = []
before c (b ∷ bs) = pick (eqb b c) [] (b ∷ before c bs)

-- two lists of bytes are the same
unfoldable pub same_bytes : List ℕ → List ℕ → Bool
same_bytes [] [] = true
same_bytes [] (y ∷ ys) = false
same_bytes (x ∷ xs) [] = false
same_bytes (x ∷ xs) (y ∷ ys) = eqb x y && same_bytes xs ys

-- a byte more at the start of the first word
abbrev pub longer : ℕ → List (List ℕ) → List (List ℕ)
longer b [] = (b ∷ []) ∷ []
longer b (w ∷ ws) = (b ∷ w) ∷ ws

-- the words of a line: what stands before, between and after its spaces. A second space, and one at either end, makes
-- an empty word, which is no number
unfoldable pub words : List ℕ → List (List ℕ)
words [] = [] ∷ []
words (b ∷ bs) = pick (eqb b space) ([] ∷ words bs) (longer b (words bs))

-- the bytes of 0 to 9
abbrev pub is_digit : ℕ → Bool
is_digit b = leb 48 b && leb b 57

-- what digits write after a number v
unfoldable pub value_from : ℕ → List ℕ → ℕ
value_from v [] = v
value_from v (b ∷ bs) = value_from (v * 10 + (b - 48)) bs

-- what digits write
abbrev pub value : List ℕ → ℕ
value = value_from 0

-- a word that is a number: it has one to ten bytes, all of them digits, and its value is below 2^32 (SPECIFICATION
-- 10.2)
unfoldable pub is_number : List ℕ → Bool
is_number w = leb 1 (length w) && (leb (length w) 10 && (all is_digit w && leb (value w) 4294967295))

-- what a word says: its number; none where it is anything else
unfoldable pub word_of : List ℕ → Maybe ℕ
word_of w = pick (is_number w) (some (value w)) none

-- what the code answers, as one
abbrev pub told_word : Option ℕ → Maybe ℕ
told_word (Some n) = some n
told_word None = none

-- every word is a number
unfoldable pub all_numbers : List (List ℕ) → Bool
all_numbers [] = true
all_numbers (w ∷ ws) = is_number w && all_numbers ws

-- the numbers that words write, up to the first word that is none
unfoldable pub numbers : List (List ℕ) → List ℕ
numbers [] = []
numbers (w ∷ ws) = pick (is_number w) (value w ∷ numbers ws) []

-- how many numbers a line is, for a list with that many places: as many as it has words; none where a word is no
-- number, or a place lacks
unfoldable pub line_of : ℕ → List (List ℕ) → Maybe ℕ
line_of places ws = pick (all_numbers ws && leb (length ws) places) (some (length ws)) none

-- what the code answers, as one
abbrev pub told_line : Option ℕ → Maybe ℕ
told_line (Some n) = some n
told_line None = none

-- a line's bytes were read into a list: it holds the numbers up to the first word that is none, as far as it has places
pub record ReadInto (bytes old now : List ℕ) (line : Maybe ℕ) : Type 0 where
  pub is : line ≡ line_of (length old) (words bytes)
  pub holds : now ≡ over (take (length old) (numbers (words bytes))) old
