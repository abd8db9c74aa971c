-- What an input asks, by its bytes: its lines, the limits of line one, the list of a later line (SPECIFICATION 10.1 to
-- 10.4). Assumes nothing.
use Rattle.std.specs.Prelude.{Bool, ◌&&◌, List, [], ◌∷◌, ℕ, ◌+◌, eqb, leb, ltb, length, get_or, drop}
use Rattle.ints.specs.Lists.{pick}
use Rattle.tables.specs.Checks.{Limits, limits_of}
use Rattle.circuits_text.specs.Reading.{newline, words, all_numbers, numbers}

-- what a text gives; or it is refused, by a number and a position
pub data Read (A : Type 0) : Type 0 where
  gives : A → Read A
  refused : ℕ → ℕ → Read A

-- a line of another form is refused by 14 (SPECIFICATION 9.1)
abbrev pub broken : {A : Type 0} → Read A
broken = refused 14 0

-- ---- the lines of an input

-- a line that a newline ends, given without it; and what stands after the last newline
pub data InputLine : Type 0 where
  ended : List ℕ → InputLine
  cut : List ℕ → InputLine

-- a byte more at the start of the first line
abbrev pub longer_line : ℕ → List InputLine → List InputLine
longer_line b [] = cut (b ∷ []) ∷ []
longer_line b (ended l ∷ ls) = ended (b ∷ l) ∷ ls
longer_line b (cut l ∷ ls) = cut (b ∷ l) ∷ ls

unfoldable pub lines_of : List ℕ → List InputLine
lines_of [] = []
lines_of (b ∷ bs) = pick (eqb b newline) (ended [] ∷ lines_of bs) (longer_line b (lines_of bs))

-- what `by` makes of a line's numbers; a line without its newline or with a word that is no number is broken
abbrev pub read_line : {A : Type 0} → (List ℕ → Read A) → InputLine → Read A
read_line by (ended l) = pick (all_numbers (words l)) (by (numbers (words l))) broken
read_line by (cut l) = broken

-- ---- line one: four numbers, which are the limits Q, G and E and the basis B (SPECIFICATION 10.3)

abbrev pub limits_in : List ℕ → Limits
limits_in ns = limits_of (get_or ns 0 0) (get_or ns 1 0) (get_or ns 2 0) (get_or ns 3 0)

abbrev pub limits_by : List ℕ → Read Limits
limits_by ns = pick (eqb (length ns) 4) (gives (limits_in ns)) broken

unfoldable pub line_one : InputLine → Read Limits
line_one l = read_line limits_by l

-- ---- the input

-- a table of four limits, and then the later lines
pub record Wanted : Type 0 where
  pub limits : Limits
  pub later : List InputLine

abbrev pub wanted : Limits → List InputLine → Wanted
wanted l ls = record { limits = l; later = ls }

-- a line one that is refused ends the input there
abbrev pub with_later : List InputLine → Read Limits → Read Wanted
with_later ls (gives l) = gives (wanted l ls)
with_later ls (refused number position) = refused number position

-- an empty input is broken too
abbrev pub lines_input : List InputLine → Read Wanted
lines_input [] = broken
lines_input (l ∷ ls) = with_later ls (line_one l)

-- how many bytes an input has at most (SPECIFICATION 10.1)
abbrev pub input_most : ℕ
input_most = 16384

-- more are refused by 15, whatever they are
unfoldable pub input_of : List ℕ → Read Wanted
input_of bytes = pick (ltb input_most (length bytes)) (refused 15 0) (lines_input (lines_of bytes))

-- ---- a later line: width, count, codes

-- a list of codes at a width
pub record AskedList : Type 0 where
  pub width : ℕ
  pub codes : List ℕ

abbrev pub asked_list : ℕ → List ℕ → AskedList
asked_list w l = record { width = w; codes = l }

-- the count is at most 256, and that many codes follow it (SPECIFICATION 10.4)
abbrev pub is_query : List ℕ → Bool
is_query ns = leb 2 (length ns) && (leb (get_or ns 1 0) 256 && eqb (length ns) (get_or ns 1 0 + 2))

abbrev pub question_by : List ℕ → Read AskedList
question_by ns = pick (is_query ns) (gives (asked_list (get_or ns 0 0) (drop 2 ns))) broken

unfoldable pub question_of : InputLine → Read AskedList
question_of l = read_line question_by l
