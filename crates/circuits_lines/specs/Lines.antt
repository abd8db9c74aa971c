-- The lines that the program `circuits` prints, as bytes. Each ends in a newline (SPECIFICATION 10.5, 10.6). Assumes
-- nothing.
use Rattle.std.specs.Prelude.{Bool, List, [], ◌∷◌, ◌++◌, ℕ, length, get_or}
use Rattle.ints.specs.Lists.{range, each}
use Rattle.circuit.specs.Charge.{charge}
use Rattle.circuits_text.specs.Reading.{space, newline}
use Rattle.circuits_text.specs.Writing.{digit_of, decimal}

-- a number, and the byte after it
abbrev pub number_then : ℕ → ℕ → List ℕ
number_then n after = decimal n ++ (after ∷ [])

-- the bytes of `refused` and of `table`, each with a space after it
abbrev pub refused_word : List ℕ
refused_word = 114 ∷ 101 ∷ 102 ∷ 117 ∷ 115 ∷ 101 ∷ 100 ∷ space ∷ []

abbrev pub table_word : List ℕ
table_word = 116 ∷ 97 ∷ 98 ∷ 108 ∷ 101 ∷ space ∷ []

-- a refusal: `refused`, its number, its position (SPECIFICATION 9.1)
unfoldable pub refused_line : ℕ → ℕ → List ℕ
refused_line number position = (refused_word ++ number_then number space) ++ number_then position newline

-- the bytes of `none`, where the table has no list for a query
unfoldable pub none_line : List ℕ
none_line = 110 ∷ 111 ∷ 110 ∷ 101 ∷ newline ∷ []

-- the first line of a width: `table`, the width, how many nodes it has, its completed depth, and 1 where it is
-- saturated, otherwise 0 (SPECIFICATION 10.5)
unfoldable pub table_line : ℕ → ℕ → ℕ → Bool → List ℕ
table_line width entries depth saturated =
    (((table_word ++ number_then width space) ++ number_then entries space) ++ number_then depth space) ++ number_then (digit_of saturated) newline

-- a node: its number, its parent's, its code (SPECIFICATION 10.5)
unfoldable pub node_line : ℕ → ℕ → ℕ → List ℕ
node_line node parent code = (number_then node space ++ number_then parent space) ++ number_then code newline

-- the nodes of a width in order, as many as it has; `parents` and `codes` begin with the width's own places
unfoldable pub node_lines : List ℕ → List ℕ → ℕ → List ℕ
node_lines parents codes count = each (range 0 count) (λ i. node_line i (get_or parents i 0) (get_or codes i 0))

-- a code after a space
abbrev pub spaced_code : ℕ → List ℕ
spaced_code code = (space ∷ []) ++ decimal code

unfoldable pub spaced_codes : List ℕ → List ℕ
spaced_codes codes = each codes spaced_code

-- a list that is answered: how many gates it has, its T charge, then its codes, the oldest first (SPECIFICATION 2.9,
-- 10.6)
unfoldable pub answer_line : List ℕ → List ℕ
answer_line codes = ((number_then (length codes) space ++ decimal (charge codes)) ++ spaced_codes codes) ++ (newline ∷ [])
