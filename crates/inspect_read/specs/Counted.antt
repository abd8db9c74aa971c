-- How many numbers a line has, how many coefficients a matrix that is asked, how many places are lent for a node's
-- list: none where the line is broken. Assumes nothing.
use Rattle.std.specs.Prelude.{ℕ, Option, Some, None}

abbrev pub read_count : Option ℕ → ℕ
read_count (Some n) = n
read_count None = 0

-- of a width, an exponent and a count
abbrev pub asked_count : Option (ℕ × ℕ × ℕ) → ℕ
asked_count (Some (width, k, n)) = n
asked_count None = 0

-- of a width, a node and a count of places
abbrev pub wanted_places : Option (ℕ × ℕ × ℕ) → ℕ
wanted_places (Some (width, node, places)) = places
wanted_places None = 0
