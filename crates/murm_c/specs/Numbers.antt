-- What the C functions return, one 64-bit number, and the record that they are given as numbers (SPECIFICATION, chapter
-- 14). Assumes nothing.
use Rattle.std.specs.Prelude.{false, [], ◌∷◌, ℕ, ◌+◌, ◌*◌, ltb}
use Rattle.ints.specs.Lists.{pick}
use Rattle.exact.specs.Answers.{Answer, given, refused}
use Rattle.walk.specs.Answers.{Reply}
use Rattle.walk.specs.Answers as a
use Rattle.tables.specs.Checks.{Limits}
use Rattle.tables.specs.Tables.{Width, Table}

-- a position; a larger one is given as 4294967295
abbrev pub capped : ℕ → ℕ
capped p = pick (ltb 4294967295 p) 4294967295 p

-- refusal × 2^32 + position
abbrev pub refusal_number : ℕ → ℕ → ℕ
refusal_number r p = r * 4294967296 + capped p

-- a list: the exponent, or why it is refused
abbrev pub list_number : Answer → ℕ
list_number (given k) = k
list_number (refused r p) = refusal_number r p

-- an answer: the gate count, 4294967295 for none, or why it is refused
abbrev pub reply_number : Reply → ℕ
reply_number (a.given m) = m
reply_number a.none = 4294967295
reply_number (a.refused r p) = refusal_number r p

-- a width's row by its count alone: the depth 0, not saturated
abbrev pub counted : ℕ → Width
counted m = record { count = m; depth = 0; saturated = false }

-- the record of the limits and five counts
abbrev pub counts_table : Limits → ℕ → ℕ → ℕ → ℕ → ℕ → Table
counts_table l c1 c2 c3 c4 c5 = record { limits = l; widths = counted c1 ∷ counted c2 ∷ counted c3 ∷ counted c4 ∷ counted c5 ∷ [] }
