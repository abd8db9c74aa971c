-- A table's limits and record as numbers, and what a build comes to as numbers. Assumes nothing.
use Rattle.std.specs.Prelude.{Bool, ◌||◌, List, [], ◌∷◌, ◌++◌, ℕ, ltb, length, get_or}
use Rattle.ints.specs.Lists.{pick, over}
use Rattle.walk.specs.Modes.{Mode}
use Rattle.tables.specs.Checks.{Limits, limits_of, Arrays}
use Rattle.tables.specs.Tables.{Width, Table, BuildReply, table, refusal, Left, build_of}
use Rattle.circuits_text.specs.Writing.{digit_of}

-- ---- the limits as four numbers

abbrev pub limits_of_numbers : List ℕ → Limits
limits_of_numbers l = limits_of (get_or l 0 0) (get_or l 1 0) (get_or l 2 0) (get_or l 3 0)

-- ---- a record as 15 numbers: count, depth and saturated (1 or 0) of each width from 1 to 5

abbrev pub width_numbers : Width → List ℕ
width_numbers w = w.count ∷ w.depth ∷ digit_of w.saturated ∷ []

abbrev pub widths_numbers : List Width → List ℕ
widths_numbers [] = []
widths_numbers (w ∷ ws) = width_numbers w ++ widths_numbers ws

abbrev pub numbers_of : Table → List ℕ
numbers_of t = widths_numbers t.widths

-- ---- a build

-- 0, or the number of the refusal
abbrev pub build_number : BuildReply → ℕ
build_number (table t) = 0
build_number (refusal r p) = r

-- what the lent record holds: the table's on its first places, and all as they were where the build is refused
abbrev pub recorded : BuildReply → List ℕ → List ℕ
recorded (table t) numbers = over (numbers_of t) numbers
recorded (refusal r p) numbers = numbers

-- the number returned, the three arrays and the lent record after it
pub record BuiltNumbers : Type 0 where
  pub number : ℕ
  pub arrays : Arrays
  pub numbers : List ℕ

abbrev pub built_as : ℕ → Arrays → List ℕ → BuiltNumbers
built_as r a numbers = record { number = r; arrays = a; numbers = numbers }

abbrev pub built_by : Left → List ℕ → BuiltNumbers
built_by o numbers = built_as (build_number o.reply) o.arrays (recorded o.reply numbers)

-- less than four limits, or a record of less than 15 places
abbrev pub too_few : List ℕ → List ℕ → Bool
too_few limits numbers = ltb (length limits) 4 || ltb (length numbers) 15

-- are told by 99
unfoldable pub bench_built : Mode → List ℕ → Arrays → List ℕ → BuiltNumbers
bench_built mode limits a numbers = pick (too_few limits numbers) (built_as 99 a numbers) (built_by (build_of mode (limits_of_numbers limits) a) numbers)
