-- The worked example, computed in part: its first two lines, and the numbers of line one (SPECIFICATION 10.7). Assumes
-- nothing.
use mathlib.Core.List.{[], ◌∷◌}
use mathlib.Core.Path.{◌≡◌, refl}
use Rattle.ints.specs.Lists.{all}
use Rattle.tables.specs.Checks.{limits_of}
use Rattle.circuits_text.specs.Reading.{words, value_from, is_number, all_numbers, numbers}
use Rattle.circuits_input.specs.Input.{gives, ended, lines_of, line_one}

-- `1 8 10 24`, `1 1 8192`
two : lines_of (49 ∷ 32 ∷ 56 ∷ 32 ∷ 49 ∷ 48 ∷ 32 ∷ 50 ∷ 52 ∷ 10 ∷ 49 ∷ 32 ∷ 49 ∷ 32 ∷ 56 ∷ 49 ∷ 57 ∷ 50 ∷ 10 ∷ [])
    ≡ ended (49 ∷ 32 ∷ 56 ∷ 32 ∷ 49 ∷ 48 ∷ 32 ∷ 50 ∷ 52 ∷ []) ∷ ended (49 ∷ 32 ∷ 49 ∷ 32 ∷ 56 ∷ 49 ∷ 57 ∷ 50 ∷ []) ∷ []
unfolding lines_of
two = refl

first : line_one (ended (49 ∷ 32 ∷ 56 ∷ 32 ∷ 49 ∷ 48 ∷ 32 ∷ 50 ∷ 52 ∷ [])) ≡ gives (limits_of 1 8 10 24)
unfolding line_one all_numbers numbers words is_number all value_from
first = refl
