-- The worked example, computed: the line of its first answer (SPECIFICATION 10.7). Assumes nothing.
use mathlib.Core.List.{[], ◌∷◌}
use mathlib.Core.Path.{◌≡◌, refl}
use Rattle.kinds.specs.Kinds.{kind_charge}
use Rattle.circuit.specs.Charge.{charge}
use Rattle.kinds.specs.Kinds.{kind_at}
use Rattle.ints.specs.Lists.{each}
use Rattle.circuits_text.specs.Writing.{glyph, decimal_in, decimal}
use Rattle.circuits_lines.specs.Lines.{spaced_codes, answer_line}

-- `2 0 12288 12288`
answer : answer_line (12288 ∷ 12288 ∷ [])
    ≡ 50 ∷ 32 ∷ 48 ∷ 32 ∷ 49 ∷ 50 ∷ 50 ∷ 56 ∷ 56 ∷ 32 ∷ 49 ∷ 50 ∷ 50 ∷ 56 ∷ 56 ∷ 10 ∷ []
unfolding answer_line spaced_codes each decimal decimal_in glyph charge kind_charge kind_at
answer = refl
