-- What the program `circuits` prints, for every input (SPECIFICATION 10.3 to 10.6, 10.10). Assumes nothing.
use Rattle.std.specs.Prelude.{List, ℕ, ltb, length, replicate, Option, Some, None}
use Rattle.std.proofs.Math.Option.{Option as Maybe, none, some}
use Rattle.ints.specs.Lists.{pick, over}
use Rattle.walk.specs.Modes.{by_print}
use Rattle.tables.specs.Checks.{Limits, Arrays, arrays}
use Rattle.tables.specs.Tables.{build_of}
use Rattle.circuits_lines.specs.Lines.{refused_line}
use Rattle.circuits_input.specs.Input.{Read, gives, refused, InputLine, Wanted, input_of}
use Rattle.circuits_built.specs.Built.{reply_then, room_for}

-- a table is built in the lent arrays
unfoldable pub built_text : Arrays → List InputLine → Limits → List ℕ
built_text a ls l = reply_then (build_of by_print l a).reply (build_of by_print l a).arrays ls

-- an input that is refused prints its refusal alone
abbrev pub input_text : Arrays → Read Wanted → List ℕ
input_text a (gives w) = built_text a w.later w.limits
input_text a (refused number position) = refused_line number position

-- what the lent arrays then hold
abbrev pub input_arrays : Arrays → Read Wanted → Arrays
input_arrays a (gives w) = (build_of by_print w.limits a).arrays
input_arrays a (refused number position) = a

-- what is printed with these arrays lent
unfoldable pub output_with : Arrays → List ℕ → List ℕ
output_with a input = input_text a (input_of input)

unfoldable pub arrays_after : Arrays → List ℕ → Arrays
arrays_after a input = input_arrays a (input_of input)

-- the program lends arrays of 2,048 places each, so that a table that needs more is refused by 5 (SPECIFICATION 10.5)
unfoldable pub lent_places : List ℕ
lent_places = replicate 2048 0

abbrev pub lent_arrays : Arrays
lent_arrays = arrays lent_places lent_places lent_places

-- the program's output
unfoldable pub output : List ℕ → List ℕ
output input = output_with lent_arrays input

-- ---- the function that makes the output

-- how many bytes the text has; none where the lent bytes are too few
abbrev pub told_printed : Option ℕ → Maybe ℕ
told_printed (Some n) = some n
told_printed None = none

-- what it answers, and what the lent bytes and arrays then hold
pub record ProgramRun : Type 0 where
  pub printed : Maybe ℕ
  pub out : List ℕ
  pub arrays : Arrays

abbrev pub run : Maybe ℕ → List ℕ → Arrays → ProgramRun
run p out a = record { printed = p; out = out; arrays = a }

-- the text is in the first bytes; later ones keep what they held
abbrev pub text_run : List ℕ → List ℕ → Arrays → ProgramRun
text_run text old a = run (some (length text)) (over text old) a

-- bytes that are too few are refused, and nothing is changed
unfoldable pub program_of : List ℕ → Arrays → List ℕ → ProgramRun
program_of input a old =
    pick (ltb (length old) (room_for (length a.parents))) (run none old a) (text_run (output_with a input) old (arrays_after a input))
