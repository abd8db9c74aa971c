-- What a table answers to a list, and to a later line of the input (SPECIFICATION 10.6). Assumes nothing.
use Rattle.std.specs.Prelude.{List, ℕ, ltb, ℤ, pos, replicate, Option, Result}
use Rattle.ints.specs.Lists.{pick}
use Rattle.exact.specs.Answers.{Answer}
use Rattle.exact.specs.Answers as e
use Rattle.walk.specs.Answers as a
use Rattle.tables.specs.Checks.{Arrays, coefficient_count}
use Rattle.tables.specs.Tables.{Table, query, synthesized}
use Rattle.refusal.specs.declared.Refusal.{Refusal}
use Rattle.murm_find.specs.Entries.{told_synthesized}
use Rattle.tables.specs.Lists.{listed}
use Rattle.circuits_input.specs.Input.{Read, gives, refused, InputLine, AskedList, question_of}

-- what a table answered, and what the list lent to it then holds
abbrev pub told : Result (Option ℕ) Refusal → List ℕ → a.Outcome
told answer list = a.outcome (told_synthesized answer) list

-- ---- a list

-- how many coefficients are lent for a list's matrix: as many as it has, and none for a width that is refused
abbrev pub lent_count : ℕ → ℕ
lent_count width = pick (ltb 5 width) 0 (coefficient_count width)

unfoldable pub lent_coefficients : ℕ → List ℤ
lent_coefficients width = replicate (lent_count width) (pos 0)

-- as many as the largest matrix has
unfoldable pub lent_most : List ℤ
lent_most = replicate 4096 (pos 0)

-- by the answer to the list, and its matrix: the table answers the matrix, and a list that is refused is told by its
-- own refusal
abbrev pub formed_reply : Table → Arrays → ℕ → List ℕ → Answer → List ℤ → a.Outcome
formed_reply t m width out (e.given k) coefficients = synthesized t m (query width k coefficients) out
formed_reply t m width out (e.refused number position) coefficients = a.outcome (a.refused number position) out

-- the reply, and what the lent list then holds
unfoldable pub list_reply : Table → Arrays → ℕ → List ℕ → List ℕ → a.Outcome
list_reply t m width codes out =
    formed_reply t m width out (listed width codes (lent_coefficients width)).answer (listed width codes (lent_coefficients width)).numbers

-- ---- a line

abbrev pub asked_reply : Table → Arrays → List ℕ → Read AskedList → a.Outcome
asked_reply t m out (gives l) = list_reply t m l.width l.codes out
asked_reply t m out (refused number position) = a.outcome (a.refused number position) out

unfoldable pub line_reply : Table → Arrays → InputLine → List ℕ → a.Outcome
line_reply t m line out = asked_reply t m out (question_of line)
