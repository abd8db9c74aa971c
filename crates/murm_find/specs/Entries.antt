-- The answer to a query, as the definitions have it: the gate count, none, or the refusal's number and position
-- (SPECIFICATION 12.8). Assumes nothing.
use Rattle.std.specs.Prelude.{List, ℕ, Option, Some, None, Result, Ok, Err}
use Rattle.ints.specs.Lists.{pick}
use Rattle.walk.specs.Answers.{Reply}
use Rattle.walk.specs.Answers as a
use Rattle.tables.specs.Checks.{Arrays}
use Rattle.tables.specs.Tables.{Table, Query, list_row}
use Rattle.tables.proofs.Asked.{part_asked}
use Rattle.refusal.specs.declared.Refusal.{Refusal}
use Rattle.refusal.specs.Told.{number_of, position_of}

-- an answer to a query, as the definitions have it
abbrev pub told_synthesized : Result (Option ℕ) Refusal → Reply
told_synthesized (Ok (Some m)) = a.given m
told_synthesized (Ok None) = a.none
told_synthesized (Err r) = a.refused (number_of r) (position_of r)

-- what is answered to a query that row 13 of the record and rows 5 to 11 do not refuse
abbrev pub asked_of : Table → Arrays → Query → List ℕ → a.Outcome
asked_of t m q out = pick (list_row t out).holds (a.outcome (a.refused 12 0) out) (part_asked t m q out)
