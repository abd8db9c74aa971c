-- The answers of a build and of a fill, as the definitions have them: the record, or the refusal's number and position
-- (SPECIFICATION 12.8). Assumes nothing.
use Rattle.std.specs.Prelude.{Result, Ok, Err}
use Rattle.tables.specs.Tables.{BuildReply, table, refusal, FillReply, filled, not_filled}
use Rattle.refusal.specs.declared.Refusal.{Refusal}
use Rattle.refusal.specs.Told.{number_of, position_of}
use Rattle.murm_config.specs.declared.Murm.{Murm}
use Rattle.murm_config.specs.Told.{told_murm}

-- an answer to a build, as the definitions have it
abbrev pub told_building : Result Murm Refusal → BuildReply
told_building (Ok m) = table (told_murm m)
told_building (Err r) = refusal (number_of r) (position_of r)

-- what a fill came to, as the definitions have it
abbrev pub told_filling : Result (Unit {0}) Refusal → FillReply
told_filling (Ok v) = filled
told_filling (Err r) = not_filled (number_of r) (position_of r)
