-- The answers of a find and of a write, case by case: the values, or the refusal's number and position (SPECIFICATION
-- 12.8). Assumes nothing.
use Rattle.std.specs.Prelude.{ℕ, Option, Some, None, Result, Ok, Err}
use Rattle.walk.specs.Finds.{Finding}
use Rattle.walk.specs.Finds as finds
use Rattle.walk.specs.Answers.{Reply}
use Rattle.walk.specs.Answers as a
use Rattle.refusal.specs.declared.Refusal.{Refusal}
use Rattle.refusal.specs.Told.{number_of, position_of}

-- what is found, as the definitions have it
abbrev pub told_found_node : Result (Option (ℕ × ℕ)) Refusal → Finding
told_found_node (Ok (Some (k, m))) = finds.node k m
told_found_node (Ok None) = finds.none
told_found_node (Err r) = finds.refused (number_of r) (position_of r)

-- what a write came to, as the definitions have it
abbrev pub told_written : Result ℕ Refusal → Reply
told_written (Ok m) = a.given m
told_written (Err r) = a.refused (number_of r) (position_of r)
