-- The answer of the entry for lists, as the definitions have it: the exponent, or the refusal's number and position
-- (SPECIFICATION 12.8). Assumes nothing.
use Rattle.std.specs.Prelude.{ℕ, Result, Ok, Err}
use Rattle.exact.specs.Answers.{Answer, given, refused}
use Rattle.refusal.specs.declared.Refusal.{Refusal}
use Rattle.refusal.specs.Told.{number_of, position_of}

abbrev pub told_listed : Result ℕ Refusal → Answer
told_listed (Ok k) = given k
told_listed (Err r) = refused (number_of r) (position_of r)
