-- A matrix that is asked, and the answer of the entry for fingerprints, as the definitions have them: the fingerprint,
-- or the refusal's number and position (SPECIFICATION 12.8). Assumes nothing.
use Rattle.std.specs.Prelude.{ℕ, Result, Ok, Err}
use Rattle.exact.specs.Answers.{Answer, given, refused}
use Rattle.refusal.specs.declared.Refusal.{Refusal}
use Rattle.refusal.specs.Told.{number_of, position_of}
use Rattle.tables.specs.Tables as t
use Rattle.murm_query.specs.declared.Query.{Query}

-- a matrix that is asked, as the definitions have it
abbrev pub told_query : Query → t.Query
told_query q = t.query q.width q.exponent q.matrix.now

abbrev pub told_fingerprinted : Result ℕ Refusal → Answer
told_fingerprinted (Ok p) = given p
told_fingerprinted (Err r) = refused (number_of r) (position_of r)
