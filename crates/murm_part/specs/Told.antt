-- The arrays and the index of a table that are lent, as the definitions have them (SPECIFICATION 12.8). Assumes nothing.
use Rattle.index.specs.Told.{told_by}
use Rattle.tables.specs.Checks.{Arrays, arrays_by}
use Rattle.murm_part.specs.declared.Lent.{Lent}

abbrev pub told_lent : Lent → Arrays
told_lent l = arrays_by (told_by l.by) l.fingerprints.now l.parents.now l.codes.now l.index.now
