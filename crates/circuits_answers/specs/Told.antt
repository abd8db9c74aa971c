-- A table that is lent, as the definitions have it: its record, and what its three arrays hold. Assumes nothing.
use Rattle.tables.specs.Checks.{Arrays, arrays}
use Rattle.tables.specs.Tables as t
use Rattle.murm_config.specs.Told.{told_murm}
use Rattle.circuits_answers.specs.declared.Table.{Table}

abbrev pub told_record : Table → t.Table
told_record l = told_murm l.record

abbrev pub told_arrays : Table → Arrays
told_arrays l = arrays l.fingerprints.now l.parents.now l.codes.now
