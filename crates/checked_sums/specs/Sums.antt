-- What a checked sum says: an entry, or by number that it does not fit (SPECIFICATION 1.3, 9.1). Assumes nothing.
use Rattle.cyclotomic.specs.Zomega.{Zω}
use Rattle.cyclotomic.specs.Told.{Told, entry, refused, does_not_fit}
use Rattle.std.specs.Prelude.{Option, Some, None}

-- the number and the values of each case
abbrev pub told_checked : Option Zω → Told
told_checked (Some x) = entry x
told_checked None = refused does_not_fit
