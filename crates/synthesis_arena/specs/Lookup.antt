-- The values of each case of a look-up's answer. Assumes nothing.
use Rattle.std.specs.Prelude.{ℕ, Option, Some, None}
use Rattle.walk.specs.Lookup.{Lookup, found, none}

abbrev pub told_found : Option ℕ → Lookup
told_found (Some node) = found node
told_found None = none
