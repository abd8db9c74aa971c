-- An entry, or by number that it does not fit (SPECIFICATION 1.3, 9.1). Assumes nothing.
use Rattle.std.specs.Prelude.{ℕ}
use Rattle.ints.specs.Lists.{pick}
use Rattle.cyclotomic.specs.Zomega.{Zω, fits}

-- an exact entry, or a refusal by its number
pub data Told : Type 0 where
  entry : Zω → Told
  refused : ℕ → Told

-- the number of the refusal of what does not fit (SPECIFICATION 9.1)
abbrev pub does_not_fit : ℕ
does_not_fit = 8

-- what is to be said of the exact result x: it does not fit where a coefficient of it is past the limit (SPECIFICATION
-- 1.3)
unfoldable pub checked : Zω → Told
checked x = pick (fits x) (entry x) (refused does_not_fit)
