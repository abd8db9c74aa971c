-- What the loop over a matrix's entries asks, and the two streams. Assumes nothing.
use Rattle.std.specs.Prelude.{ℕ, ◌<◌, List, ℤ}
use Rattle.cyclotomic.specs.Zomega.{Small}
use Rattle.exact.specs.Places.{entry}
use Rattle.exact.specs.Fingerprint as exact
use Rattle.prints.specs.declared.Streams.{Streams}

-- the first c entries are within the limit
pub record SmallTo (l : List ℤ) (c : ℕ) : Type 0 where
  pub small : (j : ℕ) → j < c → Small (entry l j)

-- the code's two streams as the definition's
abbrev pub streams : Streams → exact.Streams
streams s = record { first = s.first; second = s.second }
