-- The look-up of a fingerprint, whatever the array of fingerprints holds: the lowest node that has it (SPECIFICATION
-- 7.4). Assumes nothing.
use Rattle.std.specs.Prelude.{List, ℕ, zero, suc, ◌-◌, eqb, get_or}
use Rattle.ints.specs.Lists.{pick}

-- a node, or none
pub data Lookup : Type 0 where
  found : ℕ → Lookup
  none : Lookup

-- the lowest of m nodes, from node i on, with the fingerprint
abbrev pub lowest_of : List ℕ → ℕ → ℕ → ℕ → Lookup
lowest_of fingerprints fingerprint i zero = none
lowest_of fingerprints fingerprint i (suc m) = pick (eqb (get_or fingerprints i 0) fingerprint) (found i) (lowest_of fingerprints fingerprint (suc i) m)

-- the lowest node with the fingerprint, of those not below `from` and below the count (SPECIFICATION 7.4)
unfoldable pub lowest_from : List ℕ → ℕ → ℕ → ℕ → Lookup
lowest_from fingerprints count from fingerprint = lowest_of fingerprints fingerprint from (count - from)
