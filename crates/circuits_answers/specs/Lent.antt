-- What three lent arrays hold as a function begins and as it returns, for clauses over a table. Assumes nothing.
use Rattle.std.specs.Prelude.{List, ℕ}
use Rattle.std.specs.Borrow.{Bor}
use denote.Triple.Both.{Both}
use Rattle.tables.specs.Checks.{Arrays, arrays}

-- a parameter that is a slice of numbers, at both moments
abbrev pub Slice : Type 0
Slice = Both (Bor (List ℕ)) (Bor (List ℕ))

abbrev pub lent : Slice → Slice → Slice → Arrays
lent fingerprints parents codes = arrays fingerprints.entry.now parents.entry.now codes.entry.now

abbrev pub left_in : Slice → Slice → Slice → Arrays
left_in fingerprints parents codes = arrays fingerprints.exit.now parents.exit.now codes.exit.now
