-- Sets of kinds, which are 32-bit numbers: bit i stands for the kind of number i. A basis is one (SPECIFICATION 2.2).
-- Assumes nothing.
use Rattle.std.specs.Prelude.{Bool, not, ◌||◌, ℕ}
use Rattle.ints.specs.Bits.{bit}
use Rattle.ints.specs.Lists.{range, all}

-- the set of the eleven kinds of tables, and the original's default basis: H to Tdg and Cx (SPECIFICATION 2.2)
abbrev pub supported : ℕ
supported = 3967

abbrev pub base : ℕ
base = 383

-- kind i is in the set
abbrev pub member : ℕ → ℕ → Bool
member set i = bit set i

-- the set, of 32 bits, has no bit outside the other
unfoldable pub subset : ℕ → ℕ → Bool
subset set other = all (λ i. not (member set i) || member other i) (range 0 32)
