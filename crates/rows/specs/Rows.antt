-- The row operations (SPECIFICATION 3.2) as the code finds rows: by and, or, minus. Assumes nothing.
use Rattle.std.specs.Prelude.{Bool, ℕ, ◌-◌, eqb}
use Rattle.std.specs.Int.Bits.{bit_and, bit_or}
use Rattle.ints.specs.Lists.{pick}
use Rattle.cyclotomic.specs.Zomega.{Zω, addω, subω, turn, sqrt2}

-- row r has all bits of the mask
abbrev pub has : ℕ → ℕ → Bool
has r mask = eqb (bit_and r mask) mask

unfoldable pub phase_rows : ℕ → ℕ → (ℕ → ℕ → Zω) → ℕ → ℕ → Zω
phase_rows mask power x r c = pick (has r mask) (turn power (x r c)) (x r c)

-- the lower row of r's pair: r without the bit
abbrev pub low_row : ℕ → ℕ → ℕ
low_row bit r = r - bit_and r bit

-- the row that comes to row r
unfoldable pub source_row : ℕ → ℕ → ℕ → ℕ
source_row control bit r = pick (has r control) (pick (has r bit) (r - bit) (bit_or r bit)) r

abbrev pub exchange_rows : ℕ → ℕ → (ℕ → ℕ → Zω) → ℕ → ℕ → Zω
exchange_rows control bit x r c = x (source_row control bit r) c

-- sum and difference of the rows that differ in the bit, where they have all bits of control; the other rows times √2
unfoldable pub h_rows : ℕ → ℕ → (ℕ → ℕ → Zω) → ℕ → ℕ → Zω
h_rows control bit x r c = pick (has r control) (pick (has r bit) (subω (x (r - bit) c) (x r c)) (addω (x r c) (x (bit_or r bit) c))) (sqrt2 (x r c))
