-- One coefficient of an entry, an integer: what is stored of it, its parity, its half and its tests. Assumes nothing.
use Rattle.std.specs.Prelude.{Bool, false, ℕ, ◌+◌, ◌%◌, ℤ, pos, nat_abs, eqb, leb, ltb}
use Rattle.std.specs.Int.Signed.{quot_z}
use Rattle.std.specs.Int.{Width, w16, w32}

-- the largest stored coefficient, and the negative of the least one (SPECIFICATION 1.3)
abbrev pub limit : ℕ
limit = 32767

-- the width of a coefficient, and the width in which sums are formed
abbrev pub near : Width
near = w16

abbrev pub far : Width
far = w32

abbrev pub parity : ℤ → ℕ
parity z = nat_abs z % 2

abbrev pub same_parity : ℤ → ℤ → Bool
same_parity x y = eqb (parity x) (parity y)

-- half of an even number
abbrev pub half : ℤ → ℤ
half z = quot_z z (pos 2)

-- two coefficients are the same
abbrev pub eq_z : ℤ → ℤ → Bool
eq_z (pos a) (pos b) = eqb a b
eq_z (pos a) (ℤ.negsuc b) = false
eq_z (ℤ.negsuc a) (pos b) = false
eq_z (ℤ.negsuc a) (ℤ.negsuc b) = eqb a b

-- the coefficient is within the limit
abbrev pub within : ℤ → Bool
within z = leb (nat_abs z) limit

-- the sizes of two coefficients add up past the limit
abbrev pub sizes_pass : ℤ → ℤ → Bool
sizes_pass x y = ltb limit (nat_abs x + nat_abs y)
