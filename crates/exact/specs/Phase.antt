-- The phase of a matrix, and whether two are equal up to phase: a test that ends, by which the recheck decides. That it
-- decides `PowerOf` for matrices in lowest denominator is shown in proofs/Phases. Assumes nothing.
use Rattle.std.specs.Prelude.{Bool, ◌&&◌, ℕ, zero, suc, ◌*◌, ◌^◌, ◌/◌, ◌%◌, eqb}
use Rattle.ints.specs.Lists.{pick}
use Rattle.cyclotomic.specs.Zomega.{Zω, zeroω, eqω, is_zero, phase}
use Rattle.exact.specs.Matrix.{Exact, all_entries, turned}

-- entry i, row after row (SPECIFICATION 1.7)
abbrev pub flat : ℕ → (ℕ → ℕ → Zω) → ℕ → Zω
flat n e i = e (i / 2 ^ n) (i % 2 ^ n)

-- the first of m that is not zero; zero if there is none
abbrev pub first_nonzero : ℕ → (ℕ → Zω) → Zω
first_nonzero zero f = zeroω
first_nonzero (suc m) f = pick (is_zero (f 0)) (first_nonzero m (λ i. f (suc i))) (f 0)

-- the pivot: the first entry, row after row, that is not zero (SPECIFICATION 1.11)
unfoldable pub pivot : ℕ → Exact → Zω
pivot n x = first_nonzero (2 ^ n * 2 ^ n) (flat n x.e)

-- the phase of a matrix is its pivot's: the turn, 0 to 7, by which the pivot is least; 0 where all entries are zero
-- (SPECIFICATION 1.11)
unfoldable pub phase_of : ℕ → Exact → ℕ
phase_of n x = phase (pivot n x)

-- the matrix turned by its own phase (SPECIFICATION 1.11)
abbrev pub phased : ℕ → Exact → Exact
phased n x = turned (phase_of n x) x

-- equal up to phase: one exponent, and the phased matrices have the same entries. Both have width n (SPECIFICATION
-- 1.12)
unfoldable pub up_to_phase : ℕ → Exact → Exact → Bool
up_to_phase n x y = eqb x.k y.k && all_entries n (λ r c. eqω ((phased n x).e r c) ((phased n y).e r c))
