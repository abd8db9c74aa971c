-- Unitary by rows: the product of row i with the conjugate of row j, summed over the columns, is 2^k for i = j and 0
-- otherwise. Every product of a list is unitary, and so is every query that gets a list (SPECIFICATION 1.13, 7.8). What
-- it says of each row's coefficients alone is the row law. Assumes nothing.
use Rattle.std.specs.Prelude.{◌≡◌, ℕ, zero, suc, ◌+◌, ◌^◌, ◌<◌, pos, neg_ℤ}
use Rattle.cyclotomic.specs.Zomega.{Zω, mk, zeroω, mulω, squares}
use Rattle.exact.specs.Matrix.{Exact}
use Rattle.exact.specs.Paper.{sumω}

-- the complex conjugate: omega to the minus one is -omega³
unfoldable pub conj : Zω → Zω
conj x = mk x.a (neg_ℤ x.d) (neg_ℤ x.c) (neg_ℤ x.b)

-- row i with the conjugate of row j
unfoldable pub inner : ℕ → (ℕ → ℕ → Zω) → ℕ → ℕ → Zω
inner n e i j = sumω (2 ^ n) (λ c. mulω (e i c) (conj (e j c)))

-- a natural number as an element
abbrev pub natω : ℕ → Zω
natω m = mk (pos m) (pos 0) (pos 0) (pos 0)

-- of a matrix with exponent k (SPECIFICATION 1.13)
pub record Unitary (n : ℕ) (x : Exact) : Type 0 where
  pub own : (i : ℕ) → i < 2 ^ n → inner n x.e i i ≡ natω (2 ^ x.k)
  pub other : (i j : ℕ) → i < 2 ^ n → j < 2 ^ n → (i ≡ j → ⊥) → inner n x.e i j ≡ zeroω

-- the sum of f over the numbers below m
abbrev pub total : ℕ → (ℕ → ℕ) → ℕ
total zero f = 0
total (suc m) f = total m f + f m

-- the squares of the coefficients of each row sum to 2^k (SPECIFICATION 8.18)
pub record RowLaw (n : ℕ) (x : Exact) : Type 0 where
  pub sums : (r : ℕ) → r < 2 ^ n → total (2 ^ n) (λ c. squares (x.e r c)) ≡ 2 ^ x.k
