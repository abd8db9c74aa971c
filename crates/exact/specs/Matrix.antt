-- Exact matrices of width n, with no bound on coefficients or exponent: their values, the lowest denominator, and
-- powers of omega. Entries are a function of row and column, so that no law speaks of places; how places hold a matrix
-- is Places.antt. Assumes nothing.
use Rattle.std.specs.Prelude.{◌≡◌, Bool, false, ℕ, zero, suc, ◌^◌, ◌<◌, eqb}
use Rattle.ints.specs.Lists.{pick, range, all}
use Rattle.cyclotomic.specs.Zomega.{Zω, zeroω, oneω, turn, sqrt2, divisible, over_sqrt2}

-- a matrix: its value at row r and column c is the entry e r c over √2 to the k (SPECIFICATION 1.5). The width n stands
-- beside it; rows and columns from 2^n on are no part of it
pub record Exact : Type 0 where
  pub k : ℕ
  pub e : ℕ → ℕ → Zω

-- √2 to the k, times x
abbrev pub sqrt2s : ℕ → Zω → Zω
sqrt2s zero x = x
sqrt2s (suc k) x = sqrt2 (sqrt2s k x)

-- one value: each entry, brought to the other's denominator, is the other (SPECIFICATION 1.8)
pub record SameValue (n : ℕ) (x y : Exact) : Type 0 where
  pub at : (r c : ℕ) → r < 2 ^ n → c < 2 ^ n → sqrt2s y.k (x.e r c) ≡ sqrt2s x.k (y.e r c)

-- a test of every entry
abbrev pub all_entries : ℕ → (ℕ → ℕ → Bool) → Bool
all_entries n f = all (λ r. all (f r) (range 0 (2 ^ n))) (range 0 (2 ^ n))

-- every entry is divisible by √2 (SPECIFICATION 1.4)
unfoldable pub all_divisible : ℕ → (ℕ → ℕ → Zω) → Bool
all_divisible n e = all_entries n (λ r c. divisible (e r c))

-- lowest denominator: k is 0, or some entry is not divisible (SPECIFICATION 1.9)
pub record Lowest (n : ℕ) (x : Exact) : Type 0 where
  pub lowest : 0 < x.k → all_divisible n x.e ≡ false

-- entries e over √2 to the k, lowered: divided by √2 as often as k allows and all are divisible (SPECIFICATION 1.9)
abbrev pub lowered : ℕ → ℕ → (ℕ → ℕ → Zω) → Exact
lowered n zero e = record { k = 0; e = e }
lowered n (suc k) e = pick (all_divisible n e) (lowered n k (λ r c. over_sqrt2 (e r c))) (record { k = suc k; e = e })

-- the same of a matrix
unfoldable pub lower : ℕ → Exact → Exact
lower n x = lowered n x.k x.e

-- the identity, with k 0
abbrev pub identity : Exact
identity = record { k = 0; e = λ r c. pick (eqb r c) oneω zeroω }

-- all entries times omega to the p (SPECIFICATION 1.2)
abbrev pub turned : ℕ → Exact → Exact
turned p x = record { k = x.k; e = λ r c. turn p (x.e r c) }

-- y is a power of omega times x: one turn of all entries of x, by 0 to 7, gives y's values. Exponents may differ
-- (SPECIFICATION 1.10)
pub record PowerOf (n : ℕ) (x y : Exact) : Type 0 where
  pub power : ℕ
  pub small : power < 8
  pub same : SameValue n (turned power x) y
