-- What comes of two runs of entries under H and Ch, and whether it fits. Assumes nothing.
use Rattle.std.specs.Prelude.{◌≡◌, Bool, true, false, List, ℕ, ◌+◌, ◌≤◌, ◌<◌, ℤ, nat_abs, length}
use Rattle.ints.specs.Lists.{pick}
use Rattle.cyclotomic.specs.Zomega.{Zω, addω, subω, sqrt2, Small}
use Rattle.coefficients.specs.Coefficients.{limit}
use Rattle.exact.specs.Places.{entry}
use Rattle.rows.specs.Work.{at}

-- what comes of two entries: their sum and their difference, where the rows are active, or else each times √2
abbrev pub low_of : Bool → Zω → Zω → Zω
low_of active x y = pick active (addω x y) (sqrt2 x)

abbrev pub high_of : Bool → Zω → Zω → Zω
high_of active x y = pick active (subω x y) (sqrt2 y)

-- c entries from e on and c entries from f on became what comes of them; no other entry changed
pub record Summed (active : Bool) (l l' : List ℤ) (e f c : ℕ) : Type 0 where
  pub long : length l' ≡ length l
  pub sums : (k : ℕ) → k < c → entry l' (e + k) ≡ low_of active (entry l (e + k)) (entry l (f + k))
  pub differences : (k : ℕ) → k < c → entry l' (f + k) ≡ high_of active (entry l (e + k)) (entry l (f + k))
  pub other : (k : ℕ) → ((i : ℕ) → i < c → k ≡ e + i → ⊥) → ((i : ℕ) → i < c → k ≡ f + i → ⊥) → entry l' k ≡ entry l k

-- the sizes of c places from p on and of c places from q on, added one by one, are within the limit
pub record SizesFit (l : List ℤ) (p q c : ℕ) : Type 0 where
  pub fit : (i : ℕ) → i < c → nat_abs (at l (p + i)) + nat_abs (at l (q + i)) ≤ limit

-- what comes of c entries from e on and c entries from f on is within the limit
pub record SumsFit (active : Bool) (l : List ℤ) (e f c : ℕ) : Type 0 where
  pub sum_fits : (k : ℕ) → k < c → Small (low_of active (entry l (e + k)) (entry l (f + k)))
  pub difference_fits : (k : ℕ) → k < c → Small (high_of active (entry l (e + k)) (entry l (f + k)))

-- a test that says whether P holds
pub record Tells (P : Type 0) (ok : Bool) : Type 0 where
  pub holds : ok ≡ true → P
  pub fails : ok ≡ false → P → ⊥
