-- What the search for the pivot finds. Assumes nothing.
use Rattle.std.specs.Prelude.{◌≡◌, true, false, List, ℕ, ◌≤◌, ◌<◌, ℤ, Option, Some, None}
use Rattle.cyclotomic.specs.Zomega.{is_zero}
use Rattle.exact.specs.Places.{entry}

-- the place of the first of c entries that is not zero; c if all are
pub record FirstNonzero (l : List ℤ) (c at : ℕ) : Type 0 where
  pub within : at ≤ c
  pub before : (j : ℕ) → j < at → is_zero (entry l j) ≡ true
  pub found : at < c → is_zero (entry l at) ≡ false

-- the same for a search that tells whether it found one
abbrev pub FoundNonzero : List ℤ → ℕ → Option ℕ → Type 0
FoundNonzero l c (Some e) = (e < c) × FirstNonzero l c e
FoundNonzero l c None = FirstNonzero l c c
