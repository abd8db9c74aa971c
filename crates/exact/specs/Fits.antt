-- What fits: a step's raw result within the limit, and the first step of a list that does not. Products are exact, so
-- what fits is said apart from them: by the raw result, before lowering, as the code meets it. Assumes nothing.
use Rattle.std.specs.Prelude.{◌≡◌, Bool, true, false, ◌&&◌, List, [], ◌∷◌, ℕ, suc, ◌<◌, leb, length, get_or, take}
use Rattle.ints.specs.Lists.{pick}
use Rattle.cyclotomic.specs.Zomega.{fits}
use Rattle.exact.specs.Matrix.{Exact, all_entries, identity}
use Rattle.exact.specs.Rows.{Gate, phase, exchange, had, then, raw, act, gate_of}
use Rattle.exact.specs.Lists.{product}

-- the largest exponent that fits (SPECIFICATION 3.4)
abbrev pub most_k : ℕ
most_k = 65535

-- up to so many gates of a basis every list fits: 2^29 is below 32768², and 2^30 is not (SPECIFICATION 8.18)
abbrev pub fitting_gates : ℕ
fitting_gates = 29

-- every coefficient of every entry is within the limit
abbrev pub all_fits : ℕ → Exact → Bool
all_fits n x = all_entries n (λ r c. fits (x.e r c))

-- Each row operation of a gate has a raw result that passes a test. Of operations one after the other the second starts
-- from what the first left, lowered: so of Sx the raw results of both H are tested; of Ch, one operation, all rows,
-- those multiplied by sqrt(2) among them (SPECIFICATION 3.4)
abbrev pub each_raw : ℕ → (Exact → Bool) → Gate → Exact → Bool
each_raw n test (phase ks p) x = test (raw (phase ks p) x)
each_raw n test (exchange ks k) x = test (raw (exchange ks k) x)
each_raw n test (had ks k) x = test (raw (had ks k) x)
each_raw n test (then g h) x = each_raw n test g x && each_raw n test h (act n g x)

-- the step fits: no raw result has a coefficient past the limit or an exponent above `most_k` (SPECIFICATION 3.4)
unfoldable pub step_fits : ℕ → Gate → Exact → Bool
step_fits n g x = each_raw n (λ y. leb y.k most_k && all_fits n y) g x

-- the coefficients alone: no raw result of the step has one past the limit
abbrev pub raw_within : ℕ → Gate → Exact → Bool
raw_within n g x = each_raw n (all_fits n) g x

-- every step of a list fits, or the position of the first that does not (SPECIFICATION 3.6)
pub data Steps : Type 0 where
  all_fit : Steps
  unfit_at : ℕ → Steps

-- of a list with one more gate before it, whose step fits
abbrev pub next : Steps → Steps
next all_fit = all_fit
next (unfit_at i) = unfit_at (suc i)

-- the steps of a list from the matrix x on
abbrev pub steps_from : ℕ → Exact → List ℕ → Steps
steps_from n x [] = all_fit
steps_from n x (g ∷ l) = pick (step_fits n (gate_of n g) x) (next (steps_from n (act n (gate_of n g) x) l)) (unfit_at 0)

-- and from the identity on
unfoldable pub steps : ℕ → List ℕ → Steps
steps n l = steps_from n identity l

-- the step by gate j of a list, taken from the product of those before it, keeps every raw coefficient of each of its
-- row operations within the limit; where it does not, it passes the limit. The exponent plays no part here
-- (SPECIFICATION 8.2)
unfoldable pub step_within : ℕ → List ℕ → ℕ → Bool
step_within n l j = raw_within n (gate_of n (get_or l j 0)) (product n (take j l))

-- gate i is the first whose step passes the limit (SPECIFICATION 8.2)
pub record FirstPast (n : ℕ) (l : List ℕ) (i : ℕ) : Type 0 where
  pub inside : i < length l
  pub before : (j : ℕ) → j < i → step_within n l j ≡ true
  pub past : step_within n l i ≡ false
