-- Words of the laws and of the contracts below the entries, about exact matrices and gates. No demand rests on them.
-- Assumes nothing.
use mathlib.Core.Path.{◌≡◌}
use mathlib.Core.List.{List, [], ◌∷◌, ◌++◌}
use Prim.Native.Nat.{ℕ, ◌+◌, ◌%◌, ◌^◌, ◌<◌}
use Rattle.ints.specs.Lists.{pick}
use Rattle.cyclotomic.specs.Told.{does_not_fit}
use Rattle.cyclotomic.specs.Zomega.{Zω, WithinBound}
use Rattle.coefficients.specs.Coefficients.{limit}
use Rattle.exact.specs.Matrix.{Exact}
use Rattle.exact.specs.Rows.{Gate, phase, exchange, had, then, act}
use Rattle.exact.specs.Fits.{step_fits}
use Rattle.exact.specs.Answers.{Answer, given, refused}

-- ---- matrices

-- one exponent and the same entries
pub record Equal (n : ℕ) (x y : Exact) : Type 0 where
  pub exponent : x.k ≡ y.k
  pub entries : (r c : ℕ) → r < 2 ^ n → c < 2 ^ n → x.e r c ≡ y.e r c

-- every coefficient of every entry is within a bound
pub record AllWithin (n bound : ℕ) (e : ℕ → ℕ → Zω) : Type 0 where
  pub small : (r c : ℕ) → r < 2 ^ n → c < 2 ^ n → WithinBound bound (e r c)

-- every coefficient of every entry is within the limit
abbrev pub AllSmall : ℕ → (ℕ → ℕ → Zω) → Type 0
AllSmall n e = AllWithin n limit e

-- ---- one gate

-- one gate: the exponent of the exact step where it fits, and otherwise 8
unfoldable pub step_answer : ℕ → Gate → Exact → Answer
step_answer n g x = pick (step_fits n g x) (given (act n g x).k) (refused does_not_fit 0)

-- where a gate does not fit: what its row operations before the first that does not fit have made. Of Sx it may be its
-- first H and its S; a gate of one operation has made nothing
abbrev pub made : ℕ → Gate → Exact → Exact
made n (phase ks p) x = x
made n (exchange ks k) x = x
made n (had ks k) x = x
made n (then g h) x = pick (step_fits n g x) (made n h (act n g x)) (made n g x)

-- ---- gates of a width, gates with no common bit, gates that undo each other

abbrev pub Lacks : ℕ → List ℕ → Type 0
Lacks k [] = Unit {0}
Lacks k (j ∷ js) = (j ≡ k → ⊥) × Lacks k js

abbrev pub AllBelow : ℕ → List ℕ → Type 0
AllBelow n [] = Unit {0}
AllBelow n (j ∷ js) = (j < n) × AllBelow n js

-- the bits are the width's, and a target is no control
abbrev pub Proper : ℕ → Gate → Type 0
Proper n (phase ks p) = AllBelow n ks
Proper n (exchange ks k) = (k < n) × AllBelow n ks × Lacks k ks
Proper n (had ks k) = (k < n) × AllBelow n ks × Lacks k ks
Proper n (then g h) = Proper n g × Proper n h

-- one row operation, not several
abbrev pub Plain : Gate → Type 0
Plain (phase ks p) = Unit {0}
Plain (exchange ks k) = Unit {0}
Plain (had ks k) = Unit {0}
Plain (then g h) = ⊥

abbrev pub touches : Gate → List ℕ
touches (phase ks p) = ks
touches (exchange ks k) = k ∷ ks
touches (had ks k) = k ∷ ks
touches (then g h) = touches g ++ touches h

abbrev pub Apart : List ℕ → List ℕ → Type 0
Apart [] l = Unit {0}
Apart (j ∷ js) l = Lacks j l × Apart js l

pub data Undoes : Gate → Gate → Type 0 where
  turns : {ks : List ℕ} {p q : ℕ} → (p + q) % 8 ≡ 0 → Undoes (phase ks p) (phase ks q)
  exchanges : {ks : List ℕ} {k : ℕ} → Lacks k ks → Undoes (exchange ks k) (exchange ks k)
  hads : {ks : List ℕ} {k : ℕ} → Lacks k ks → Undoes (had ks k) (had ks k)
