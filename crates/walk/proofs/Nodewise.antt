-- What nodes answer, said of the parts that the walk is handed: the lowest node that answers, its list, the recheck.
-- tables/proofs/Joined has that arrays which hold the nodes answer the same. Assumes nothing.
use mathlib.Core.Bool.{Bool, true, ◌&&◌}
use mathlib.Core.List.{List, [], ◌∷◌, reverse}
use mathlib.Core.Option.{Option, none, some}
use Prim.Native.Nat.{ℕ, zero, suc}
use lib.Dec.{ltb}
use lib.ListN.{length}
use Rattle.ints.specs.Lists.{pick}
use Rattle.exact.specs.Matrix.{Exact}
use Rattle.walk.specs.Walk.{Rules, Node, list_at, prod}
use Rattle.walk.specs.Modes.{Mode}
use Rattle.walk.specs.AtWidth.{at_width, built}

-- the number of the first that passes the test, or how many there are
abbrev pub lowest : {A : Type 0} → (A → Bool) → List A → ℕ
lowest f [] = zero
lowest f (x ∷ xs) = pick (f x) zero (suc (lowest f xs))

module _ (R : Rules) where
  -- every step of the list, newest gate first, fits
  abbrev pub steps_fit : List ℕ → Bool
  steps_fit [] = true
  steps_fit (g ∷ l) = steps_fit l && R.fits g (prod R l)

  -- a list passes for the matrix x: all its steps fit, and its product is equal up to phase to x (SPECIFICATION 7.6)
  unfoldable pub recheck : List ℕ → R.Mat → Bool
  recheck l x = steps_fit l && R.equal (prod R l) x

  -- the lowest node that passes a test, its list, rechecked against the matrix asked
  unfoldable pub answer_by : (Node → Bool) → List Node → R.Mat → Option (List ℕ)
  answer_by test ns x =
      let k : ℕ = lowest test ns in
      pick (ltb k (length ns)) (pick (recheck (list_at ns k) x) (some (list_at ns k)) none) none

  -- the node is one that the matrix x finds
  abbrev pub answers_to : R.Mat → Node → Bool
  answers_to x n = R.answers (prod R n.list) x

  -- by the lowest node that the matrix finds (SPECIFICATION 7.4). The list is newest gate first
  abbrev pub answer : List Node → R.Mat → Option (List ℕ)
  answer ns x = answer_by (answers_to x) ns x

-- the list as callers have it, oldest gate first
abbrev pub oldest_first : Option (List ℕ) → Option (List ℕ)
oldest_first none = none
oldest_first (some l) = some (reverse l)

-- what nodes answer, whichever test finds the node
abbrev pub answered_by : Mode → ℕ → ℕ → (Node → Bool) → List Node → Exact → Option (List ℕ)
answered_by mode n basis test ns x = oldest_first (answer_by (at_width mode n basis) test ns x)

-- what the width of a build answers
abbrev pub answered : Mode → ℕ → ℕ → ℕ → ℕ → Exact → Option (List ℕ)
answered mode n basis G E x = oldest_first (answer (at_width mode n basis) (built mode n basis G E).nodes x)
