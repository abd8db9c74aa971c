-- The cases of what is found as the definitions have them (SPECIFICATION 12.8), what one node is to a matrix, and what
-- the functions ask of the places of a query. What is found and answered is in walk/specs. Assumes nothing.
use Rattle.std.specs.Prelude.{◌≡◌, List, ◌++◌, ℕ, ◌*◌, ◌^◌, ◌≤◌, ℤ, length, take, drop, Option, Some, None, Result, Ok, Err}
use Rattle.exact.specs.Matrix.{Exact}
use Rattle.exact.specs.Places.{read}
use Rattle.exact.proofs.Words.{AllSmall}
use Rattle.walk.specs.Chains.{Chain}
use Rattle.walk.specs.Finds.{Finding, by_chain}
use Rattle.walk.specs.Finds as f
use Rattle.walk.specs.Answers.{given, none, refused, Outcome, outcome, written, then_write}
use Rattle.synthesis_arena.specs.declared.BadChain.{BadChain}

-- a bad chain is 13 (SPECIFICATION 9.3)
abbrev pub told_find : Result (Option (ℕ × ℕ)) BadChain → Finding
told_find (Ok (Some (k, m))) = f.node k m
told_find (Ok None) = f.none
told_find (Err _) = f.refused 13 0

-- what is found, with its list in the first places of one list, copied over the first places of another
abbrev pub copied : Finding → List ℕ → List ℕ → Outcome
copied (f.node k m) list out = outcome (given m) (take m list ++ drop m out)
copied f.none list out = outcome none out
copied (f.refused r p) list out = outcome (refused r p) out

-- node k is this to the matrix x, and its list, copied, is what its chain gives
pub record NodeFound (n : ℕ) (x : Exact) (chain : ℕ → Chain) (k : ℕ) (g : Finding) (list : List ℕ) : Type 0 where
  pub is : g ≡ by_chain n x k f.none (chain k)
  pub copies : (out : List ℕ) → copied g list out ≡ then_write (λ j. written out (chain j)) out g

-- the places lent for the matrix asked: all of them are there, and every coefficient is within the limit
abbrev pub AskedPlaces : ℕ → List ℤ → Type 0
AskedPlaces n places = (4 * (2 ^ n * 2 ^ n) ≤ length places) × AllSmall n (read n places)
