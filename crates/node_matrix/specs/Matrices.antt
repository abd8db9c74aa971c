-- The matrix of a node, read from the arrays, and the fingerprint of the matrix after one gate more. Assumes nothing.
use Rattle.std.specs.Prelude.{◌≡◌, true, false, List, ℕ, ◌<◌, ℤ, pos, length, get_or, Option, Some, None}
use Rattle.ints.specs.Lists.{pick}
use Rattle.cyclotomic.specs.Told.{does_not_fit}
use Rattle.exact.specs.Matrix.{Exact}
use Rattle.exact.specs.Rows.{act, gate_of}
use Rattle.exact.specs.Lists.{product}
use Rattle.exact.specs.Fits.{step_fits, all_fit, steps}
use Rattle.exact.specs.Fingerprint.{fingerprint}
use Rattle.exact.specs.Answers.{Answer, given, refused}
use Rattle.places.specs.Held.{Holds}
use Rattle.walk.specs.Chains.{good, chain_of}
use Rattle.synthesis_arena.specs.declared.WidthLimits.{WidthLimits}

-- ---- a node's matrix

-- the chain of a node is good, and each step of its list fits
pub record Readable (lim : WidthLimits) (u c : List ℕ) (node : ℕ) : Type 0 where
  pub list : List ℕ
  pub chain : chain_of lim.width lim.basis u c 64 node ≡ good list
  pub all_fit_lem : steps lim.width list ≡ all_fit
  pub in_u : node < length u
  pub in_c : node < length c

-- the places hold the product of the node's list, with the exponent k
abbrev pub Formed : WidthLimits → List ℕ → List ℕ → ℕ → ℕ → List ℤ → Type 0
Formed lim u c node k m = (h : Readable lim u c node) → Holds lim.width k m (product lim.width h.list)

-- ---- a candidate's fingerprint

-- the first i places are another list's, and the length is as it was
pub record Copied (from old new : List ℤ) (i : ℕ) : Type 0 where
  pub long : length new ≡ length old
  pub first : (j : ℕ) → j < i → get_or new j (pos 0) ≡ get_or from j (pos 0)

-- a list whose first places up to a start are another list's has them up to an end
pub record CopiedOn (from old new : List ℤ) (start end : ℕ) : Type 0 where
  pub by : (l : List ℤ) → Copied from l old start → Copied from l new end

-- what the gate g leaves in the places that held a copy of the matrix x
abbrev pub OnCopy : ℕ → ℕ → Exact → List ℤ → Option ℕ → Type 0
OnCopy n g x l (Some k) = (step_fits n (gate_of n g) x ≡ true) × Holds n k l (act n (gate_of n g) x)
OnCopy n g x l None = step_fits n (gate_of n g) x ≡ false

-- the fingerprint of the matrix x after the gate g, or that it does not fit
unfoldable pub print_after : ℕ → ℕ → Exact → Answer
print_after n g x = pick (step_fits n (gate_of n g) x) (given (fingerprint n (act n (gate_of n g) x))) (refused does_not_fit 0)

abbrev pub told_candidate : Option (ℕ × ℕ) → Answer
told_candidate (Some (f, k)) = given f
told_candidate None = refused does_not_fit 0

-- the places hold the matrix x after the gate g, with the exponent told; nothing is said where it does not fit
abbrev pub LeftIn : ℕ → ℕ → Exact → List ℤ → Option (ℕ × ℕ) → Type 0
LeftIn n g x l (Some (f, k)) = Holds n k l (act n (gate_of n g) x)
LeftIn n g x l None = Unit {0}

-- what the gate g after a node with the matrix x comes to before any look-up: the fingerprint, or that it does not fit;
-- and the candidate's matrix is in the places
pub record FormedAs (n g : ℕ) (x : Exact) (l : List ℤ) (r : Option (ℕ × ℕ)) : Type 0 where
  pub print : told_candidate r ≡ print_after n g x
  pub left : LeftIn n g x l r
