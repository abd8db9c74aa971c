-- What is found in a width's part for a matrix, and its list: the contracts of `find_at` and `find_width`. Assumes
-- nothing.
use Rattle.std.specs.Prelude.{◌≡◌, List, ℕ}
use Rattle.exact.specs.Matrix.{Exact}
use Rattle.walk.specs.Finds.{WidthLimits, Part, Finding, find_by, find_of}
use Rattle.walk.specs.Answers.{write_of, then_write, answer_of}
use Rattle.node_answer.specs.Answers.{copied}

-- this is found for the matrix x by the fingerprint y, and its list, copied, is what a write of the node gives
pub record PrintFound (limits : WidthLimits) (part : Part) (y : ℕ) (x : Exact) (g : Finding) (list : List ℕ) : Type 0 where
  pub is : g ≡ find_by limits part y x
  pub copies : (out : List ℕ) → copied g list out ≡ then_write (λ k. write_of limits part k out) out g

-- this is found for the matrix x, and its list, copied, is what is answered
pub record ListFound (limits : WidthLimits) (part : Part) (x : Exact) (g : Finding) (list : List ℕ) : Type 0 where
  pub is : g ≡ find_of limits part x
  pub copies : (out : List ℕ) → copied g list out ≡ answer_of limits part x out
