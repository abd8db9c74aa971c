-- What one width's part of a lent table answers to a matrix, whatever the arrays hold: the find, followed by the write
-- of the node found (SPECIFICATION 7.4 to 7.7). Assumes nothing.
use Rattle.std.specs.Prelude.{List, ◌++◌, ℕ, length, drop}
use Rattle.exact.specs.Matrix.{Exact}
use Rattle.walk.specs.Chains.{Chain, good, bad}
use Rattle.walk.specs.Finds.{WidthLimits, Part, Finding, node, chain_at, find_of}
use Rattle.walk.specs.Finds as f

-- ---- what is told, and what the lent list then holds

-- a list, by how many gates it has; none; or a refusal: first its number, then its position
pub data Reply : Type 0 where
  given : ℕ → Reply
  none : Reply
  refused : ℕ → ℕ → Reply

-- the reply, and what the lent list holds after it
pub record Outcome : Type 0 where
  pub reply : Reply
  pub list : List ℕ

abbrev pub outcome : Reply → List ℕ → Outcome
outcome a l = record { reply = a; list = l }

-- ---- the definition

-- by the chain of a node: its list is written over the first places of the lent list; a bad chain is 13, and the lent
-- list is as it was (SPECIFICATION 7.5, 7.7)
abbrev pub written : List ℕ → Chain → Outcome
written out (good l) = outcome (given (length l)) (l ++ drop (length l) out)
written out bad = outcome (refused 13 0) out

-- the list of node k is written
unfoldable pub write_of : WidthLimits → Part → ℕ → List ℕ → Outcome
write_of limits part k out = written out (chain_at limits part k)

-- a find, followed by the write of the node found: with none, and with a refusal, the lent list is as it was
abbrev pub then_write : (ℕ → Outcome) → List ℕ → Finding → Outcome
then_write write out (node k m) = write k
then_write write out f.none = outcome none out
then_write write out (f.refused r p) = outcome (refused r p) out

-- the answer to the matrix x (SPECIFICATION 7.4 to 7.7)
unfoldable pub answer_of : WidthLimits → Part → Exact → List ℕ → Outcome
answer_of limits part x out = then_write (λ k. write_of limits part k out) out (find_of limits part x)
