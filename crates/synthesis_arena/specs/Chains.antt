-- The depth of a node by its chain, and the values of each case. Assumes nothing.
use Rattle.std.specs.Prelude.{◌≡◌, List, ℕ, suc, ◌<◌, length, get_or, Result, Ok, Err}
use Rattle.exact.specs.Answers.{Answer, given, refused}
use Rattle.walk.specs.Chains.{Chain, good, bad, chain_of}
use Rattle.walk.specs.Answers.{Reply}
use Rattle.walk.specs.Answers as a
use Rattle.synthesis_arena.specs.declared.BadChain.{BadChain}

-- the depth of a node: how many gates its list has; a bad chain is refused by 13 (SPECIFICATION 7.5)
abbrev pub depth_of : Chain → Answer
depth_of (good l) = given (length l)
depth_of bad = refused 13 0

-- the number and the values of each case
abbrev pub told_depth : Result ℕ BadChain → Answer
told_depth (Ok m) = given m
told_depth (Err _) = refused 13 0

abbrev pub told_circuit : Result ℕ BadChain → Reply
told_circuit (Ok m) = a.given m
told_circuit (Err _) = a.refused 13 0

-- the depth of a node by its parent's: one more, and refused where that is
abbrev pub one_more_of : Answer → Answer
one_more_of (given m) = given (suc m)
one_more_of (refused r p) = refused r p

-- the depth of a node whose chain is good: 0 at node 0, and one more than its parent's elsewhere
pub record Depths (n basis limit : ℕ) (parents codes : List ℕ) (node : ℕ) : Type 0 where
  pub root_depth : (l : List ℕ) → chain_of n basis parents codes limit node ≡ good l → node ≡ 0 → depth_of (chain_of n basis parents codes limit node) ≡ given 0
  pub one_more : (l : List ℕ) → chain_of n basis parents codes limit node ≡ good l → 0 < node
      → depth_of (chain_of n basis parents codes limit node) ≡ one_more_of (depth_of (chain_of n basis parents codes limit (get_or parents node 0)))
