-- The chain of a node, whatever the arrays of parents and codes hold: its gates, oldest first, or that the chain is bad
-- (SPECIFICATION 7.5). It is formed by recursion on how many gates the gate limit leaves, so that it ends in any
-- memory. Assumes nothing.
use Rattle.std.specs.Prelude.{Bool, ◌&&◌, List, [], ◌∷◌, ◌++◌, ℕ, zero, suc, eqb, ltb, get_or}
use Rattle.ints.specs.Lists.{pick}
use Rattle.circuit.specs.Codes.{valid_for, mark}

-- node 0 has both its marks (SPECIFICATION 6.3)
unfoldable pub marked : List ℕ → List ℕ → Bool
marked parents codes = eqb (get_or parents 0 0) mark && eqb (get_or codes 0 0) mark

-- a node's gates, oldest first; or the chain is bad, which is refused by 13
pub data Chain : Type 0 where
  good : List ℕ → Chain
  bad : Chain

-- one gate after a chain
abbrev pub then : Chain → ℕ → Chain
then (good l) g = good (l ++ (g ∷ []))
then bad g = bad

-- a node's chain from its parent's: bad if node 0 lacks a mark, a parent is not below, or a code is not valid for the
-- basis (SPECIFICATION 7.5)
abbrev pub linked : ℕ → ℕ → List ℕ → List ℕ → Chain → ℕ → Chain
linked n basis parents codes rest zero = pick (marked parents codes) (good []) bad
linked n basis parents codes rest (suc node) =
    pick (ltb (get_or parents (suc node) 0) (suc node) && valid_for n basis (get_or codes (suc node) 0)) (then rest (get_or codes (suc node) 0)) bad

-- a node's chain where so many gates are allowed: one with more is bad (SPECIFICATION 7.5)
unfoldable pub chain_of : ℕ → ℕ → List ℕ → List ℕ → ℕ → ℕ → Chain
chain_of n basis parents codes zero node = linked n basis parents codes bad node
chain_of n basis parents codes (suc left) node = linked n basis parents codes (chain_of n basis parents codes left (get_or parents node 0)) node
