-- How nodes come to be, one after the other, and what holds of them: with no law on the parts that the walk is handed.
-- Assumes nothing.
use mathlib.Core.Path.{◌≡◌}
use mathlib.Core.Logic.{◌⊎◌}
use mathlib.Core.Bool.{true, false}
use mathlib.Core.List.{List, [], ◌∷◌, ◌++◌, Memᴰ}
use Prim.Native.Nat.{ℕ, suc, ◌≤◌, ◌<◌}
use lib.ListN.{length, get_or}
use Rattle.walk.specs.Walk.{Rules, Node, Build, root, is_nil, list_at, prod, pruned, skipped, child}

-- the first list is the beginning of the second
pub record Prefix {A : Type 0} (ns ms : List A) : Type 0 where
  pub rest : List A
  pub is : ms ≡ ns ++ rest

-- the parent of a node
abbrev pub parent_at : List Node → ℕ → ℕ
parent_at ns k = (get_or ns k root).parent

-- no node but the first has a parent past k
abbrev pub ParentsTo : ℕ → List Node → Type 0
ParentsTo k ns = (j : ℕ) → j < length ns → 0 < j → parent_at ns j ≤ k

module _ (R : Rules) where
  -- node 0, and then each a candidate that was not skipped, after a node that is there and is no lower than the parents
  -- before it
  pub data Grown : List Node → Type 0 where
    alone : Grown (root ∷ [])
    more : {ns : List Node} (k g : ℕ) → Grown ns → k < length ns → ParentsTo k ns → Memᴰ g R.generators → skipped R ns k g ≡ false
        → Grown (ns ++ (child R ns k g ∷ []))

  -- what joins node k, not the first, to its parent: the parent lies below it, its list is its parent's list and its
  -- gate, which is a generator, was not skipped by the gate before it, and fits
  pub record Link (ns : List Node) (k : ℕ) (n : Node) : Type 0 where
    pub below : n.parent < k
    pub code : ℕ
    pub generator : Memᴰ code R.generators
    pub is : n.list ≡ code ∷ list_at ns n.parent
    pub kept : pruned R code (list_at ns n.parent) ≡ false
    pub fit : R.fits code (prod R (list_at ns n.parent)) ≡ true

  -- The invariant of a width after a depth. The layers before the last are less deep than the completed depth; where
  -- the width is not saturated, the last layer is just as deep, and no parent lies past its beginning; where it is,
  -- some nodes of the next depth may follow
  pub record Layered (b : Build) : Type 0 where
    pub grown : Grown b.nodes
    pub start : b.last ≤ length b.nodes
    pub before : (j : ℕ) → j < b.last → length (list_at b.nodes j) < b.depth
    pub within : b.saturated ≡ false → (j : ℕ) → j < length b.nodes → b.last ≤ j → length (list_at b.nodes j) ≡ b.depth
    pub parents : b.saturated ≡ false → ParentsTo b.last b.nodes
    pub deep : (j : ℕ) → j < length b.nodes → length (list_at b.nodes j) ≤ suc b.depth

  -- The invariant of a width at the end of its walk, with gate limit G and entry limit E: the count is at most E, and E
  -- where the width is saturated; no list is longer than G
  pub record Shape (G E : ℕ) (b : Build) : Type 0 where
    pub layered : Layered b
    pub depth : b.depth ≤ G
    pub count : 0 < E → length b.nodes ≤ E
    pub full : b.saturated ≡ true → E ≤ length b.nodes
    pub limit : (k : ℕ) → k < length b.nodes → length (list_at b.nodes k) ≤ G
    -- an unsaturated one ended because G depths were walked, or the last depth added nothing, or there are no
    -- generators
    pub why : b.saturated ≡ false → (b.depth ≡ G) ⊎ (b.last ≡ length b.nodes) ⊎ (is_nil R.generators ≡ true)
