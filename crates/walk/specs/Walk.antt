-- The walk of one width: node 0 is the empty list, and depth by depth each node of the last layer tries each generator
-- (SPECIFICATION 6.4). Steps on states: one candidate, one node, one depth, a width. What the walk is handed is a
-- parameter: its laws hold for other tests too.
-- Why layers: each list of d gates is dealt with before any list of d + 1 gates; so the first list found for a product
-- is a shortest one, if no fingerprints clash or clashing nodes are kept.
-- Why the two skip rules lose no product (SPECIFICATION 6.13): a list that ends in a gate and its inverse has the
-- product of a list two gates shorter, with which an earlier depth has dealt; and last gates that share no qubit can be
-- exchanged without changing the product. Of the two orders the one with rising codes is kept: it ends in the greater
-- code, and codes are bounded, so that exchanging comes to an end. proofs/Completeness shows it. Assumes nothing.
use Rattle.std.specs.Prelude.{Bool, true, false, not, ◌||◌, ◌&&◌, List, [], ◌∷◌, ◌++◌, ℕ, zero, suc, ◌-◌, ltb, eqb, length, get_or}
use Rattle.ints.specs.Lists.{pick}
use Rattle.circuit.specs.Codes.{mark}

-- What the walk is handed. Mat: exact matrices; one: the identity; act: the step by a gate; fits: that step fits
-- (SPECIFICATION 3.3, 3.4).
-- known x y: a candidate with the matrix y counts as known by a node with the matrix x; Modes says by what
-- (SPECIFICATION 6.7, 6.16).
-- answers x y: a node with the matrix x answers a query with the matrix y (SPECIFICATION 7.4).
-- equal: equal up to phase, the recheck's test (SPECIFICATION 1.12).
-- inverse, disjoint: the tests on a gate and the gate before it (SPECIFICATION 2.6, 2.7).
-- generators: those of the width (SPECIFICATION 2.8).
pub record Rules : Type 1 where
  pub Mat : Type 0
  pub one : Mat
  pub act : ℕ → Mat → Mat
  pub fits : ℕ → Mat → Bool
  pub known : Mat → Mat → Bool
  pub answers : Mat → Mat → Bool
  pub equal : Mat → Mat → Bool
  pub inverse : ℕ → ℕ → Bool
  pub disjoint : ℕ → ℕ → Bool
  pub generators : List ℕ

-- A node: its parent's number, and its list of gates, the NEWEST first: so a node's list is its gate and its parent's
-- list (SPECIFICATION 6.3).
pub record Node : Type 0 where
  pub parent : ℕ
  pub list : List ℕ

-- within a depth: the nodes so far, and whether the width is saturated
pub record State : Type 0 where
  pub nodes : List Node
  pub saturated : Bool

-- between depths: the nodes so far, the number of the first node of the last layer, the completed depth, and whether
-- the width is saturated. The count is the number of nodes (SPECIFICATION 6.8, 6.9)
pub record Build : Type 0 where
  pub nodes : List Node
  pub last : ℕ
  pub depth : ℕ
  pub saturated : Bool

-- node 0: the empty list, with the mark as its parent (SPECIFICATION 6.3)
abbrev pub root : Node
root = record { parent = mark; list = [] }

-- the gate of a node: the newest of its list; node 0 has the mark (SPECIFICATION 2.10)
abbrev pub gate : Node → ℕ
gate n = get_or n.list 0 mark

-- the list of node k
abbrev pub list_at : List Node → ℕ → List ℕ
list_at ns k = (get_or ns k root).list

-- the test holds of one of them
abbrev pub any : {A : Type 0} → (A → Bool) → List A → Bool
any f [] = false
any f (x ∷ xs) = f x || any f xs

-- the list is empty
abbrev pub is_nil : List ℕ → Bool
is_nil [] = true
is_nil (x ∷ xs) = false

-- node 0 alone
abbrev pub begin : Build
begin = record { nodes = root ∷ []; last = 0; depth = 0; saturated = false }

-- the state before the next depth
abbrev pub opened : Build → State
opened b = record { nodes = b.nodes; saturated = b.saturated }

-- the width after a depth: one at which it became saturated does not count as completed, one that was walked to its end
-- does (SPECIFICATION 6.9)
abbrev pub settled : Build → State → Build
settled b s =
    pick s.saturated (record { nodes = s.nodes; last = b.last; depth = b.depth; saturated = true })
    (record { nodes = s.nodes; last = length b.nodes; depth = suc b.depth; saturated = false })

-- the width ends: it is saturated, or its last depth added no node (SPECIFICATION 6.9)
abbrev pub ended : Build → Bool
ended b = b.saturated || eqb b.last (length b.nodes)

-- the product of a list, newest gate first
abbrev pub prod_by : {A : Type 0} → A → (ℕ → A → A) → List ℕ → A
prod_by one act [] = one
prod_by one act (g ∷ l) = act g (prod_by one act l)

module _ (R : Rules) where
  -- it depends on the matrices alone, so it is the same in each mode
  abbrev pub prod : List ℕ → R.Mat
  prod l = prod_by R.one R.act l

  -- skipped by its last two gates, first h and then g: g undoes h, or they share no qubit and their codes fall
  -- (SPECIFICATION 6.5)
  abbrev pub pruned : ℕ → List ℕ → Bool
  pruned g [] = false
  pruned g (h ∷ l) = R.inverse g h || (R.disjoint g h && ltb g h)

  -- a candidate with the matrix x counts as known by the node (SPECIFICATION 6.7)
  abbrev pub knows : R.Mat → Node → Bool
  knows x n = R.known (prod n.list) x

  -- the matrix of the candidate: generator g after node k
  abbrev pub candidate : List Node → ℕ → ℕ → R.Mat
  candidate ns k g = R.act g (prod (list_at ns k))

  -- the candidate is skipped: by its last two gates, because its step does not fit, or because it is known
  -- (SPECIFICATION 6.5 to 6.7)
  unfoldable pub skipped : List Node → ℕ → ℕ → Bool
  skipped ns k g = pruned g (list_at ns k) || (not (R.fits g (prod (list_at ns k))) || any (knows (candidate ns k g)) ns)

  -- the node that the candidate becomes
  abbrev pub child : List Node → ℕ → ℕ → Node
  child ns k g = record { parent = k; list = g ∷ list_at ns k }

  -- One candidate: where it is not skipped, it is appended if there is room, and otherwise makes the width saturated,
  -- after which nothing changes (SPECIFICATION 6.8). most: the most nodes that the width may come to have, which is E
  -- where each width has its own entry limit
  unfoldable pub try : ℕ → State → ℕ → ℕ → State
  try most s k g =
      pick (s.saturated || skipped s.nodes k g) s
      (pick (ltb (length s.nodes) most)
      (record { nodes = s.nodes ++ (child s.nodes k g ∷ []); saturated = false })
      (record { nodes = s.nodes; saturated = true }))

  -- one node: the generators after node k, in order
  unfoldable pub try_all : ℕ → State → ℕ → List ℕ → State
  try_all most s k [] = s
  try_all most s k (g ∷ gs) = try_all most (try most s k g) k gs

  -- m nodes, in order from number k on
  unfoldable pub layer : ℕ → State → ℕ → ℕ → State
  layer most s k zero = s
  layer most s k (suc m) = layer most (try_all most s k R.generators) (suc k) m

  -- the state after the next depth
  abbrev pub walked : ℕ → Build → State
  walked most b = layer most (opened b) b.last (length b.nodes - b.last)

  -- one depth: all nodes of the last layer, in order, with all generators (SPECIFICATION 6.4)
  unfoldable pub deeper : ℕ → Build → Build
  deeper most b = settled b (walked most b)

  -- at most m depths more
  unfoldable pub depths : ℕ → Build → ℕ → Build
  depths most b zero = b
  depths most b (suc m) =
      let r : Build = depths most (deeper most b) m in
      pick (ended b) b r

  -- the walk of a width, at most G depths; without generators there is node 0 alone (SPECIFICATION 6.4, 6.9)
  unfoldable pub walk : ℕ → ℕ → Build
  walk G E = pick (is_nil R.generators) begin (depths E begin G)
