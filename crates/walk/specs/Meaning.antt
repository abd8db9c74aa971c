-- What look-ups, chains, finds, writes and answers come to, said of nodes, of the way along the parents and of lists: a
-- second form of the definitions of Lookup, Chains, Finds and Answers, shown to be equivalent, so that these can be
-- checked by reading it. Assumes nothing.
use Rattle.std.specs.Prelude.{◌≡◌, true, false, List, ◌++◌, ◌↔◌, ℕ, zero, suc, ◌-◌, ◌≤◌, ◌<◌, length, get_or, drop}
use Rattle.ints.specs.Lists.{all}
use Rattle.circuit.specs.Codes.{valid_for, mark}
use Rattle.exact.specs.Matrix.{Exact, PowerOf}
use Rattle.exact.specs.Lists.{product}
use Rattle.exact.specs.Fits.{all_fit, unfit_at, steps}
use Rattle.exact.specs.Phase.{up_to_phase}
use Rattle.exact.specs.Unitary.{Unitary}
use Rattle.exact.specs.Fingerprint.{fingerprint}
use Rattle.walk.specs.Lookup.{found, lowest_from}
use Rattle.walk.specs.Lookup as lookup
use Rattle.walk.specs.Index.{By, scan, indexed, looked_up}
use Rattle.walk.specs.IndexLaws.{ComesTo, ComesToNone}
use Rattle.walk.specs.Chains.{good, bad, chain_of}
use Rattle.walk.specs.Finds.{WidthLimits, Part, looked_in, find_of}
use Rattle.walk.specs.Finds as f
use Rattle.walk.specs.Answers.{given, none, refused, outcome, write_of, answer_of}

-- ---- the look-up

-- a node has the fingerprint, is below the count and not below the start, and none before it has (SPECIFICATION 7.4)
pub record LowestNode (fingerprints : List ℕ) (count from fingerprint node : ℕ) : Type 0 where
  pub has : get_or fingerprints node 0 ≡ fingerprint
  pub below : node < count
  pub not_before : from ≤ node
  pub none_before : (m : ℕ) → from ≤ m → m < node → get_or fingerprints m 0 ≡ fingerprint → ⊥

-- none has it
pub record Nowhere (fingerprints : List ℕ) (count from fingerprint : ℕ) : Type 0 where
  pub none_has : (m : ℕ) → from ≤ m → m < count → get_or fingerprints m 0 ≡ fingerprint → ⊥

-- the definition, said of nodes
pub record LooksUp (fingerprints : List ℕ) (count from fingerprint : ℕ) : Type 0 where
  pub is_found : (node : ℕ) → (lowest_from fingerprints count from fingerprint ≡ found node) ↔ LowestNode fingerprints count from fingerprint node
  pub is_none : (lowest_from fingerprints count from fingerprint ≡ lookup.none) ↔ Nowhere fingerprints count from fingerprint

-- the node to which either look-up leads; that there is none
abbrev pub LeadsTo : By → List ℕ → List ℕ → ℕ → ℕ → ℕ → ℕ → Type 0
LeadsTo scan index fingerprints count from fingerprint node = LowestNode fingerprints count from fingerprint node
LeadsTo indexed index fingerprints count from fingerprint node = ComesTo index fingerprints count from fingerprint node

abbrev pub LeadsNowhere : By → List ℕ → List ℕ → ℕ → ℕ → ℕ → Type 0
LeadsNowhere scan index fingerprints count from fingerprint = Nowhere fingerprints count from fingerprint
LeadsNowhere indexed index fingerprints count from fingerprint = ComesToNone index fingerprints count from fingerprint

-- the definition, for either
pub record Leads (by : By) (index fingerprints : List ℕ) (count from fingerprint : ℕ) : Type 0 where
  pub is_found : (node : ℕ) → (looked_up by index fingerprints count from fingerprint ≡ found node) ↔ LeadsTo by index fingerprints count from fingerprint node
  pub is_none : (looked_up by index fingerprints count from fingerprint ≡ lookup.none) ↔ LeadsNowhere by index fingerprints count from fingerprint

-- ---- the chain

-- the way from a node along the parents, which ends at node 0, comes to the node m after i gates
abbrev pub Trail : List ℕ → ℕ → ℕ → ℕ → Type 0
Trail parents node zero m = node ≡ m
Trail parents node (suc i) m = (0 < node) × Trail parents (get_or parents node 0) i m

-- the way meets a fault: one case for each reason of SPECIFICATION 7.5, and one for each of node 0's two marks; limit
-- is the gate limit
pub data Fault (n basis limit : ℕ) (parents codes : List ℕ) (node : ℕ) : Type 0 where
  not_below : (i m : ℕ) → Trail parents node i m → 0 < m → m ≤ get_or parents m 0 → Fault n basis limit parents codes node
  not_valid : (i m : ℕ) → Trail parents node i m → 0 < m → valid_for n basis (get_or codes m 0) ≡ false → Fault n basis limit parents codes node
  too_many : (i m : ℕ) → Trail parents node i m → limit < i → Fault n basis limit parents codes node
  no_parent_mark_lem : (i : ℕ) → Trail parents node i 0 → (get_or parents 0 0 ≡ mark → ⊥) → Fault n basis limit parents codes node
  no_code_mark_lem : (i : ℕ) → Trail parents node i 0 → (get_or codes 0 0 ≡ mark → ⊥) → Fault n basis limit parents codes node

-- the list of a way that meets none: the gate passed i-th, counted from 0, is the i-th from the list's end
pub record Gates (n basis limit : ℕ) (parents codes : List ℕ) (node : ℕ) (l : List ℕ) : Type 0 where
  pub valid : all (valid_for n basis) l ≡ true
  pub short : length l ≤ limit
  pub ends : Trail parents node (length l) 0
  pub parent_mark : get_or parents 0 0 ≡ mark
  pub code_mark : get_or codes 0 0 ≡ mark
  pub falls : (i m : ℕ) → Trail parents node i m → 0 < m → get_or parents m 0 < m
  pub gate : (i m : ℕ) → i < length l → Trail parents node i m → get_or l (length l - suc i) 0 ≡ get_or codes m 0

-- the definition, said of the way along the parents
pub record Chained (n basis limit : ℕ) (parents codes : List ℕ) (node : ℕ) : Type 0 where
  pub is_bad_lem : (chain_of n basis parents codes limit node ≡ bad) ↔ Fault n basis limit parents codes node
  pub is_good_lem : (l : List ℕ) → (chain_of n basis parents codes limit node ≡ good l) ↔ Gates n basis limit parents codes node l

-- ---- the find

module _ (limits : WidthLimits) (part : Part) (x : Exact) where
  -- the node to which the fingerprint of x leads, not below a start; that there is none; the list of the way from a
  -- node, or that the way meets a fault
  abbrev pub FoundNode : ℕ → ℕ → Type 0
  FoundNode from node = LeadsTo part.by part.index part.fingerprints part.count from (fingerprint limits.width x) node

  abbrev pub NotFoundAny : ℕ → Type 0
  NotFoundAny from = LeadsNowhere part.by part.index part.fingerprints part.count from (fingerprint limits.width x)

  abbrev pub GatesOf : ℕ → List ℕ → Type 0
  GatesOf node l = Gates limits.width limits.basis limits.gates part.parents part.codes node l

  abbrev pub FaultOf : ℕ → Type 0
  FaultOf node = Fault limits.width limits.basis limits.gates part.parents part.codes node

  -- a node is passed: the way from it gives a list that does not fit, or that is not equal up to phase to x
  pub data Passed (node : ℕ) : Type 0 where
    does_not_fit_lem : (i : ℕ) (l : List ℕ) → GatesOf node l → steps limits.width l ≡ unfit_at i → Passed node
    not_equal : (l : List ℕ) → GatesOf node l → up_to_phase limits.width (product limits.width l) x ≡ false → Passed node

  -- the nodes that are looked at: that to which the fingerprint leads, and after one that is passed that to which it
  -- leads past it
  pub data LookedAt : ℕ → Type 0 where
    at_first : (node : ℕ) → FoundNode 0 node → LookedAt node
    past : (before node : ℕ) → LookedAt before → Passed before → FoundNode (suc before) node → LookedAt node

  -- the node is looked at; the way from it gives the list, every step fits, and the product is equal up to phase to x
  -- (SPECIFICATION 7.6)
  pub record FoundBy (node : ℕ) (l : List ℕ) : Type 0 where
    pub leads : LookedAt node
    pub gates : GatesOf node l
    pub fits : steps limits.width l ≡ all_fit
    pub equal : up_to_phase limits.width (product limits.width l) x ≡ true

  -- the fingerprint leads to no node, or to none past one that is passed
  pub data NoList : Type 0 where
    not_found : NotFoundAny 0 → NoList
    no_more : (node : ℕ) → LookedAt node → Passed node → NotFoundAny (suc node) → NoList

  -- the way from a node that is looked at meets a fault
  pub record BadFound : Type 0 where
    pub node : ℕ
    pub leads : LookedAt node
    pub fault : FaultOf node

  -- the definition, said by these
  pub record FindMeans : Type 0 where
    pub is_node_lem : (k m : ℕ) → (find_of limits part x ≡ f.node k m) ↔ ((l : List ℕ) × FoundBy k l × (m ≡ length l))
    pub is_none : (find_of limits part x ≡ f.none) ↔ NoList
    pub is_refused : (a i : ℕ) → (find_of limits part x ≡ f.refused a i) ↔ (BadFound × (a ≡ 13) × (i ≡ 0))

  -- ---- where the look-up finds the scan's node: nodes with the fingerprint, rising (SPECIFICATION 7.4)

  -- as the scan does, and an index with a place for each node that was filled from the fingerprints
  abbrev pub AsScan : Type 0
  AsScan = (from y : ℕ) → looked_in part from y ≡ lowest_from part.fingerprints part.count from y

  -- the node is below the count and has the fingerprint of x
  pub record HasPrint (node : ℕ) : Type 0 where
    pub below : node < part.count
    pub has : get_or part.fingerprints node 0 ≡ fingerprint limits.width x

  -- and every lower node that has it is passed
  pub record AllLowerPassed (node : ℕ) : Type 0 where
    pub print : HasPrint node
    pub passed : (m : ℕ) → m < node → HasPrint m → Passed m

  pub record ScanMeans : Type 0 where
    pub is_node_lem : (k m : ℕ) → (find_of limits part x ≡ f.node k m)
        ↔ ((l : List ℕ) × AllLowerPassed k × GatesOf k l × (steps limits.width l ≡ all_fit) × (up_to_phase limits.width (product limits.width l) x ≡ true) × (m ≡ length l))
    pub is_none : (find_of limits part x ≡ f.none) ↔ ((m : ℕ) → HasPrint m → Passed m)
    pub is_refused : (a i : ℕ) → (find_of limits part x ≡ f.refused a i) ↔ (((k : ℕ) × AllLowerPassed k × FaultOf k) × (a ≡ 13) × (i ≡ 0))

  -- no two nodes have one fingerprint
  abbrev pub Distinct : Type 0
  Distinct = (i j : ℕ) → i < j → j < part.count → get_or part.fingerprints i 0 ≡ get_or part.fingerprints j 0 → ⊥

  -- the rule of the first node alone: what it does not give is not looked for further on
  abbrev pub find_first : f.Finding
  find_first = f.by_lookup limits part x (λ next. f.none) (looked_in part 0 (fingerprint limits.width x))

  -- ---- the answer: what is told, and what the lent list then holds

  -- some node is found, with the list
  pub record AnsweredBy (l : List ℕ) : Type 0 where
    pub node : ℕ
    pub found : FoundBy node l

  pub record Means (out : List ℕ) : Type 0 where
    pub is_list : (m : ℕ) (after : List ℕ)
        → (answer_of limits part x out ≡ outcome (given m) after) ↔ ((l : List ℕ) × AnsweredBy l × (m ≡ length l) × (after ≡ l ++ drop m out))
    pub is_none : (after : List ℕ) → (answer_of limits part x out ≡ outcome none after) ↔ (NoList × (after ≡ out))
    pub is_refused : (a i : ℕ) (after : List ℕ)
        → (answer_of limits part x out ≡ outcome (refused a i) after) ↔ (BadFound × (a ≡ 13) × (i ≡ 0) × (after ≡ out))

-- which node a find comes to (SPECIFICATION 7.4 to 7.6, 7.15)
pub record FindRule : Type 0 where
  -- whatever part is lent
  pub means : (limits : WidthLimits) (part : Part) (x : Exact) → FindMeans limits part x
  -- the lowest node with the fingerprint whose product is equal up to phase; a bad chain before it refuses by 13
  pub lowest : (limits : WidthLimits) (part : Part) (x : Exact) → AsScan limits part x → ScanMeans limits part x
  -- where no two nodes have one fingerprint, the rule of the first node alone gives the same
  pub distinct : (limits : WidthLimits) (part : Part) (x : Exact) → Distinct limits part x → find_of limits part x ≡ find_first limits part x

-- ---- the write: the list of the way from the node, or a fault

pub record WriteMeans (limits : WidthLimits) (part : Part) (node : ℕ) (out : List ℕ) : Type 0 where
  pub is_list : (m : ℕ) (after : List ℕ) → (write_of limits part node out ≡ outcome (given m) after)
      ↔ ((l : List ℕ) × Gates limits.width limits.basis limits.gates part.parents part.codes node l × (m ≡ length l) × (after ≡ l ++ drop m out))
  pub never_none : (after : List ℕ) → write_of limits part node out ≡ outcome none after → ⊥
  pub is_refused : (a i : ℕ) (after : List ℕ) → (write_of limits part node out ≡ outcome (refused a i) after)
      ↔ (Fault limits.width limits.basis limits.gates part.parents part.codes node × (a ≡ 13) × (i ≡ 0) × (after ≡ out))

-- ---- what holds of a list answered and of the matrix asked, whatever the arrays hold

-- the product is a power of omega times the matrix, the list is one of the basis at the width and within the gate
-- limit, and the matrix is unitary, so that any other gets none (SPECIFICATION 7.8, 8.3)
pub record Right (n basis limit : ℕ) (x : Exact) (l : List ℕ) : Type 0 where
  pub power : PowerOf n x (product n l)
  pub valid : all (valid_for n basis) l ≡ true
  pub short : length l ≤ limit
  pub unitary : Unitary n x
