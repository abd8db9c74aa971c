-- The node that answers a matrix in one width's part of a lent table, whatever the arrays hold: look-up, chain, recheck
-- (SPECIFICATION 7.4 to 7.6). That a node found is right rests on the recheck alone. Assumes nothing.
use Rattle.std.specs.Prelude.{Bool, true, false, ◌&&◌, List, ℕ, zero, suc, length}
use Rattle.ints.specs.Lists.{pick}
use Rattle.exact.specs.Matrix.{Exact}
use Rattle.exact.specs.Lists.{product}
use Rattle.exact.specs.Fits.{Steps, all_fit, unfit_at, steps}
use Rattle.exact.specs.Phase.{up_to_phase}
use Rattle.exact.specs.Fingerprint.{fingerprint}
use Rattle.walk.specs.Lookup.{Lookup, found}
use Rattle.walk.specs.Lookup as lookup
use Rattle.walk.specs.Index.{By, looked_up}
use Rattle.walk.specs.Chains.{Chain, good, bad, chain_of}

-- ---- what is asked of

-- the limits of a width: its number, the basis, the gate limit, the entry limit (SPECIFICATION 6.1)
pub record WidthLimits : Type 0 where
  pub width : ℕ
  pub basis : ℕ
  pub gates : ℕ
  pub entries : ℕ

-- a width's part of the three arrays, how many nodes it has, and how it is looked up, with its part of the index
-- (SPECIFICATION 6.2, 7.13)
pub record Part : Type 0 where
  pub fingerprints : List ℕ
  pub parents : List ℕ
  pub codes : List ℕ
  pub count : ℕ
  pub by : By
  pub index : List ℕ

abbrev pub part_with : By → List ℕ → List ℕ → List ℕ → ℕ → List ℕ → Part
part_with by f u c count i = record { fingerprints = f; parents = u; codes = c; count = count; by = by; index = i }

-- ---- the recheck

-- every step fits
abbrev pub fits_all : Steps → Bool
fits_all all_fit = true
fits_all (unfit_at i) = false

-- a list passes for the matrix x: all its steps fit, and its product is equal up to phase to x (SPECIFICATION 7.6)
unfoldable pub rechecked : ℕ → List ℕ → Exact → Bool
rechecked n l x = fits_all (steps n l) && up_to_phase n (product n l) x

-- ---- what is found

-- a node and how many gates its list has; none; or a refusal: first its number, then its position
pub data Finding : Type 0 where
  node : ℕ → ℕ → Finding
  none : Finding
  refused : ℕ → ℕ → Finding

-- the chain of a node in a width's part
abbrev pub chain_at : WidthLimits → Part → ℕ → Chain
chain_at limits part k = chain_of limits.width limits.basis part.parents part.codes limits.gates k

-- by the chain of node k: the node is found where its list passes the recheck, and 13 is told where the chain is bad;
-- `rest` is what is found where the list does not pass (SPECIFICATION 7.5, 7.6)
abbrev pub by_chain : ℕ → Exact → ℕ → Finding → Chain → Finding
by_chain n x k rest (good l) = pick (rechecked n l x) (node k (length l)) rest
by_chain n x k rest bad = refused 13 0

-- by what the look-up gave: the chain of the node is read, and `further` goes on from the next node; no node, none
-- (SPECIFICATION 7.4)
abbrev pub by_lookup : WidthLimits → Part → Exact → (ℕ → Finding) → Lookup → Finding
by_lookup limits part x further (found k) = by_chain limits.width x k (further (suc k)) (chain_at limits part k)
by_lookup limits part x further lookup.none = none

-- the node to which a fingerprint leads, not below a start, by the scan or through the index
abbrev pub looked_in : Part → ℕ → ℕ → Lookup
looked_in part from y = looked_up part.by part.index part.fingerprints part.count from y

-- the nodes to which the fingerprint y leads, rising, until one is found for x or has a bad chain. At most m are looked
-- at; each lies past the one before, so as many as there are nodes are enough
unfoldable pub find_from : WidthLimits → Part → ℕ → Exact → ℕ → ℕ → Finding
find_from limits part y x zero from = none
find_from limits part y x (suc m) from = by_lookup limits part x (λ next. find_from limits part y x m next) (looked_in part from y)

-- the node found for the matrix x by the fingerprint y
unfoldable pub find_by : WidthLimits → Part → ℕ → Exact → Finding
find_by limits part y x = find_from limits part y x part.count 0

-- by its own fingerprint. Where the look-up finds the scan's node this is the lowest node that has it and whose list
-- passes the recheck, but for a bad chain before it (SPECIFICATION 7.4 to 7.6, 7.15; Meaning has the words)
abbrev pub find_of : WidthLimits → Part → Exact → Finding
find_of limits part x = find_by limits part (fingerprint limits.width x) x

-- a node is found
abbrev pub is_node : Finding → Bool
is_node (node k m) = true
is_node none = false
is_node (refused r p) = false
