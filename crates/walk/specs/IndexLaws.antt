-- What an index of a part leads to, whatever the fingerprints are, equal ones among them; and what a probe comes to, said of
-- places, whatever the part holds (SPECIFICATION 7.13 to 7.15). Assumes nothing.
use Rattle.std.specs.Prelude.{◌≡◌, List, [], ◌∷◌, ◌↔◌, ℕ, suc, ◌+◌, ◌%◌, ◌≤◌, ◌<◌, length, get_or, set}
use Rattle.circuit.specs.Codes.{mark}
use Rattle.walk.specs.Lookup.{found, none, lowest_from}
use Rattle.walk.specs.Index.{place_of, probed, By, scan, indexed, looked_up, kept_up, kept}

-- a node is below the count, not below the start, and has the fingerprint
pub record NodeFrom (fingerprints : List ℕ) (count from fingerprint node : ℕ) : Type 0 where
  pub not_before : from ≤ node
  pub below : node < count
  pub has : get_or fingerprints node 0 ≡ fingerprint

-- ---- a probe, said of places

-- what stands at step j of the probe of a fingerprint
abbrev pub at_step : List ℕ → ℕ → ℕ → ℕ
at_step index fingerprint j = get_or index (place_of (length index) fingerprint j) 0

-- no place up to step j is empty
abbrev pub FullTo : List ℕ → ℕ → ℕ → Type 0
FullTo index fingerprint j = (i : ℕ) → i ≤ j → at_step index fingerprint i ≡ mark → ⊥

module _ (index fingerprints : List ℕ) (count from fingerprint : ℕ) where
  -- the node stands at a step up to which no place is empty, and no earlier step leads to a node
  pub record ComesTo (node : ℕ) : Type 0 where
    pub step : ℕ
    pub near : step < length index
    pub stands : at_step index fingerprint step ≡ node
    pub leads_to : NodeFrom fingerprints count from fingerprint node
    pub full : FullTo index fingerprint step
    pub none_before : (i : ℕ) → i < step → NodeFrom fingerprints count from fingerprint (at_step index fingerprint i) → ⊥

  -- no step leads to a node but behind an empty place
  pub record ComesToNone : Type 0 where
    pub none_leads : (i : ℕ) → i < length index → FullTo index fingerprint i → NodeFrom fingerprints count from fingerprint (at_step index fingerprint i) → ⊥

  pub record Probes : Type 0 where
    pub is_found : (node : ℕ) → (probed index fingerprints count from fingerprint ≡ found node) ↔ ComesTo node
    pub is_none : (probed index fingerprints count from fingerprint ≡ none) ↔ ComesToNone

-- ---- either look-up

-- a part has room for the nodes below the count: a place for each, and no node's number is the mark. The scan wants
-- none
abbrev pub Roomy : By → ℕ → List ℕ → Type 0
Roomy by count old = by ≡ indexed → (count ≤ length old) × (count ≤ mark)

pub record Indexing : Type 0 where
  -- a probe begins at the fingerprint's remainder by the size, and each step goes to the next place, round the part
  pub begins : (size fingerprint : ℕ) → 0 < size → place_of size fingerprint 0 ≡ fingerprint % size
  pub onward : (size fingerprint j : ℕ) → place_of size fingerprint (j + 1) ≡ (place_of size fingerprint j + 1) % size
  -- as many places as nodes are enough
  pub enough : (old : List ℕ) → length old ≤ mark → Roomy indexed (length old) old
  -- the scan leaves what was lent
  pub scan_leaves : (fingerprints old : List ℕ) (count : ℕ) → kept scan fingerprints count old ≡ old
  -- computed: node 1 meets node 0 at the last place and goes round; node 2, with node 0's fingerprint, comes after
  -- both, and is found from 1 on; a part without an empty place, whose numbers are all past the count, leads to none;
  -- put into such a part a node is left out, and so a part with fewer places than nodes misses one
  pub computed : (kept indexed (7 ∷ 3 ∷ 7 ∷ []) 3 (0 ∷ 0 ∷ 0 ∷ 0 ∷ []) ≡ 1 ∷ 2 ∷ mark ∷ 0 ∷ [])
      × (looked_up indexed (1 ∷ 2 ∷ mark ∷ 0 ∷ []) (7 ∷ 3 ∷ 7 ∷ []) 3 1 7 ≡ found 2)
      × (looked_up indexed (5 ∷ 5 ∷ []) (7 ∷ 3 ∷ []) 2 0 3 ≡ none)
      × (kept_up indexed (5 ∷ 6 ∷ []) 3 1 ≡ 5 ∷ 6 ∷ [])
      × (looked_up indexed (kept indexed (7 ∷ 3 ∷ []) 2 (0 ∷ [])) (7 ∷ 3 ∷ []) 2 0 3 ≡ none)
  -- in the part that goes with a table either look-up finds the lowest node with the fingerprint
  pub same : (by : By) (fingerprints old : List ℕ) (count from fingerprint : ℕ) → Roomy by count old
      → looked_up by (kept by fingerprints count old) fingerprints count from fingerprint ≡ lowest_from fingerprints count from fingerprint
  -- kept up with one node more, it is the part that goes with the table that has this node too
  pub more : (by : By) (fingerprints old : List ℕ) (count fingerprint : ℕ) → count < length fingerprints
      → kept_up by (kept by fingerprints count old) fingerprint count ≡ kept by (set fingerprints count fingerprint) (suc count) old
  -- whatever the part holds: a node that is found has the fingerprint, is below the count and not below the start
  pub sound : (by : By) (index fingerprints : List ℕ) (count from fingerprint node : ℕ)
      → looked_up by index fingerprints count from fingerprint ≡ found node → NodeFrom fingerprints count from fingerprint node
  -- whatever the part holds: an empty place ends a probe, and every other place that does not lead to a node is passed
  -- over
  pub probe : (index fingerprints : List ℕ) (count from fingerprint : ℕ) → Probes index fingerprints count from fingerprint
