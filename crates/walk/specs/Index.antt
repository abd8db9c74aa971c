-- One width's part of an index: places that lead from a fingerprint to its nodes. A part may hold anything, and its
-- size is its length; a place that holds the mark is empty (SPECIFICATION 7.13). Assumes nothing.
use Rattle.std.specs.Prelude.{Bool, not, ◌&&◌, List, ℕ, zero, suc, ◌+◌, ◌%◌, eqb, ltb, length, get_or, set, replicate}
use Rattle.ints.specs.Lists.{pick}
use Rattle.circuit.specs.Codes.{mark}
use Rattle.walk.specs.Lookup.{Lookup, found, none, lowest_from}

-- the place of step j of a probe: j places onward, round the part, from the remainder of the fingerprint by the size.
-- Where the size is a power of two, that remainder is the fingerprint's low bits (SPECIFICATION 7.13)
abbrev pub place_of : ℕ → ℕ → ℕ → ℕ
place_of size fingerprint j = (fingerprint % size + j) % size

-- ---- a node is put in (SPECIFICATION 7.14)

-- the first empty place of m, from step j on
unfoldable pub free_of : List ℕ → ℕ → ℕ → ℕ → Lookup
free_of index fingerprint j zero = none
free_of index fingerprint j (suc m) =
    pick (eqb (get_or index (place_of (length index) fingerprint j) 0) mark) (found (place_of (length index) fingerprint j)) (free_of index fingerprint (suc j) m)

-- a node's number at a place; where no place is empty, the part stays
abbrev pub put_at : List ℕ → ℕ → Lookup → List ℕ
put_at index node (found place) = set index place node
put_at index node none = index

-- a node stands at the first empty place of its fingerprint's probe
unfoldable pub inserted : List ℕ → ℕ → ℕ → List ℕ
inserted index fingerprint node = put_at index node (free_of index fingerprint 0 (length index))

-- a part is cleared, and the nodes below the count are put in, rising
unfoldable pub filled : List ℕ → ℕ → ℕ → List ℕ
filled fingerprints size zero = replicate size mark
filled fingerprints size (suc count) = inserted (filled fingerprints size count) (get_or fingerprints count 0) count

-- ---- a fingerprint is looked up (SPECIFICATION 7.15)

-- a place's number leads to a node: it is not below the start, it is below the count, and the node has the fingerprint
abbrev pub leads : List ℕ → ℕ → ℕ → ℕ → ℕ → Bool
leads fingerprints count from fingerprint node = not (ltb node from) && (ltb node count && eqb (get_or fingerprints node 0) fingerprint)

-- of m places, from step j on, the first that leads to a node. An empty place ends the probe; every other place that
-- does not lead is passed over
unfoldable pub probe_of : List ℕ → List ℕ → ℕ → ℕ → ℕ → ℕ → ℕ → Lookup
probe_of index fingerprints count from fingerprint j zero = none
probe_of index fingerprints count from fingerprint j (suc m) =
    pick (eqb (get_or index (place_of (length index) fingerprint j) 0) mark) none
    (pick (leads fingerprints count from fingerprint (get_or index (place_of (length index) fingerprint j) 0))
    (found (get_or index (place_of (length index) fingerprint j) 0))
    (probe_of index fingerprints count from fingerprint (suc j) m))

-- each place of the part is met once, and no more are looked at
unfoldable pub probed : List ℕ → List ℕ → ℕ → ℕ → ℕ → Lookup
probed index fingerprints count from fingerprint = probe_of index fingerprints count from fingerprint 0 (length index)

-- ---- either look-up

pub data By : Type 0 where
  scan : By
  indexed : By

-- the node that a look-up finds, of those not below `from` and below the count; the scan does not look at the index
abbrev pub looked_up : By → List ℕ → List ℕ → ℕ → ℕ → ℕ → Lookup
looked_up scan index fingerprints count from fingerprint = lowest_from fingerprints count from fingerprint
looked_up indexed index fingerprints count from fingerprint = probed index fingerprints count from fingerprint

-- the part once a table has one node more; the scan leaves it
abbrev pub kept_up : By → List ℕ → ℕ → ℕ → List ℕ
kept_up scan index fingerprint node = index
kept_up indexed index fingerprint node = inserted index fingerprint node

-- the part that goes with the nodes below the count: what a fill leaves. The scan leaves what was lent
abbrev pub kept : By → List ℕ → ℕ → List ℕ → List ℕ
kept scan fingerprints count old = old
kept indexed fingerprints count old = filled fingerprints (length old) count
