-- How three lent arrays and a part of an index hold the nodes of a width while it is built. In all of them f, u, c, i
-- are the arrays of fingerprints, parents and codes and the part, and f0, u0, c0, i0 what they held before the build.
-- Assumes nothing.
use Rattle.std.specs.Prelude.{◌≡◌, Bool, false, List, ◌++◌, map, ℕ, suc, ◌≤◌, ◌<◌, length, drop}
use Rattle.walk.specs.Walk.{Rules, Node, State, list_at, gate}
use Rattle.walk.specs.Modes.{Mode}
use Rattle.walk.specs.AtWidth.{print_of, parent_of, at_width}
use Rattle.walk.specs.Index.{By, indexed, kept}
use Rattle.walk.proofs.Grown.{Grown, ParentsTo}
use Rattle.synthesis_arena.specs.declared.WidthLimits.{WidthLimits}

-- what the walk is handed at the width and basis of the limits, in a mode
abbrev pub rules : Mode → WidthLimits → Rules
rules mode lim = at_width mode lim.width lim.basis

-- the first places of an array hold what p says of the nodes, and the others what they held (SPECIFICATION 6.11)
pub record Column (p : Node → ℕ) (old : List ℕ) (ns : List Node) (new : List ℕ) (n : ℕ) : Type 0 where
  pub is : new ≡ map p ns ++ drop n old

-- the three arrays hold the nodes, which are count: fingerprints, parents, codes, node 0's parent and code the mark;
-- and the part of the index goes with them: it is what a fill leaves, and by the scan what it was (SPECIFICATION 7.14)
pub record Columns (by : By) (lim : WidthLimits) (f0 u0 c0 i0 : List ℕ) (ns : List Node) (f u c i : List ℕ) (count : ℕ) : Type 0 where
  pub count_is : count ≡ length ns
  pub prints : Column (print_of lim.width) f0 ns f count
  pub parents : Column parent_of u0 ns u count
  pub gates : Column gate c0 ns c count
  pub index : i ≡ kept by f count i0

-- each array, and the part where it is used, has room for as many nodes as the entry limit allows
pub record Long (by : By) (lim : WidthLimits) (f u c i : List ℕ) : Type 0 where
  pub in_f : lim.entries ≤ length f
  pub in_u : lim.entries ≤ length u
  pub in_c : lim.entries ≤ length c
  pub in_i : by ≡ indexed → lim.entries ≤ length i

-- the limits are within what a table may have; no more nodes than the entry limit, the node that is tried one of them,
-- and room for all that the entry limit allows
pub record Room (by : By) (lim : WidthLimits) (count node : ℕ) (f u c i : List ℕ) : Type 0 where
  pub narrow : lim.width ≤ 5
  pub short : lim.gates ≤ 64
  pub few : count ≤ lim.entries
  pub there : node < count
  pub most : lim.entries ≤ 1000000
  pub long : Long by lim f u c i

-- a state within a depth that is not saturated
abbrev pub unsaturated : List Node → State
unsaturated ns = record { nodes = ns; saturated = false }

-- the arrays while node k is tried, or is the next to be: no parent is past it, no list of the nodes below top is
-- longer than d, and none is longer than d + 1, which is within the gate limit
pub record Live (mode : Mode) (by : By) (lim : WidthLimits) (f u c i : List ℕ) (count k top : ℕ) : Type 0 where
  pub f0 : List ℕ
  pub u0 : List ℕ
  pub c0 : List ℕ
  pub i0 : List ℕ
  pub ns : List Node
  pub d : ℕ
  pub columns : Columns by lim f0 u0 c0 i0 ns f u c i count
  pub grown : Grown (rules mode lim) ns
  pub low : ParentsTo k ns
  pub few : length ns ≤ lim.entries
  pub flat : (j : ℕ) → j < top → length (list_at ns j) ≤ d
  pub short : (j : ℕ) → j < length ns → length (list_at ns j) ≤ suc d
  pub deep : suc d ≤ lim.gates
  pub long : Long by lim f0 u0 c0 i0

-- the arrays hold the nodes of the state s, which are count, and the width is saturated where s is
pub record After (by : By) (lim : WidthLimits) (f0 u0 c0 i0 : List ℕ) (s : State) (f u c i : List ℕ) (count : ℕ) (full : Bool) : Type 0 where
  pub columns : Columns by lim f0 u0 c0 i0 s.nodes f u c i count
  pub full_is : full ≡ s.saturated
