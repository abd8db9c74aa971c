-- What is looked up ahead for a candidate, and when a number is a hint of it. Assumes nothing.
use Rattle.std.specs.Prelude.{◌≡◌, List, map, ℕ, length, take}
use Rattle.circuit.specs.Codes.{mark}
use Rattle.walk.specs.Lookup.{Lookup, found, none}
use Rattle.walk.specs.Index.{By, scan, indexed, looked_up}

-- the node that a look-up gave, or the mark
abbrev pub or_mark : Lookup → ℕ
or_mark (found k) = k
or_mark none = mark

-- what is looked up before a candidate's turn comes: by the scan nothing
abbrev pub ahead_by : By → Lookup → ℕ
ahead_by scan l = mark
ahead_by indexed l = or_mark l

-- a number other than the mark is the node that the look-up gives
pub record Hint (l : Lookup) (a : ℕ) : Type 0 where
  pub leads : (a ≡ mark → ⊥) → l ≡ found a

-- what is looked up ahead for each of some fingerprints
abbrev pub ahead_of : By → List ℕ → List ℕ → ℕ → List ℕ → List ℕ
ahead_of by i f count ps = map (λ y. ahead_by by (looked_up by i f count 0 y)) ps

-- the first places of 105 hold it
pub record LookedAhead (by : By) (i f : List ℕ) (count : ℕ) (ps nodes : List ℕ) (size : ℕ) : Type 0 where
  pub is : take size nodes ≡ ahead_of by i f count ps
  pub long : length nodes ≡ 105
