-- Limits with the count of a width, the part of the width, and the list of what is found in it. Assumes nothing.
use Rattle.std.specs.Prelude.{List, ℕ, ◌≤◌, ◌<◌, take, drop}
use Rattle.walk.specs.Finds.{Part, part_with, Finding}
use Rattle.width_answer.specs.Answers.{ListFound}
use Rattle.tables.specs.Checks.{Limits, Arrays}
use Rattle.tables.specs.Tables.{Query, matrix_of, part_by, limits_at}
use Rattle.tables.proofs.Accepted.{Accepted}

-- limits whose Q, G and E no row refuses, and a count of entries of a width: at most E, and a width that has any is one
-- from 1 to Q
pub record Counted (l : Limits) (w count : ℕ) : Type 0 where
  pub good : Accepted l
  pub few : count ≤ l.entries
  pub has : 0 < count → (0 < w) × (w ≤ l.qubits)

-- this is found in the part of the query's width, and its list, copied, is what is answered
abbrev pub FoundFor : Limits → ℕ → Arrays → Query → Finding → List ℕ → Type 0
FoundFor l count a q g list = ListFound (limits_at l q.width) (part_by l count a q.width) (matrix_of q) g list

-- the places from a start on, as many as a width has, of each array, and `size` places of the index from a place on
-- (SPECIFICATION 6.2, 7.16)
abbrev pub part_from : Arrays → ℕ → ℕ → ℕ → ℕ → ℕ → Part
part_from a start entries count place size =
    part_with a.by (take entries (drop start a.prints)) (take entries (drop start a.parents)) (take entries (drop start a.codes))
    count (take size (drop place a.index))
