-- A node that may be written, and its list. Assumes nothing.
use Rattle.std.specs.Prelude.{◌≡◌, false, List, ℕ, ◌≤◌, ◌<◌}
use Rattle.walk.specs.Chains.{chain_of}
use Rattle.walk.specs.Answers.{Outcome, written}
use Rattle.tables.specs.Checks.{places_of}
use Rattle.tables.specs.Tables.{Table, record_row, count_at, part_of}

-- a node of a width that may be written: no row of a write refuses it
pub record Writable (t : Table) (w k parents codes room : ℕ) : Type 0 where
  pub good : (record_row t).holds ≡ false
  pub in_parents : places_of t.limits ≤ parents
  pub in_codes : places_of t.limits ≤ codes
  pub node : k < count_at t w
  pub long : t.limits.gates ≤ room

-- the list of a node, written; fingerprints play no part
abbrev pub node_written : Table → List ℕ → List ℕ → ℕ → ℕ → List ℕ → Outcome
node_written t parents codes w k out = written out
    (chain_of w t.limits.basis (part_of w t.limits.entries parents) (part_of w t.limits.entries codes) t.limits.gates k)
