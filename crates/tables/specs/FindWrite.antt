-- A find and a write of a lent table beside its answer, and demand 3 of them (SPECIFICATION 7.10 to 7.12): what is
-- found is written, with the list that is answered, so that it is right, the same in larger tables and shortest; and
-- none is found where none is answered. Assumes nothing.
use Rattle.std.specs.Prelude.{◌≡◌, ◌↔◌, ◌⊎◌, false, List, ◌++◌, reverse, ℕ, ◌≤◌, ◌<◌, length, drop}
use Rattle.exact.specs.Matrix.{PowerOf}
use Rattle.exact.specs.Lists.{product}
use Rattle.exact.specs.Unitary.{Unitary}
use Rattle.walk.specs.Walk.{list_at}
use Rattle.walk.specs.Modes.{Mode}
use Rattle.walk.specs.AtWidth.{ListOf}
use Rattle.walk.specs.Finds.{node}
use Rattle.walk.specs.Finds as f
use Rattle.walk.specs.Answers.{given, refused, outcome}
use Rattle.tables.specs.Checks.{Arrays}
use Rattle.tables.specs.Tables.{Table, walk_of, width_at, count_at, Query, matrix_of, found_in, written_in}
use Rattle.tables.specs.Built.{Built, FilledFrom}
use Rattle.tables.specs.Demand3.{Gives, GivesNone, Refuses, NoSmaller, Reaches, Complete}

-- ---- what is found

module _ (t : Table) (a : Arrays) (q : Query) where
  -- node k, whose list has m gates
  abbrev pub Finds : ℕ → ℕ → Type 0
  Finds k m = found_in t a q ≡ node k m

  abbrev pub FindsNone : Type 0
  FindsNone = found_in t a q ≡ f.none

  abbrev pub FindRefuses : ℕ → Type 0
  FindRefuses r = found_in t a q ≡ f.refused r 0

  -- there is no other case
  pub data FindDecided : Type 0 where
    a_node : (k m : ℕ) → Finds k m → FindDecided
    no_node : FindsNone → FindDecided
    a_refusal : (r : ℕ) → FindRefuses r → FindDecided

  -- as `Complete` of an answer: no list that reaches the matrix has fewer gates than the node found; none exactly where
  -- no list within the limit does
  pub record FindComplete : Type 0 where
    pub shortest : (k m : ℕ) → Finds k m → (l : List ℕ) → Reaches t q l → m ≤ length l
    pub none_exactly : 0 < q.width → q.width ≤ t.limits.qubits → (width_at t q.width).saturated ≡ false → ((r : ℕ) → FindRefuses r → ⊥)
        → FindsNone ↔ ((l : List ℕ) → Reaches t q l → length l ≤ t.limits.gates → ⊥)

-- ---- what is written of node k of width w, and what the lent list then holds

module _ (t : Table) (a : Arrays) (w k : ℕ) (out : List ℕ) where
  -- the list l over the first places; the later ones keep what they held
  abbrev pub Writes : List ℕ → Type 0
  Writes l = written_in t a w k out ≡ outcome (given (length l)) (l ++ drop (length l) out)

  -- a refusal, and the lent list keeps what it held
  abbrev pub WriteRefuses : ℕ → Type 0
  WriteRefuses r = written_in t a w k out ≡ outcome (refused r 0) out

  pub data WriteDecided : Type 0 where
    a_list : (l : List ℕ) → Writes l → WriteDecided
    not_written : (r : ℕ) → WriteRefuses r → WriteDecided

-- ---- the statements

pub record FindWrite : Type 0 where
  -- every input is decided
  pub find_decided : (t : Table) (a : Arrays) (q : Query) → FindDecided t a q
  pub write_decided : (t : Table) (a : Arrays) (w k : ℕ) (out : List ℕ) → WriteDecided t a w k out
  -- the node found is written, by the list that is answered, of as many gates as were told
  pub found_written : (t : Table) (a : Arrays) (q : Query) (k m : ℕ) → Finds t a q k m → (out : List ℕ) → t.limits.gates ≤ length out
      → (l : List ℕ) × (length l ≡ m) × Writes t a q.width k out l × Gives t a q out l
  -- or the lent list is too short, for the write as for the answer
  pub found_short : (t : Table) (a : Arrays) (q : Query) (k m : ℕ) → Finds t a q k m → (out : List ℕ) → length out < t.limits.gates
      → WriteRefuses t a q.width k out 12 × Refuses t a q out 12
  -- a list that is answered is that of a node found
  pub given_found : (t : Table) (a : Arrays) (q : Query) (out l : List ℕ) → Gives t a q out l → (k : ℕ) × Finds t a q k (length l) × Writes t a q.width k out l
  -- with a lent list that is long enough, none is found exactly where none is answered, and so it is with a refusal
  pub none_same : (t : Table) (a : Arrays) (q : Query) (out : List ℕ) → t.limits.gates ≤ length out → FindsNone t a q ↔ GivesNone t a q out
  pub refused_same : (t : Table) (a : Arrays) (q : Query) (out : List ℕ) → t.limits.gates ≤ length out → (r : ℕ) → FindRefuses t a q r ↔ Refuses t a q out r
  -- demand 3, whatever record and arrays are lent: the list of a node found is right
  pub right : (t : Table) (a : Arrays) (q : Query) (k m : ℕ) → Finds t a q k m → (out l : List ℕ) → Writes t a q.width k out l
      → (length l ≡ m) × PowerOf q.width (matrix_of q) (product q.width l) × ListOf q.width t.limits.basis l × (length l ≤ t.limits.gates)
  pub unitary : (t : Table) (a : Arrays) (q : Query) (k m : ℕ) → Finds t a q k m → Unitary q.width (matrix_of q)
  -- of built tables of one mode: a larger one finds a node too, of as many gates, and its write gives the same list or
  -- is refused by 12
  pub larger : (mode : Mode) (t t' : Table) (a a' : Arrays) → Built mode t a → Built mode t' a' → FilledFrom t' a' → NoSmaller t.limits t'.limits
      → (q : Query) (k m : ℕ) → Finds t a q k m → (k' : ℕ) × Finds t' a' q k' m
      × ((out out' l : List ℕ) → Writes t a q.width k out l → Writes t' a' q.width k' out' l ⊎ WriteRefuses t' a' q.width k' out' 12)
  -- wherever an answer is shortest and none means that there is no list, so it is with a find
  pub complete : (t : Table) (a : Arrays) (q : Query) → Complete t a q → FindComplete t a q
  pub never_13 : (mode : Mode) (t : Table) (a : Arrays) → Built mode t a → (q : Query) → FindRefuses t a q 13 → ⊥
  -- every node of a built table is written, by its list, where the lent list is long enough
  pub node_written_lem : (mode : Mode) (t : Table) (a : Arrays) → Built mode t a → (w k : ℕ) → k < count_at t w → (out : List ℕ) → t.limits.gates ≤ length out
      → Writes t a w k out (reverse (list_at (walk_of mode t.limits w).nodes k))
