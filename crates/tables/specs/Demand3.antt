-- Demand 3, of what the public entries answer: `build_by` answers `build_of`, and `synthesize_by` answers `synthesized`,
-- for every input, by either look-up and in either mode. Its parts are (a) an answer is right, (b) larger tables agree,
-- (c) shortest, and what none means (SPECIFICATION 8.3 to 8.5), and (d) what follows of matrices that are not unitary
-- and of built tables (7.8). Lists are oldest gate first. Assumes nothing.
use Rattle.std.specs.Prelude.{◌≡◌, ◌↔◌, ◌⊎◌, false, List, ◌++◌, ℕ, ◌≤◌, ◌<◌, length, drop}
use Rattle.exact.specs.Matrix.{PowerOf}
use Rattle.exact.specs.Lists.{product}
use Rattle.exact.specs.Fits.{fitting_gates}
use Rattle.exact.specs.Unitary.{Unitary}
use Rattle.walk.specs.Modes.{Mode, keeping}
use Rattle.walk.specs.AtWidth.{ListOf, NoSharedPrint}
use Rattle.walk.specs.Answers.{given, none, refused, outcome}
use Rattle.tables.specs.Checks.{Limits, Arrays}
use Rattle.tables.specs.Tables.{Table, table, refusal, left, build_of, width_at, Query, matrix_of, synthesized}
use Rattle.tables.specs.Built.{Built, FilledFrom}
use Rattle.tables.specs.EitherLookup.{scanned}

-- ---- what a table answers

module _ (t : Table) (a : Arrays) (q : Query) (out : List ℕ) where
  -- the list l, which is written over the beginning of the lent list; the later places keep what they held
  -- (SPECIFICATION 7.7)
  abbrev pub Gives : List ℕ → Type 0
  Gives l = synthesized t a q out ≡ outcome (given (length l)) (l ++ drop (length l) out)

  -- none, and the lent list keeps what it held
  abbrev pub GivesNone : Type 0
  GivesNone = synthesized t a q out ≡ outcome none out

  -- a refusal, and the lent list keeps what it held
  abbrev pub Refuses : ℕ → Type 0
  Refuses r = synthesized t a q out ≡ outcome (refused r 0) out

  -- there is no refusal, by any number
  abbrev pub NotRefused : Type 0
  NotRefused = (r : ℕ) → Refuses r → ⊥

  -- there is no other answer
  pub data Decided : Type 0 where
    a_list : (l : List ℕ) → Gives l → Decided
    no_list : GivesNone → Decided
    a_refusal : (r : ℕ) → Refuses r → Decided

-- limits l' of the same basis, none of them smaller than that of l (SPECIFICATION 8.12)
pub record NoSmaller (l l' : Limits) : Type 0 where
  pub basis : l'.basis ≡ l.basis
  pub qubits : l.qubits ≤ l'.qubits
  pub gates : l.gates ≤ l'.gates
  pub entries : l.entries ≤ l'.entries

-- ---- a list answered is shortest, none is told exactly where there is no list

module _ (t : Table) (q : Query) where
  -- m is a list of the table's basis at the query's width, and its product is a power of omega times the matrix asked
  -- (SPECIFICATION 8.6, 8.9)
  pub record Reaches (m : List ℕ) : Type 0 where
    pub of_basis : ListOf q.width t.limits.basis m
    pub power : PowerOf q.width (matrix_of q) (product q.width m)

module _ (t : Table) (a : Arrays) (q : Query) where
  -- no list that reaches the matrix, however long, has fewer gates than the one given; and at a width that was built
  -- and is not saturated a query that is not refused is given none exactly where no list within the gate limit reaches
  -- the matrix (SPECIFICATION 8.5, 8.13)
  pub record Complete : Type 0 where
    pub shortest : (out l : List ℕ) → Gives t a q out l → (m : List ℕ) → Reaches t q m → length l ≤ length m
    pub none_exactly : 0 < q.width → q.width ≤ t.limits.qubits → (width_at t q.width).saturated ≡ false
        → (out : List ℕ) → NotRefused t a q out → GivesNone t a q out ↔ ((m : List ℕ) → Reaches t q m → length m ≤ t.limits.gates → ⊥)

-- ---- the demand

pub record Demand3 : Type 0 where
  -- every input is decided, and a refusal leaves lent memory as it was (SPECIFICATION 9.4)
  pub decided : (t : Table) (a : Arrays) (q : Query) (out : List ℕ) → Decided t a q out
  pub build_refused : (mode : Mode) (l : Limits) (a b : Arrays) (r p : ℕ) → build_of mode l a ≡ left (refusal r p) b → b ≡ a
  -- (a) whatever record and arrays are lent: the product of a list that is given is a power of omega times the matrix
  -- asked, and the list is one of the basis at the width, of at most G gates (SPECIFICATION 8.3)
  pub right : (t : Table) (a : Arrays) (q : Query) (out l : List ℕ) → Gives t a q out l
      → PowerOf q.width (matrix_of q) (product q.width l) × ListOf q.width t.limits.basis l × (length l ≤ t.limits.gates)
  -- a build that is not refused leaves a built table of its limits, and by the index one that is filled from it
  -- (SPECIFICATION 8.11, 8.16)
  pub build_built : (mode : Mode) (l : Limits) (a b : Arrays) (t : Table) → build_of mode l a ≡ left (table t) b → Built mode t b × (t.limits ≡ l) × FilledFrom t b
  -- whatever the index of a built table holds, a list that is given is the one that the scan gives: an index that was
  -- not filled from the table may miss a list, and gives no other. So what is said of a list given by the scan holds
  -- through any index (SPECIFICATION 8.16)
  pub scan_gives : (mode : Mode) (t : Table) (a : Arrays) → Built mode t a → (q : Query) (out l : List ℕ) → Gives t a q out l → Gives t (scanned a) q out l
  -- limits of the same basis, none of them smaller, are meant, and no others (SPECIFICATION 8.12)
  pub no_smaller : (l l' : Limits) → l'.basis ≡ l.basis → l.qubits ≤ l'.qubits → l.gates ≤ l'.gates → l.entries ≤ l'.entries → NoSmaller l l'
  -- (b) the list that a built table gives, whatever its index holds, is given by each larger one of its mode too, or
  -- that one refuses by 12, since its gate limit wants a longer lent list (SPECIFICATION 8.4)
  pub larger : (mode : Mode) (t t' : Table) (a a' : Arrays) → Built mode t a → Built mode t' a' → FilledFrom t' a' → NoSmaller t.limits t'.limits
      → (q : Query) (out out' l : List ℕ) → Gives t a q out l → Gives t' a' q out' l ⊎ Refuses t' a' q out' 12
  -- (c) up to 29 gates, where every step of a list of the basis fits, and with no clash at the query's width
  -- (SPECIFICATION 8.5, 8.14). The index matters for none alone: a list is shortest through any (Beside,
  -- `shortest_rightly`)
  pub complete : (mode : Mode) (t : Table) (a : Arrays) → Built mode t a → FilledFrom t a → t.limits.gates ≤ fitting_gates
      → (q : Query) → NoSharedPrint q.width t.limits.basis t.limits.gates → Complete t a q
  -- where clashing nodes are kept, up to 29 gates and with no condition on fingerprints (SPECIFICATION 8.5, 8.17)
  pub complete_keeping : (t : Table) (a : Arrays) → Built keeping t a → FilledFrom t a → t.limits.gates ≤ fitting_gates → (q : Query) → Complete t a q
  -- (d) a query that gets a list is unitary, and one that is not gets none; a built table is never refused by 13
  -- (SPECIFICATION 7.8)
  pub unitary : (t : Table) (a : Arrays) (q : Query) (out l : List ℕ) → Gives t a q out l → Unitary q.width (matrix_of q)
  pub not_unitary : (t : Table) (a : Arrays) (q : Query) (out : List ℕ) → NotRefused t a q out → (Unitary q.width (matrix_of q) → ⊥) → GivesNone t a q out
  pub never_13 : (mode : Mode) (t : Table) (a : Arrays) → Built mode t a → (q : Query) (out : List ℕ) → Refuses t a q out 13 → ⊥
