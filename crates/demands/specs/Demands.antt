-- The demands (SPECIFICATION 8.1 to 8.5), stated of what the public entries answer: `library_circuit_matrix` answers
-- `listed`, `library_fingerprint` answers `fingerprinted`, `build` and `build_by` answer `build_of`, `fill_index`
-- answers `fill_of`, `find` and `find_by` answer `found_in`, `write` answers `written_in`, `synthesize` and
-- `synthesize_by` answer `synthesized`, for every input; those without `_by` have the scan, and `build` the mode
-- byPrint. Demand 1 is what the proofs of the functions say: every entry comes to an end whatever goes in, no step of
-- it is undefined, and the clauses name each refusal and what the lent places then hold; where each refusal is told is
-- `Exactly` and `FingerprintExactly`. Assumes nothing.
use Rattle.std.specs.Prelude.{◌≡◌, List, ℕ, ◌+◌, ◌%◌, ◌<◌, ℤ}
use Rattle.cyclotomic.specs.Zomega.{TurnsAdd}
use Rattle.exact.specs.Matrix.{SameValue, Lowest}
use Rattle.exact.specs.Lists.{product}
use Rattle.exact.specs.Paper.{paper_product}
use Rattle.walk.specs.Finds.{WidthLimits, Part}
use Rattle.walk.specs.Index.{place_of}
use Rattle.walk.specs.IndexLaws.{Probes}
use Rattle.walk.specs.Meaning.{WriteMeans}
use Rattle.walk.specs.Fitting.{Fitting}
use Rattle.tables.specs.Demand2.{Demand2}
use Rattle.tables.specs.Demand3.{Demand3}
use Rattle.tables.specs.EitherLookup.{EitherLookup}
use Rattle.tables.specs.AnswerRule.{AnswerRule}
use Rattle.tables.specs.Exactly.{Exactly}
use Rattle.murm_query.specs.Fingerprints.{FingerprintExactly}

-- the product of every list, accepted or not, is the paper's product of its gates by value, and is in lowest
-- denominator (SPECIFICATION 3.5)
pub record PaperProduct : Type 0 where
  pub value : (n : ℕ) (codes : List ℕ) → SameValue n (paper_product n codes) (product n codes)
  pub lowest : (n : ℕ) (codes : List ℕ) → Lowest n (product n codes)

-- where each refusal is told: `refusals` and `fingerprints`. Demand 2: `products` of every list, and of what is
-- answered to one `second`; turns add up (`turns`, 1.2). Demand 3: `third`, with `Built` and `FilledFrom` of
-- tables/specs/Built.antt; which node answers: `answers`; what a write gives, of a width's part: `writes`; the index
-- beside the scan: `either`. A probe begins at the fingerprint's remainder by the size and goes to the next place,
-- round the part; what it comes to, whatever the part holds: `begins`, `onward`, `probes` (7.13 to 7.15). What fits in
-- lists of a basis, and so why up to 29 gates: `fitting`
pub record Demands : Type 0 where
  pub refusals : Exactly
  pub fingerprints : FingerprintExactly
  pub turns : TurnsAdd
  pub products : PaperProduct
  pub second : (n : ℕ) (codes : List ℕ) (numbers : List ℤ) → Demand2 n codes numbers
  pub third : Demand3
  pub either : EitherLookup
  pub begins : (size fingerprint : ℕ) → 0 < size → place_of size fingerprint 0 ≡ fingerprint % size
  pub onward : (size fingerprint j : ℕ) → place_of size fingerprint (j + 1) ≡ (place_of size fingerprint j + 1) % size
  pub probes : (index fingerprints : List ℕ) (count from fingerprint : ℕ) → Probes index fingerprints count from fingerprint
  pub answers : AnswerRule
  pub writes : (limits : WidthLimits) (part : Part) (node : ℕ) (out : List ℕ) → WriteMeans limits part node out
  pub fitting : Fitting
