-- Demand 3 of the program's lines: the list of a query's line, asked, and what its line of output says (SPECIFICATION
-- 8.3 to 8.5, 10.6). Lists are oldest gate first. Assumes nothing.
use Rattle.std.specs.Prelude.{◌≡◌, true, false, ◌⊎◌, List, [], ◌∷◌, ◌++◌, ℕ, ◌≤◌, ◌<◌, length}
use Rattle.ints.specs.Lists.{all, range, each}
use Rattle.circuit.specs.Charge.{charge}
use Rattle.circuit.specs.Codes.{valid}
use Rattle.exact.specs.Matrix.{PowerOf}
use Rattle.exact.specs.Paper.{paper_product}
use Rattle.exact.specs.Fits.{FirstPast, fitting_gates}
use Rattle.walk.specs.AtWidth.{ListOf, NoSharedPrint}
use Rattle.walk.specs.Known.{SkippedRightly}
use Rattle.walk.specs.Modes.{by_print}
use Rattle.tables.specs.Checks.{Limits, limits_of, Arrays}
use Rattle.tables.specs.Tables.{Table, walk_of, width_at, width_of, parents_of, codes_of, table, left, build_of}
use Rattle.tables.specs.Demand3.{NoSmaller}
use Rattle.tables.specs.Lists.{first_invalid}
use Rattle.circuits_text.specs.Allowed.{AllowedLine}
use Rattle.circuits_lines.specs.Lines.{refused_line, none_line, answer_line}
use Rattle.circuits_input.specs.Input.{gives, InputLine, ended, wanted, input_of}
use Rattle.circuits_input.specs.Allowed.{QueryLine}
use Rattle.circuits_parts.specs.Texts.{row_text, list_text, query_text, query_texts}
use Rattle.circuits_output.specs.Output.{lent_arrays, output}

-- m is a list of the basis, and its product is a power of omega times that of the list asked. Both products are the
-- paper's, of the matrices of the gates (SPECIFICATION 3.1, 8.6, 8.9)
pub record SameUpToPower (l : Limits) (w : ℕ) (asked m : List ℕ) : Type 0 where
  pub power : PowerOf w (paper_product w asked) (paper_product w m)
  pub of_basis : ListOf w l.basis m

-- what the third part of demand 3 asks of limits and width: a gate limit of at most 29, and no clash; in place of no
-- clash it is enough that each candidate of the completed depths that was skipped as known has a product that is a
-- power of omega times some node's (SPECIFICATION 8.5, 8.14)
pub record Condition (l : Limits) (w : ℕ) : Type 0 where
  pub gates : l.gates ≤ fitting_gates
  pub prints : NoSharedPrint w l.basis l.gates ⊎ SkippedRightly by_print w l.basis l.gates l.entries

-- each table that a build with the same basis and no smaller limit leaves prints the same line. None refuses by 12,
-- since the program lends 64 places for a list (SPECIFICATION 8.4, 8.12)
abbrev pub SameInLarger : Limits → ℕ → List ℕ → List ℕ → Type 0
SameInLarger l w asked text =
    (l' : Limits) (lent m : Arrays) (t : Table) → NoSmaller l l' → build_of by_print l' lent ≡ left (table t) m → list_text t m w asked ≡ text

-- the text is an allowed line and its newline; the line's numbers are how many gates m has, its T charge (SPECIFICATION
-- 2.9) and its codes, and since an allowed line has one list of numbers, the text can be read in one way (SPECIFICATION
-- 10.2, 10.6)
pub record ReadsAs (m text : List ℕ) : Type 0 where
  pub line : List ℕ
  pub says : AllowedLine (length m ∷ charge m ∷ m) line
  pub is : text ≡ line ++ (10 ∷ [])

-- a list's refusals: 6 for a width above 5; 7 for a code that is not valid, at the first such; 8 for a step that passes
-- the limit, at the first such gate (SPECIFICATION 4.2)
pub data ListRefused (w : ℕ) (asked : List ℕ) : ℕ → ℕ → Type 0 where
  wide : 5 < w → ListRefused w asked 6 0
  not_valid : w ≤ 5 → first_invalid w asked < length asked → ListRefused w asked 7 (first_invalid w asked)
  too_large : (i : ℕ) → w ≤ 5 → all (valid w) asked ≡ true → FirstPast w asked i → ListRefused w asked 8 i

-- what a query's line of output says, where the limits are l
pub data LineMeans (l : Limits) (w : ℕ) (asked text : List ℕ) : Type 0 where
  -- a list m: it is right, has at most G gates and is what larger tables answer; under the condition no list o of the
  -- basis with such a product, however long, has fewer gates (SPECIFICATION 8.3 to 8.5)
  a_list : (m : List ℕ) → text ≡ answer_line m → ReadsAs m text → SameUpToPower l w asked m → length m ≤ l.gates → SameInLarger l w asked text
      → (Condition l w → (o : List ℕ) → SameUpToPower l w asked o → length m ≤ length o) → LineMeans l w asked text
  -- none: under the condition, at a built width that is not saturated, no list o of the basis within the gate limit has
  -- such a product. Where there is one, the line is therefore not this one (SPECIFICATION 8.5)
  no_list : text ≡ none_line
      → (Condition l w → 0 < w → w ≤ l.qubits → (walk_of by_print l w).saturated ≡ false → (o : List ℕ) → SameUpToPower l w asked o → length o ≤ l.gates → ⊥)
      → LineMeans l w asked text
  -- a refusal is the list's own: the table refuses no matrix of a list (SPECIFICATION 7.8, 10.9)
  refused : (number position : ℕ) → text ≡ refused_line number position → ListRefused w asked number position → LineMeans l w asked text

-- the lines of a width, its first line and one for each node, by the width's walk (SPECIFICATION 6.4, 10.5)
unfoldable pub walk_text : Limits → ℕ → List ℕ
walk_text l w = row_text w (width_of (walk_of by_print l w)) (parents_of by_print l w) (codes_of by_print l w)

-- the output of an input whose line one has the limits l, and whose later lines are ls, where the build returned t and
-- left m in the arrays
pub record OutputMeans (input : List ℕ) (l : Limits) (ls : List InputLine) (t : Table) (m : Arrays) : Type 0 where
  -- first all widths from 1 to Q, then a line for each later line of the input (SPECIFICATION 10.5, 10.6)
  pub whole : output input ≡ each (range 1 l.qubits) (walk_text l) ++ query_texts t m ls
  -- the record's count, depth and saturated are the walk's
  pub rows : (w : ℕ) → 0 < w → w ≤ l.qubits → width_at t w ≡ width_of (walk_of by_print l w)
  -- with its completed depth as the gate limit, and the other limits as they are, a width is not saturated
  pub again : (w : ℕ) → (walk_of by_print (limits_of l.qubits (walk_of by_print l w).depth l.entries l.basis) w).saturated ≡ false
  -- a query's line prints the text of its list, and this is what that means
  pub prints : (w : ℕ) (asked line : List ℕ) → QueryLine w asked line → query_text t m (ended line) ≡ list_text t m w asked
  pub means : (w : ℕ) (asked : List ℕ) → LineMeans l w asked (list_text t m w asked)

-- every input that is not refused as a whole, and every line of it
pub record ProgramDemand3 : Type 0 where
  pub printed : (input : List ℕ) (l : Limits) (ls : List InputLine) (t : Table) (m : Arrays) → input_of input ≡ gives (wanted l ls)
      → build_of by_print l lent_arrays ≡ left (table t) m → OutputMeans input l ls t m
