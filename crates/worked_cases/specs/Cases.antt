-- The cases of SPECIFICATION 11.1 as one table: in each row what the definitions give, and what was worked out by hand
-- and is stated there. That the checker computes the one to the other is `AsStated`. Assumes nothing.
use Rattle.std.specs.Prelude.{◌≡◌, Bool, true, false, ◌&&◌, List, [], ◌∷◌, map, ℕ, zero, suc, ◌*◌, ◌^◌, eqb, ℤ, pos, negsuc, length, replicate}
use Rattle.ints.specs.Lists.{pick}
use Rattle.cyclotomic.specs.Zomega.{Zω, mk, zeroω, oneω, addω, subω, turn, sqrt2, divisible, over_sqrt2, phase}
use Rattle.cyclotomic.specs.Told.{Told, entry, refused, checked}
use Rattle.circuit.specs.Sets.{supported}
use Rattle.circuit.specs.Codes.{valid, valid_for}
use Rattle.circuit.specs.Pairs.{inverse}
use Rattle.circuit.specs.Charge.{charge}
use Rattle.generators.specs.Generators.{generators}
use Rattle.exact.specs.Matrix.{Exact}
use Rattle.exact.specs.Rows.{act, gate_of}
use Rattle.exact.specs.Lists.{product}
use Rattle.exact.specs.Fits.{step_fits}
use Rattle.exact.specs.Phase.{flat, phase_of}
use Rattle.exact.specs.Answers.{Answer}
use Rattle.exact.specs.Answers as e
use Rattle.tables.specs.Checks.{coefficient_count}
use Rattle.tables.specs.Lists.{listed}

-- what a row speaks of: an element, a test, a number, several, a sum with its refusal's number, an entry's answer with
-- its refusal's number and position, or a matrix: its exponent and its entries
pub data Value : Type 0 where
  element : Zω → Value
  test : Bool → Value
  number : ℕ → Value
  numbers : List ℕ → Value
  sum : Told → Value
  answer : Answer → Value
  matrix : ℕ → List Zω → Value

-- a row: what is computed, what is stated
pub record Case : Type 0 where
  pub computed : Value
  pub stated : Value

infix 4 ◌is◌
abbrev ◌is◌ : Value → Value → Case
◌is◌ x y = record { computed = x; stated = y }

-- a number as an element
abbrev int : ℤ → Zω
int z = mk z (pos 0) (pos 0) (pos 0)

-- m entries, row after row
abbrev listing : ℕ → (ℕ → Zω) → List Zω
listing zero f = []
listing (suc m) f = f 0 ∷ listing m (λ i. f (suc i))

abbrev shown : ℕ → Exact → Value
shown n x = matrix x.k (listing (2 ^ n * 2 ^ n) (flat n x.e))

-- four numbers as entries
abbrev four_of : ℤ → ℤ → ℤ → ℤ → List Zω → List Zω
four_of a b c d l = int a ∷ int b ∷ int c ∷ int d ∷ l

-- a matrix of width 1 by its entries, and one of any width with one entry that is not 0, in column 0; both have k 0
abbrev two_by_two : Zω → Zω → Zω → Zω → Exact
two_by_two x y z w = record { k = 0; e = λ r c. pick (eqb r 0) (pick (eqb c 0) x y) (pick (eqb c 0) z w) }

abbrev alone : ℕ → Zω → Exact
alone i x = record { k = 0; e = λ r c. pick (eqb r i && eqb c 0) x zeroω }

-- a code of each of the 17 kinds, in the order of their numbers
abbrev every_kind : List ℕ
every_kind = 0 ∷ 4096 ∷ 8192 ∷ 12288 ∷ 16384 ∷ 20480 ∷ 24576 ∷ 32784 ∷ 36880 ∷ 40978 ∷ 45074 ∷ 61440 ∷ 65536 ∷ 77840 ∷ 81936 ∷ 102416 ∷ 106514 ∷ []

abbrev pub cases : List Case
cases =
    -- turns by 1 and by 4; the second takes -32767 to 32767, which is within the limit (SPECIFICATION 1.2)
    (element (turn 1 (mk (pos 1) (pos 2) (pos 3) (pos 4))) is element (mk (negsuc 3) (pos 1) (pos 2) (pos 3)))
    ∷ (element (turn 4 (mk (pos 1) (negsuc 32766) (pos 0) (pos 5))) is element (mk (negsuc 0) (pos 32767) (pos 0) (negsuc 4)))
    -- division by √2: two entries that are divisible, with their quotients, and one that is not (SPECIFICATION 1.4)
    ∷ (test (divisible (mk (pos 1) (pos 1) (pos 1) (pos 1))) is test true)
    ∷ (element (over_sqrt2 (mk (pos 1) (pos 1) (pos 1) (pos 1))) is element (mk (pos 0) (pos 1) (pos 1) (pos 0)))
    ∷ (test (divisible (int (pos 2))) is test true)
    ∷ (element (over_sqrt2 (int (pos 2))) is element (mk (pos 0) (pos 1) (pos 0) (negsuc 0)))
    ∷ (test (divisible (int (pos 1))) is test false)
    -- a sum at the limit, and a sum and a difference past it (SPECIFICATION 1.3)
    ∷ (sum (checked (addω (int (pos 32767)) (int (pos 0)))) is sum (entry (int (pos 32767))))
    ∷ (sum (checked (addω (int (pos 32767)) (int (pos 1)))) is sum (refused 8))
    ∷ (sum (checked (subω (int (negsuc 32766)) (int (pos 1)))) is sum (refused 8))
    -- code 0 is H on qubit 0: its matrix at width 1, and H twice, which is the identity in lowest denominator
    -- (SPECIFICATION 3.2, 3.3)
    ∷ (shown 1 (product 1 (0 ∷ [])) is matrix 1 (four_of (pos 1) (pos 1) (pos 1) (negsuc 0) []))
    ∷ (shown 1 (product 1 (0 ∷ 0 ∷ [])) is matrix 0 (four_of (pos 1) (pos 0) (pos 0) (pos 1) []))
    -- 32784 is Cx with control 0 and target 1: at width 2 it exchanges the rows whose high bit is 1 (SPECIFICATION 1.6,
    -- 3.2)
    ∷ (shown 2 (product 2 (32784 ∷ []))
    is matrix 0 (four_of (pos 1) (pos 0) (pos 0) (pos 0) (four_of (pos 0) (pos 1) (pos 0) (pos 0) (four_of (pos 0) (pos 0) (pos 0) (pos 1) (four_of (pos 0) (pos 0) (pos 1) (pos 0) [])))))
    -- the kinds that lists alone take. Y, 61440, is (0 -i; i 0); Sx, 65536, is 1/√2 (omega omega^7; omega^7 omega), and
    -- twice it is X
    ∷ (shown 1 (product 1 (61440 ∷ [])) is matrix 0 (zeroω ∷ turn 6 oneω ∷ turn 2 oneω ∷ zeroω ∷ []))
    ∷ (shown 1 (product 1 (65536 ∷ [])) is matrix 1 (turn 1 oneω ∷ turn 7 oneω ∷ turn 7 oneω ∷ turn 1 oneω ∷ []))
    ∷ (shown 1 (product 1 (65536 ∷ 65536 ∷ [])) is matrix 0 (four_of (pos 0) (pos 1) (pos 1) (pos 0) []))
    -- at width 2, with control 0 and target 1: Cy is 81936; Ch is 102416, whose first two rows are multiplied by √2;
    -- Swap is 77840
    ∷ (shown 2 (product 2 (81936 ∷ []))
    is matrix 0 (four_of (pos 1) (pos 0) (pos 0) (pos 0) (four_of (pos 0) (pos 1) (pos 0) (pos 0) (zeroω ∷ zeroω ∷ zeroω ∷ turn 6 oneω ∷ zeroω ∷ zeroω ∷ turn 2 oneω ∷ zeroω ∷ []))))
    ∷ (shown 2 (product 2 (102416 ∷ []))
    is matrix 1 (sqrt2 oneω ∷ zeroω ∷ zeroω ∷ zeroω ∷ zeroω ∷ sqrt2 oneω ∷ zeroω ∷ zeroω ∷ four_of (pos 0) (pos 0) (pos 1) (pos 1) (four_of (pos 0) (pos 0) (pos 1) (negsuc 0) [])))
    ∷ (shown 2 (product 2 (77840 ∷ []))
    is matrix 0 (four_of (pos 1) (pos 0) (pos 0) (pos 0) (four_of (pos 0) (pos 0) (pos 1) (pos 0) (four_of (pos 0) (pos 1) (pos 0) (pos 0) (four_of (pos 0) (pos 0) (pos 0) (pos 1) [])))))
    -- at width 3 Cswap, 106514, with control 0 and the pair 1 and 2: rows 5 and 6 change places, row 1, whose control
    -- is 0, stays
    ∷ (element ((product 3 (106514 ∷ [])).e 5 6) is element oneω)
    ∷ (element ((product 3 (106514 ∷ [])).e 6 5) is element oneω)
    ∷ (element ((product 3 (106514 ∷ [])).e 1 1) is element oneω)
    -- Swap and Cswap take their pair in either order (SPECIFICATION 2.4)
    ∷ (test (valid 2 77840) is test true)
    ∷ (test (valid 2 78080) is test true)
    ∷ (test (valid 3 106514) is test true)
    ∷ (test (valid 3 106529) is test true)
    -- and a control may be above its target: Cy 1 0, Ch 1 0, Cswap 2 0 1
    ∷ (test (valid 2 82176) is test true)
    ∷ (test (valid 2 102656) is test true)
    ∷ (test (valid 3 107009) is test true)
    -- Ch is valid for no basis, not even for one with its bit (SPECIFICATION 2.5)
    ∷ (test (valid_for 2 33554432 102416) is test false)
    -- what fits (SPECIFICATION 3.4). Of Ch a row without its control counts: √2 times it may be 32767, and may not be
    -- 32768. H, 0, takes the same matrix as it is
    ∷ (test (step_fits 2 (gate_of 2 102416) (alone 0 (mk (pos 0) (pos 16384) (pos 0) (negsuc 16382)))) is test true)
    ∷ (test (step_fits 2 (gate_of 2 102416) (alone 0 (mk (pos 0) (pos 16384) (pos 0) (negsuc 16383)))) is test false)
    ∷ (test (step_fits 2 (gate_of 2 0) (alone 0 (mk (pos 0) (pos 16384) (pos 0) (negsuc 16383)))) is test true)
    -- of Sx both H count: the first comes to 32767 and fits, the second to 32768
    ∷ (test (step_fits 1 (gate_of 1 0) (two_by_two (int (pos 16384)) (int (pos 1)) (mk (pos 16383) (pos 0) (pos 1) (pos 0)) zeroω)) is test true)
    ∷ (test (step_fits 1 (gate_of 1 65536) (two_by_two (int (pos 16384)) (int (pos 1)) (mk (pos 16383) (pos 0) (pos 1) (pos 0)) zeroω)) is test false)
    ∷ (test (step_fits 1 (gate_of 1 65536) (two_by_two (int (pos 16384)) (int (pos 1)) (mk (pos 16383) (pos 0) (pos 0) (pos 0)) zeroω)) is test true)
    -- and where the first comes to 32768 Sx does not fit, though lowered it would be within the limit, and the second H
    -- after it too
    ∷ (test (step_fits 1 (gate_of 1 65536) (two_by_two (int (pos 16384)) zeroω (int (pos 16384)) zeroω)) is test false)
    ∷ (test (step_fits 1 (gate_of 1 0) (act 1 (gate_of 1 0) (two_by_two (int (pos 16384)) zeroω (int (pos 16384)) zeroω))) is test true)
    -- Cz on qubits 0 and 1 in rising order is valid, in the other order it is not (SPECIFICATION 2.1, 2.4)
    ∷ (test (valid 2 36880) is test true)
    ∷ (answer (listed 2 (37120 ∷ []) (replicate (coefficient_count 2) (pos 0))).answer is answer (e.refused 7 0))
    -- S and Sdg, T and Tdg undo each other, on one qubit; S does not undo itself (SPECIFICATION 2.6)
    ∷ (test (inverse 12288 16384) is test true)
    ∷ (test (inverse 16384 12288) is test true)
    ∷ (test (inverse 20480 24576) is test true)
    ∷ (test (inverse 24576 20480) is test true)
    ∷ (test (inverse 12288 12288) is test false)
    ∷ (test (inverse 12544 16384) is test false)
    -- T charges: of T, Ccx, Ccz, Tdg and H together, and of one gate of each kind: T and Tdg 1, Ccx and Ccz 7, all
    -- others 0 (SPECIFICATION 2.9)
    ∷ (number (charge (20480 ∷ 40978 ∷ 45074 ∷ 24576 ∷ 0 ∷ [])) is number 16)
    ∷ (numbers (map (λ g. charge (g ∷ [])) every_kind)
    is numbers (0 ∷ 0 ∷ 0 ∷ 0 ∷ 0 ∷ 1 ∷ 1 ∷ 0 ∷ 0 ∷ 7 ∷ 7 ∷ 0 ∷ 0 ∷ 0 ∷ 0 ∷ 0 ∷ 0 ∷ []))
    -- the phase of the entry 1, and of the identity, whose pivot it is: -1 is the least of its turns (SPECIFICATION
    -- 1.11)
    ∷ (number (phase (int (pos 1))) is number 4)
    ∷ (number (phase_of 1 (product 1 [])) is number 4)
    -- how many generators the largest basis, 3967, has at each width from 1 to 5 (SPECIFICATION 2.8)
    ∷ (number (length (generators 1 supported)) is number 7)
    ∷ (number (length (generators 2 supported)) is number 17)
    ∷ (number (length (generators 3 supported)) is number 34)
    ∷ (number (length (generators 4 supported)) is number 62)
    ∷ (number (length (generators 5 supported)) is number 105)
    ∷ []

-- every row computes to what is stated
pub record AsStated : Type 0 where
  pub rows : map (λ (c : Case). c.computed) cases ≡ map (λ (c : Case). c.stated) cases
