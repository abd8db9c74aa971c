-- The gates as Giles and Selinger have them: matrices by their entries, and the product of matrices as a finite sum.
-- The row operations of Rows.antt are shown to be products with these, so that their meaning is the paper's and not the
-- code's (SPECIFICATION 3.1). Assumes nothing.
use Rattle.std.specs.Prelude.{Bool, true, false, not, ◌&&◌, ◌||◌, List, [], ◌∷◌, ℕ, zero, suc, ◌+◌, ◌^◌, eqb}
use Rattle.ints.specs.Bits.{bit}
use Rattle.ints.specs.Lists.{pick}
use Rattle.cyclotomic.specs.Zomega.{Zω, zeroω, oneω, addω, mulω, turn}
use Rattle.kinds.specs.Kinds.{Kind, H, X, Z, S, Sdg, T, Tdg, Cx, Cz, Ccx, Ccz, Y, Sx, Swap, Cy, Ch, Cswap, Other}
use Rattle.circuit.specs.Codes.{kind_of, first, second, third, valid}
use Rattle.exact.specs.Matrix.{Exact, sqrt2s, identity}
use Rattle.exact.specs.Rows.{flip, ones, bit_of}

-- a gate on one qubit: 2 × 2 entries, by the row's and the column's bit, over √2 to the k
pub record Single : Type 0 where
  pub k : ℕ
  pub u : Bool → Bool → Zω

-- H = 1/√2 (1 1; 1 -1)
abbrev pub hadamard : Single
hadamard = record { k = 1; u = λ i j. pick (i && j) (turn 4 oneω) oneω }

-- X = (0 1; 1 0)
abbrev pub pauli_x_entry : Bool → Bool → Zω
pauli_x_entry true true = zeroω
pauli_x_entry true false = oneω
pauli_x_entry false true = oneω
pauli_x_entry false false = zeroω

abbrev pub pauli_x : Single
pauli_x = record { k = 0; u = pauli_x_entry }

-- Y = (0 -i; i 0), with i = omega²
abbrev pub pauli_y_entry : Bool → Bool → Zω
pauli_y_entry true true = zeroω
pauli_y_entry true false = turn 2 oneω
pauli_y_entry false true = turn 6 oneω
pauli_y_entry false false = zeroω

abbrev pub pauli_y : Single
pauli_y = record { k = 0; u = pauli_y_entry }

-- Sx = 1/2 (1+i 1-i; 1-i 1+i): the square root of X
abbrev pub root_entry : Bool → Bool → Zω
root_entry true true = addω oneω (turn 2 oneω)
root_entry true false = addω oneω (turn 6 oneω)
root_entry false true = addω oneω (turn 6 oneω)
root_entry false false = addω oneω (turn 2 oneω)

abbrev pub root_x : Single
root_x = record { k = 2; u = root_entry }

-- (1 0; 0 omega^p): T by 1, S by 2, Z by 4, Sdg by 6, Tdg by 7
abbrev pub diagonal : ℕ → Bool → Bool → Zω
diagonal p true true = turn p oneω
diagonal p true false = zeroω
diagonal p false true = zeroω
diagonal p false false = oneω

abbrev pub phase_gate : ℕ → Single
phase_gate p = record { k = 0; u = diagonal p }

-- the two bits differ
abbrev pub differs : Bool → Bool → Bool
differs true b = not b
differs false b = b

-- the rows r and s have the same bits, bit t left aside: there they may differ or not
abbrev pub agree : ℕ → ℕ → ℕ → Bool
agree t r s = eqb s r || eqb s (flip t r)

-- a gate on bit t, controlled by the bits ks: where row and column agree on all other bits, the gate's entry if the
-- controls are 1, and the identity's, at the gate's denominator, if not
unfoldable pub controlled : Single → List ℕ → ℕ → ℕ → ℕ → Zω
controlled g ks t r s =
    pick (agree t r s) (pick (ones ks r) (g.u (bit r t) (bit s t)) (pick (eqb s r) (sqrt2s g.k oneω) zeroω)) zeroω

abbrev pub paper_matrix : Single → List ℕ → ℕ → Exact
paper_matrix g ks t = record { k = g.k; e = controlled g ks t }

-- the row with its bits j and k exchanged, where the bits ks are 1; otherwise the row itself
unfoldable pub swapped : List ℕ → ℕ → ℕ → ℕ → ℕ
swapped ks j k r = pick (ones ks r && differs (bit r j) (bit r k)) (flip j (flip k r)) r

-- a permutation of the rows as a matrix
abbrev pub permutation : (ℕ → ℕ) → Exact
permutation f = record { k = 0; e = λ r s. pick (eqb s (f r)) oneω zeroω }

-- the matrix of each kind: the last operand is the target, of Swap and Cswap the last two are the pair, and the others
-- are controls
abbrev pub paper_gate : ℕ → Kind → ℕ → ℕ → ℕ → Exact
paper_gate n H a b c = paper_matrix hadamard [] (bit_of n a)
paper_gate n X a b c = paper_matrix pauli_x [] (bit_of n a)
paper_gate n Z a b c = paper_matrix (phase_gate 4) [] (bit_of n a)
paper_gate n S a b c = paper_matrix (phase_gate 2) [] (bit_of n a)
paper_gate n Sdg a b c = paper_matrix (phase_gate 6) [] (bit_of n a)
paper_gate n T a b c = paper_matrix (phase_gate 1) [] (bit_of n a)
paper_gate n Tdg a b c = paper_matrix (phase_gate 7) [] (bit_of n a)
paper_gate n Cx a b c = paper_matrix pauli_x (bit_of n a ∷ []) (bit_of n b)
paper_gate n Cz a b c = paper_matrix (phase_gate 4) (bit_of n a ∷ []) (bit_of n b)
paper_gate n Ccx a b c = paper_matrix pauli_x (bit_of n a ∷ bit_of n b ∷ []) (bit_of n c)
paper_gate n Ccz a b c = paper_matrix (phase_gate 4) (bit_of n a ∷ bit_of n b ∷ []) (bit_of n c)
paper_gate n Y a b c = paper_matrix pauli_y [] (bit_of n a)
paper_gate n Sx a b c = paper_matrix root_x [] (bit_of n a)
paper_gate n Swap a b c = permutation (swapped [] (bit_of n a) (bit_of n b))
paper_gate n Cy a b c = paper_matrix pauli_y (bit_of n a ∷ []) (bit_of n b)
paper_gate n Ch a b c = paper_matrix hadamard (bit_of n a ∷ []) (bit_of n b)
paper_gate n Cswap a b c = permutation (swapped (bit_of n a ∷ []) (bit_of n b) (bit_of n c))
paper_gate n Other a b c = identity

-- the matrix of a code; one that is not valid at the width stands for the identity
unfoldable pub paper_of : ℕ → ℕ → Exact
paper_of n g = pick (valid n g) (paper_gate n (kind_of g) (first g) (second g) (third g)) identity

-- the sum of f s for s below m
abbrev pub sumω : ℕ → (ℕ → Zω) → Zω
sumω zero f = zeroω
sumω (suc m) f = addω (sumω m f) (f m)

-- the product of two matrices of width n: the entry at r and c is the sum over s, and the exponents add up
abbrev pub multiply : ℕ → Exact → Exact → Exact
multiply n x y = record { k = x.k + y.k; e = λ r c. sumω (2 ^ n) (λ s. mulω (x.e r s) (y.e s c)) }

-- the paper's product of a list: the oldest gate is first in the list, the newest leftmost in the product
-- (SPECIFICATION 3.5)
abbrev pub paper_after : ℕ → Exact → List ℕ → Exact
paper_after n x [] = x
paper_after n x (g ∷ l) = paper_after n (multiply n (paper_of n g) x) l

abbrev pub paper_product : ℕ → List ℕ → Exact
paper_product n l = paper_after n identity l
