-- The two tests on pairs of codes, and the qubits of a code as one set of bits (SPECIFICATION 2.6, 2.7). Assumes
-- nothing.
use Rattle.std.specs.Prelude.{Bool, not, ◌&&◌, List, [], ◌∷◌, ℕ, ◌%◌, ◌^◌, eqb, take}
use Rattle.std.specs.Int.Bits.{bit_or}
use Rattle.ints.specs.Lists.{all, elem}
use Rattle.kinds.specs.Kinds.{number, arity, of_tables, dual}
use Rattle.circuit.specs.Codes.{kind_number, kind_of, first, second, third}

-- g inverts h: h is of a kind of tables, g's kind is the one that undoes it, and their operands are the same. Only
-- tables ask this
unfoldable pub inverse : ℕ → ℕ → Bool
inverse g h = of_tables (kind_of h) && (eqb (kind_number g) (number (dual (kind_of h))) && eqb (g % 4096) (h % 4096))

-- the qubits that a gate acts on: its used operands
unfoldable pub qubits : ℕ → List ℕ
qubits g = take (arity (kind_of g)) (first g ∷ second g ∷ third g ∷ [])

-- g shares no qubit with h
unfoldable pub disjoint : ℕ → ℕ → Bool
disjoint g h = all (λ q. not (elem q (qubits h))) (qubits g)

-- a list of qubits as one set of bits
unfoldable pub mask_of : List ℕ → ℕ
mask_of [] = 0
mask_of (q ∷ qs) = bit_or (2 ^ q) (mask_of qs)
