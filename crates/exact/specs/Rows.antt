-- What gates do to rows: multiplying by a gate on the left, said without a product of matrices, as the code does it
-- (SPECIFICATION 3.2). The kinds come to three operations and to several of them one after the other, so that a law has
-- four cases and not seventeen. Assumes nothing.
use Rattle.std.specs.Prelude.{Bool, List, [], ◌∷◌, ℕ, suc, ◌-◌, ◌^◌}
use Rattle.std.specs.Int.Bits.{bit_xor}
use Rattle.ints.specs.Bits.{bit}
use Rattle.ints.specs.Lists.{pick, all}
use Rattle.cyclotomic.specs.Zomega.{Zω, addω, subω, turn, sqrt2}
use Rattle.kinds.specs.Kinds.{Kind, H, X, Z, S, Sdg, T, Tdg, Cx, Cz, Ccx, Ccz, Y, Sx, Swap, Cy, Ch, Cswap, Other}
use Rattle.circuit.specs.Codes.{kind_of, first, second, third, valid}
use Rattle.exact.specs.Matrix.{Exact, lower}

-- the row that differs in bit k alone
unfoldable pub flip : ℕ → ℕ → ℕ
flip k r = bit_xor r (2 ^ k)

-- the bits of a list are all 1
abbrev pub ones : List ℕ → ℕ → Bool
ones ks r = all (bit r) ks

-- what a gate does to rows, by their bits: a turn by omega^p of the rows that have all the bits ks; an exchange of the
-- rows that differ in bit k, where all the bits ks are 1; H of each pair of rows that differ in bit k, where all the
-- bits ks are 1; one gate after the other
pub data Gate : Type 0 where
  phase : List ℕ → ℕ → Gate
  exchange : List ℕ → ℕ → Gate
  had : List ℕ → ℕ → Gate
  then : Gate → Gate → Gate

-- what comes to row r of a column v: itself, turned where the bits are 1; the row that it is exchanged with; of H the
-- sum of the two rows where the bit is 0, and where it is 1 the row with 0 less the row with 1; but where one of H's
-- controls is 0 the row itself times sqrt(2), since the exponent is the whole matrix's; of two gates what the second
-- makes of the first's result (SPECIFICATION 3.2)
unfoldable pub column : Gate → (ℕ → Zω) → ℕ → Zω
column (phase ks p) v r = pick (ones ks r) (turn p (v r)) (v r)
column (exchange ks k) v r = v (pick (ones ks r) (flip k r) r)
column (had ks k) v r = pick (ones ks r) (pick (bit r k) (subω (v (flip k r)) (v r)) (addω (v r) (v (flip k r)))) (sqrt2 (v r))
column (then g h) v r = column h (column g v) r

-- the exponent: H adds 1, with controls or without, the others leave it (SPECIFICATION 3.2)
abbrev pub raise : Gate → ℕ → ℕ
raise (phase ks p) k = k
raise (exchange ks j) k = k
raise (had ks j) k = suc k
raise (then g h) k = raise h (raise g k)

-- the row operations, without lowering (SPECIFICATION 3.2); of one operation it is the raw result. What fits is said of
-- each operation by itself, in Fits.antt
abbrev pub raw : Gate → Exact → Exact
raw g x = record { k = raise g x.k; e = λ r c. column g (λ s. x.e s c) r }

-- a step: the row operations, then lowering (SPECIFICATION 3.3)
abbrev pub act : ℕ → Gate → Exact → Exact
act n g x = lower n (raw g x)

-- the bit of a row's number that is qubit q of n (SPECIFICATION 1.6)
abbrev pub bit_of : ℕ → ℕ → ℕ
bit_of n q = n - suc q

-- Y and Cy: the target's one-rows are turned by 6, the rows exchanged where the controls are 1, the one-rows turned by
-- 2
abbrev pub turned_exchange : List ℕ → ℕ → Gate
turned_exchange ks k = then (phase (k ∷ []) 6) (then (exchange ks k) (phase (k ∷ []) 2))

-- Swap and Cswap: the rows whose bits j and k differ change places, where the controls are 1
abbrev pub exchanges3 : List ℕ → ℕ → ℕ → Gate
exchanges3 ks j k = then (exchange (k ∷ []) j) (then (exchange (j ∷ ks) k) (exchange (k ∷ []) j))

-- the row operations of each kind, with operands a, b, c (SPECIFICATION 3.2)
abbrev pub gate : ℕ → Kind → ℕ → ℕ → ℕ → Gate
gate n H a b c = had [] (bit_of n a)
gate n X a b c = exchange [] (bit_of n a)
gate n Z a b c = phase (bit_of n a ∷ []) 4
gate n S a b c = phase (bit_of n a ∷ []) 2
gate n Sdg a b c = phase (bit_of n a ∷ []) 6
gate n T a b c = phase (bit_of n a ∷ []) 1
gate n Tdg a b c = phase (bit_of n a ∷ []) 7
gate n Cx a b c = exchange (bit_of n a ∷ []) (bit_of n b)
gate n Cz a b c = phase (bit_of n a ∷ bit_of n b ∷ []) 4
gate n Ccx a b c = exchange (bit_of n a ∷ bit_of n b ∷ []) (bit_of n c)
gate n Ccz a b c = phase (bit_of n a ∷ bit_of n b ∷ bit_of n c ∷ []) 4
gate n Y a b c = turned_exchange [] (bit_of n a)
gate n Sx a b c = then (had [] (bit_of n a)) (then (phase (bit_of n a ∷ []) 2) (had [] (bit_of n a)))
gate n Swap a b c = exchanges3 [] (bit_of n a) (bit_of n b)
gate n Cy a b c = turned_exchange (bit_of n a ∷ []) (bit_of n b)
gate n Ch a b c = had (bit_of n a ∷ []) (bit_of n b)
gate n Cswap a b c = exchanges3 (bit_of n a ∷ []) (bit_of n b) (bit_of n c)
gate n Other a b c = phase [] 0

-- the gate of a code; a code that is not valid at the width does nothing
unfoldable pub gate_of : ℕ → ℕ → Gate
gate_of n g = pick (valid n g) (gate n (kind_of g) (first g) (second g) (third g)) (phase [] 0)
