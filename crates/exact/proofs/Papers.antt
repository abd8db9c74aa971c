-- Each row operation is the product with the paper's matrix, so a list's product has the value of the paper's. Assumes
-- nothing.
use mathlib.Core.Path.{◌≡◌, refl, sym, ap, ◌∙◌, subst}
use mathlib.Core.Bool.{Bool, true, false, not, ◌&&◌}
use mathlib.Core.List.{List, [], ◌∷◌, ◌++◌, map}
use Prim.Native.Nat.{ℕ, ◌^◌, ◌<◌}
use native.Mathlib.Nat.{zero-add}
use native.Mathlib.Numerals.{one-add}
use borrow.Author.Tests.{eq-eqb, ne_eqb}
use lib.Dec.{eqb}
use lib.ListN.{take}
use native.Mathlib.Omega.{arith}
use Rattle.ints.specs.Bits.{bit}
use Rattle.ints.specs.Lists.{pick, all}
use Rattle.ints.proofs.Bools.{and-true, and_assoc}
use Rattle.cyclotomic.specs.Zomega.{Zω, zeroω, oneω, addω, subω, mulω, turn, sqrt2}
use Rattle.cyclotomic.proofs.Sums.{add_comm, add_zero, zero_add as add_zero_left}
use Rattle.cyclotomic.proofs.Turns.{sub_is, turn_sum, turn_none}
use Rattle.cyclotomic.proofs.Product.{one_mul, zero_mul, turn_is_mul, sqrt2_is_mul}
use Rattle.cyclotomic.proofs.Four.{same4, one_e, add_e, sub_e, mul_e, turn_e, of2}
use Rattle.cyclotomic.proofs.Four as four
use Rattle.kinds.specs.Kinds.{Kind, H, X, Z, S, Sdg, T, Tdg, Cx, Cz, Ccx, Ccz, Y, Sx, Swap, Cy, Ch, Cswap, Other, arity}
use Rattle.circuit.specs.Codes.{kind_of, first, second, third, valid}
use Rattle.exact.specs.Matrix.{Exact, SameValue, sqrt2s, identity}
use Rattle.exact.proofs.Words.{Equal, Proper, Lacks}
use Rattle.exact.specs.Rows.{flip, ones, phase, exchange, had, then, column, raw, bit_of, turned_exchange, exchanges3, gate, gate_of}
use Rattle.exact.specs.Lists.{after, product}
use Rattle.exact.specs.Paper.{Single, hadamard, pauli_x, pauli_y, root_x, differs, swapped, permutation, phase_gate, controlled, paper_matrix, paper_gate, paper_of, sumω, multiply, paper_after, paper_product}
use Rattle.exact.proofs.Flips.{bit_own, bit_other, ones_other, flip_flip, flip_comm, flip_differs, flip_lt, moved, moved_lt}
use Rattle.exact.proofs.Values.{same_refl, same_trans, equal_same, lower_same}
use Rattle.exact.proofs.Linear.{raw_same}
use Rattle.exact.proofs.Coded.{AllDiffer, proper, differ}
use Rattle.exact.proofs.Terms.{sum_one, sum_two}

-- ---- a row of a controlled gate has two places

module _ (g : Single) (ks : List ℕ) (t r : ℕ) where
  own : controlled g ks t r r ≡ pick (ones ks r) (g.u (bit r t) (bit r t)) (sqrt2s g.k oneω)
  unfolding controlled
  own = rw (eq-eqb r r refl)

  across : controlled g ks t r (flip t r) ≡ pick (ones ks r) (g.u (bit r t) (not (bit r t))) zeroω
  unfolding controlled
  across = rw (ne_eqb (flip t r) r (λ e. flip_differs t r (sym e)), eq-eqb (flip t r) (flip t r) refl, bit_own t r)

  elsewhere : (s : ℕ) → (s ≡ r → ⊥) → (s ≡ flip t r → ⊥) → controlled g ks t r s ≡ zeroω
  unfolding controlled
  elsewhere s p q = rw (ne_eqb s r p, ne_eqb s (flip t r) q)

  two_terms : (n : ℕ) (v : ℕ → Zω) → t < n → r < 2 ^ n
      → sumω (2 ^ n) (λ s. mulω (controlled g ks t r s) (v s))
      ≡ addω (mulω (pick (ones ks r) (g.u (bit r t) (bit r t)) (sqrt2s g.k oneω)) (v r))
      (mulω (pick (ones ks r) (g.u (bit r t) (not (bit r t))) zeroω) (v (flip t r)))
  two_terms n v h w =
      sum_two (2 ^ n) (λ s. mulω (controlled g ks t r s) (v s)) r (flip t r) w (flip_lt n t r h w) (flip_differs t r)
      (λ s q e f. ap (λ (z : Zω). mulω z (v s)) (elsewhere s e f) ∙ zero_mul (v s))
      ∙ (λ i. addω (mulω (own i) (v r)) (mulω (across i) (v (flip t r))))

-- ---- the three row operations, and those that come one after the other

one_zero : (x y : Zω) → addω (mulω oneω x) (mulω zeroω y) ≡ x
one_zero x y = (λ i. addω (one_mul x i) (zero_mul y i)) ∙ add_zero x

zero_one : (x y : Zω) → addω (mulω zeroω x) (mulω oneω y) ≡ y
zero_one x y = add_comm (mulω zeroω x) (mulω oneω y) ∙ one_zero y x

ones_append : (ks : List ℕ) (t r : ℕ) → ones (ks ++ (t ∷ [])) r ≡ ones ks r && bit r t
unfolding all
ones_append [] t r = and-true (bit r t)
ones_append (k ∷ ks) t r = ap (λ (b : Bool). bit r k && b) (ones_append ks t r) ∙ sym (and_assoc (bit r k) (ones ks r) (bit r t))

root_one : (y z : Zω) → addω (mulω (addω oneω (turn 2 oneω)) y) (mulω (addω oneω (turn 6 oneω)) z) ≡ subω (addω z y) (turn 2 (subω z y))
unfolding addω subω mulω oneω turn
root_one y z = same4 (of2 y z) (add_e (mul_e (add_e one_e (turn_e 2 one_e)) four.X) (mul_e (add_e one_e (turn_e 6 one_e)) four.Y)) (sub_e (add_e four.Y four.X) (turn_e 2 (sub_e four.Y four.X))) tt

root_two : (y z : Zω) → addω (mulω (addω oneω (turn 2 oneω)) y) (mulω (addω oneω (turn 6 oneω)) z) ≡ addω (addω y z) (turn 2 (subω y z))
unfolding addω subω mulω oneω turn
root_two y z = same4 (of2 y z) (add_e (mul_e (add_e one_e (turn_e 2 one_e)) four.X) (mul_e (add_e one_e (turn_e 6 one_e)) four.Y)) (add_e (add_e four.X four.Y) (turn_e 2 (sub_e four.X four.Y))) tt

module _ (n t : ℕ) (x : Exact) (h : t < n) where
  pub paper_had : (ks : List ℕ) → Equal n (multiply n (paper_matrix hadamard ks t) x) (raw (had ks t) x)
  unfolding column
  paper_had ks = record {
    exponent = one-add x.k;
    entries = λ r c p q. two_terms hadamard ks t r n (λ s. x.e s c) h p ∙ by (ones ks r) (bit r t) (x.e r c) (x.e (flip t r) c);
  }
    where
      by : (o b : Bool) (y z : Zω) → addω (mulω (pick o (hadamard.u b b) (sqrt2 oneω)) y) (mulω (pick o (hadamard.u b (not b)) zeroω) z)
          ≡ pick o (pick b (subω z y) (addω y z)) (sqrt2 y)
      by true true y z = (λ i. addω (sym (turn_is_mul 4 y) i) (one_mul z i)) ∙ add_comm (turn 4 y) z ∙ sym (sub_is z y)
      by true false y z = λ i. addω (one_mul y i) (one_mul z i)
      by false b y z = (λ i. addω (sym (sqrt2_is_mul y) i) (zero_mul z i)) ∙ add_zero (sqrt2 y)

  -- Y and Cy: a turn of the target's one-rows, an exchange, a turn
  pub paper_y : (ks : List ℕ) → Equal n (multiply n (paper_matrix pauli_y ks t) x) (raw (turned_exchange ks t) x)
  unfolding column all
  paper_y ks = record {
    exponent = zero-add x.k;
    entries = λ r c p q. two_terms pauli_y ks t r n (λ s. x.e s c) h p ∙ by (ones ks r) (bit r t) r c refl;
  }
    where
      turns_alone : (p : ℕ) (y z : Zω) → addω (mulω zeroω y) (mulω (turn p oneω) z) ≡ turn p z
      turns_alone p y z = (λ i. addω (zero_mul y i) (sym (turn_is_mul p z) i)) ∙ add_zero_left (turn p z)

      by : (o b : Bool) (r c : ℕ) → bit r t ≡ b
          → addω (mulω (pick o (pauli_y.u b b) oneω) (x.e r c)) (mulω (pick o (pauli_y.u b (not b)) zeroω) (x.e (flip t r) c))
          ≡ pick (b && true) (turn 2 (pick (bit (pick o (flip t r) r) t && true) (turn 6 (x.e (pick o (flip t r) r) c)) (x.e (pick o (flip t r) r) c)))
          (pick (bit (pick o (flip t r) r) t && true) (turn 6 (x.e (pick o (flip t r) r) c)) (x.e (pick o (flip t r) r) c))
      by true true r c e = rw (bit_own t r, e) (turns_alone 2 (x.e r c) (x.e (flip t r) c))
      by true false r c e = rw (bit_own t r, e) (turns_alone 6 (x.e r c) (x.e (flip t r) c))
      by false true r c e = rw e (one_zero (x.e r c) (x.e (flip t r) c) ∙ sym (turn_sum 2 6 (x.e r c) ∙ turn_none (x.e r c)))
      by false false r c e = rw e (one_zero (x.e r c) (x.e (flip t r) c))

  -- Sx: "as H, S, H"
  pub paper_root : Equal n (multiply n (paper_matrix root_x [] t) x) (raw (then (had [] t) (then (phase (t ∷ []) 2) (had [] t))) x)
  unfolding column all
  paper_root = record {
    exponent = omega arith;
    entries = λ r c p q. two_terms root_x [] t r n (λ s. x.e s c) h p ∙ by (bit r t) r c refl;
  }
    where
      by : (b : Bool) (r c : ℕ) → bit r t ≡ b
          → addω (mulω (root_x.u b b) (x.e r c)) (mulω (root_x.u b (not b)) (x.e (flip t r) c))
          ≡ (raw (then (had [] t) (then (phase (t ∷ []) 2) (had [] t))) x).e r c
      by true r c e = rw (bit_own t r, flip_flip t r, e) (root_one (x.e r c) (x.e (flip t r) c))
      by false r c e = rw (bit_own t r, flip_flip t r, e) (root_two (x.e r c) (x.e (flip t r) c))

  pub paper_exchange : (ks : List ℕ) → Equal n (multiply n (paper_matrix pauli_x ks t) x) (raw (exchange ks t) x)
  unfolding column
  paper_exchange ks = record {
    exponent = zero-add x.k;
    entries = λ r c p q. two_terms pauli_x ks t r n (λ s. x.e s c) h p ∙ by (ones ks r) (bit r t) r c;
  }
    where
      by : (o b : Bool) (r c : ℕ)
          → addω (mulω (pick o (pauli_x.u b b) oneω) (x.e r c)) (mulω (pick o (pauli_x.u b (not b)) zeroω) (x.e (flip t r) c))
          ≡ x.e (pick o (flip t r) r) c
      by true true r c = zero_one (x.e r c) (x.e (flip t r) c)
      by true false r c = zero_one (x.e r c) (x.e (flip t r) c)
      by false b r c = one_zero (x.e r c) (x.e (flip t r) c)

  pub paper_phase : (ks : List ℕ) (p : ℕ) → Equal n (multiply n (paper_matrix (phase_gate p) ks t) x) (raw (phase (ks ++ (t ∷ [])) p) x)
  unfolding column
  paper_phase ks p = record {
    exponent = zero-add x.k;
    entries = λ r c w q. two_terms (phase_gate p) ks t r n (λ s. x.e s c) h w ∙ by (ones ks r) (bit r t) (x.e r c) (x.e (flip t r) c)
        ∙ ap (λ (b : Bool). pick b (turn p (x.e r c)) (x.e r c)) (sym (ones_append ks t r));
  }
    where
      by : (o b : Bool) (y z : Zω)
          → addω (mulω (pick o ((phase_gate p).u b b) oneω) y) (mulω (pick o ((phase_gate p).u b (not b)) zeroω) z) ≡ pick (o && b) (turn p y) y
      by true true y z = (λ i. addω (sym (turn_is_mul p y) i) (zero_mul z i)) ∙ add_zero (turn p y)
      by true false y z = one_zero y z
      by false b y z = one_zero y z

-- ---- permutations of the rows

-- three exchanges change the places of the rows whose bits j and k differ
three_moves : (ks : List ℕ) (j k r : ℕ) → (k ≡ j → ⊥) → Lacks j ks
    → moved (k ∷ []) j (moved (j ∷ ks) k (moved (k ∷ []) j r)) ≡ swapped ks j k r
unfolding all swapped
three_moves ks j k r d l = go (ones ks r) (bit r j) (bit r k) refl refl refl
  where
    go : (o a b : Bool) → ones ks r ≡ o → bit r j ≡ a → bit r k ≡ b
        → moved (k ∷ []) j (moved (j ∷ ks) k (pick (b && true) (flip j r) r)) ≡ pick (o && differs a b) (flip j (flip k r)) r
    go true true true eo ea eb = rw (bit_own j r, ea, bit_other k j r d, eb) (flip_flip j r)
    go false true true eo ea eb = rw (bit_own j r, ea, bit_other k j r d, eb) (flip_flip j r)
    go true false true eo ea eb = rw (bit_own j r, ea, ones_other j ks r l, eo, bit_own k (flip j r), bit_other k j r d, eb) (flip_comm k j r)
    go false false true eo ea eb = rw (bit_own j r, ea, ones_other j ks r l, eo, bit_other k j r d, eb) (flip_flip j r)
    go true true false eo ea eb = rw (ea, eo, bit_own k r, eb)
    go false true false eo ea eb = rw (ea, eo, eb)
    go true false false eo ea eb = rw (ea, eb)
    go false false false eo ea eb = rw (ea, eb)

paper_permutation : (n : ℕ) (f : ℕ → ℕ) (x : Exact) (r c : ℕ) → f r < 2 ^ n → (multiply n (permutation f) x).e r c ≡ x.e (f r) c
paper_permutation n f x r c p =
    sum_one (2 ^ n) (λ s. mulω (pick (eqb s (f r)) oneω zeroω) (x.e s c)) (f r) p
    (λ s w d. ap (λ (b : Bool). mulω (pick b oneω zeroω) (x.e s c)) (ne_eqb s (f r) d) ∙ zero_mul (x.e s c))
    ∙ ap (λ (b : Bool). mulω (pick b oneω zeroω) (x.e (f r) c)) (eq-eqb (f r) (f r) refl) ∙ one_mul (x.e (f r) c)

-- Swap and Cswap
paper_swap : (n : ℕ) (ks : List ℕ) (j k : ℕ) (x : Exact) → j < n → k < n → (k ≡ j → ⊥) → Lacks j ks
    → Equal n (multiply n (permutation (swapped ks j k)) x) (raw (exchanges3 ks j k) x)
unfolding column
paper_swap n ks j k x hj hk d l = record {
  exponent = zero-add x.k;
  entries = λ r c p q.
      let m = three_moves ks j k r d l in
      paper_permutation n (swapped ks j k) x r c
      (subst (λ (s : ℕ). s < 2 ^ n) m (moved_lt (k ∷ []) j n hj _ (moved_lt (j ∷ ks) k n hk _ (moved_lt (k ∷ []) j n hj r p))))
      ∙ ap (λ (s : ℕ). x.e s c) (sym m);
}

-- the identity's row has one place
pub multiply_identity : (n : ℕ) (x : Exact) → Equal n (multiply n identity x) x
multiply_identity n x = record {
  exponent = zero-add x.k;
  entries = λ r c p q. sum_one (2 ^ n) (λ s. mulω (pick (eqb r s) oneω zeroω) (x.e s c)) r p
      (λ s w d. ap (λ (b : Bool). mulω (pick b oneω zeroω) (x.e s c)) (ne_eqb r s (λ e. d (sym e))) ∙ zero_mul (x.e s c))
      ∙ ap (λ (b : Bool). mulω (pick b oneω zeroω) (x.e r c)) (eq-eqb r r refl) ∙ one_mul (x.e r c);
}

paper_nothing : (n : ℕ) (x : Exact) → Equal n (multiply n identity x) (raw (phase [] 0) x)
unfolding column all turn
paper_nothing n x = multiply_identity n x

-- ---- the gate of a code

-- each kind's row operations are the product with the paper's matrix, on any operands that are bits of the width, the
-- target no control; of Cswap the control is none of the pair, of which `Proper` has only one half
pub paper_kind : (n : ℕ) (k : Kind) (a b c : ℕ) (x : Exact) → Proper n (gate n k a b c) → (k ≡ Cswap → bit_of n b ≡ bit_of n a → ⊥)
    → Equal n (multiply n (paper_gate n k a b c) x) (raw (gate n k a b c) x)
paper_kind n H a b c x w d = paper_had n (bit_of n a) x w.0 []
paper_kind n X a b c x w d = paper_exchange n (bit_of n a) x w.0 []
paper_kind n Z a b c x w d = paper_phase n (bit_of n a) x w.0 [] 4
paper_kind n S a b c x w d = paper_phase n (bit_of n a) x w.0 [] 2
paper_kind n Sdg a b c x w d = paper_phase n (bit_of n a) x w.0 [] 6
paper_kind n T a b c x w d = paper_phase n (bit_of n a) x w.0 [] 1
paper_kind n Tdg a b c x w d = paper_phase n (bit_of n a) x w.0 [] 7
paper_kind n Cx a b c x w d = paper_exchange n (bit_of n b) x w.0 (bit_of n a ∷ [])
paper_kind n Cz a b c x w d = paper_phase n (bit_of n b) x w.1.0 (bit_of n a ∷ []) 4
paper_kind n Ccx a b c x w d = paper_exchange n (bit_of n c) x w.0 (bit_of n a ∷ bit_of n b ∷ [])
paper_kind n Ccz a b c x w d = paper_phase n (bit_of n c) x w.1.1.0 (bit_of n a ∷ bit_of n b ∷ []) 4
paper_kind n Y a b c x w d = paper_y n (bit_of n a) x w.0.0 []
paper_kind n Sx a b c x w d = paper_root n (bit_of n a) x w.0.0
paper_kind n Swap a b c x w d = paper_swap n [] (bit_of n a) (bit_of n b) x w.0.0 w.1.0.0 w.0.2.0 tt
paper_kind n Cy a b c x w d = paper_y n (bit_of n b) x w.0.0 (bit_of n a ∷ [])
paper_kind n Ch a b c x w d = paper_had n (bit_of n b) x w.0 (bit_of n a ∷ [])
paper_kind n Cswap a b c x w d =
    paper_swap n (bit_of n a ∷ []) (bit_of n b) (bit_of n c) x w.0.0 w.1.0.0 w.0.2.0 (λ e. d refl (sym e), tt)
paper_kind n Other a b c x w d = paper_nothing n x

pub paper_gate_lem : (n g : ℕ) (x : Exact) → Equal n (multiply n (paper_of n g) x) (raw (gate_of n g) x)
unfolding paper_of gate_of arity
paper_gate_lem n g x = by (valid n g) refl (proper n g)
  where
    by : (v : Bool) → valid n g ≡ v → Proper n (pick v (gate n (kind_of g) (first g) (second g) (third g)) (phase [] 0))
        → Equal n (multiply n (pick v (paper_gate n (kind_of g) (first g) (second g) (third g)) identity) x)
        (raw (pick v (gate n (kind_of g) (first g) (second g) (third g)) (phase [] 0)) x)
    by true v w =
        paper_kind n (kind_of g) (first g) (second g) (third g) x w
        (λ e. (subst (λ (k : Kind). AllDiffer (map (bit_of n) (take (arity k) (first g ∷ second g ∷ third g ∷ [])))) e (differ n g v)).0.0)
    by false v w = paper_nothing n x

paper_after_lem : (n : ℕ) (l : List ℕ) {x y : Exact} → SameValue n x y → SameValue n (paper_after n x l) (after n y l)
paper_after_lem n [] s = s
paper_after_lem n (g ∷ l) {x} {y} s =
    paper_after_lem n l (same_trans n {y = raw (gate_of n g) x} (equal_same n (paper_gate_lem n g x))
    (same_trans n {y = raw (gate_of n g) y} (raw_same n (gate_of n g) (proper n g) s) (lower_same n (raw (gate_of n g) y))))

-- the product of a list has the value of the paper's product
pub paper_value : (n : ℕ) (l : List ℕ) → SameValue n (paper_product n l) (product n l)
unfolding product
paper_value n l = paper_after_lem n l (same_refl n identity)

-- the pair of Swap and of Cswap may stand in either order: it is one matrix
differs_comm : (a b : Bool) → differs a b ≡ differs b a
differs_comm true true = refl
differs_comm true false = refl
differs_comm false true = refl
differs_comm false false = refl

pub swapped_either : (ks : List ℕ) (j k r : ℕ) → swapped ks j k r ≡ swapped ks k j r
unfolding swapped
swapped_either ks j k r = λ i. pick (ones ks r && differs_comm (bit r j) (bit r k) i) (flip_comm j k r i) r
