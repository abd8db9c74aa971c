-- The gate of a code is one of its width, and the two tests on pairs of codes say of the gates what they should:
-- `inverse` that one undoes the other, `disjoint` that they have no common bit. Assumes nothing.
use mathlib.Core.Path.{◌≡◌, refl, sym, ap, ◌∙◌}
use mathlib.Core.Bool.{Bool, true, false, not, ◌&&◌, ◌||◌}
use mathlib.Core.List.{List, [], ◌∷◌, map}
use Prim.Native.Nat.{ℕ, ◌%◌, ◌<◌}
use native.Mathlib.Omega.{arith}
use borrow.Author.Tests.{eqb-true, eqb-false, ltb-true}
use lib.Dec.{eqb, ltb}
use lib.ListN.{take, drop}
use Rattle.ints.specs.Lists.{pick, all, elem, distinct}
use Rattle.ints.proofs.Bools.{clash, both_true, and_left, and_right}
use Rattle.kinds.specs.Kinds.{Kind, H, X, Z, S, Sdg, T, Tdg, Cx, Cz, Ccx, Ccz, Y, Sx, Swap, Cy, Ch, Cswap, Other, kind_at, number, arity, sorted, is_kind, of_tables, dual}
use Rattle.circuit.specs.Codes.{kind_number, kind_of, first, second, third, valid, valid_for}
use Rattle.operands.specs.Operands.{placed, ordered}
use Rattle.circuit.specs.Pairs.{inverse, qubits, disjoint}
use Rattle.kinds.proofs.ByNumber.{kind_number_lem, table_kind}
use Rattle.circuit.proofs.Coded.{code_table}
use Rattle.exact.specs.Rows.{Gate, phase, bit_of, gate, gate_of}
use Rattle.exact.proofs.Words.{Lacks, AllBelow, Proper, Plain, touches, Apart, Undoes, turns, exchanges, hads}
use Rattle.exact.proofs.Values.{pick_ind}
use Rattle.exact.proofs.Linear.{apart_sym}

-- ---- tests of lists

-- no number stands twice
abbrev pub AllDiffer : List ℕ → Type 0
AllDiffer [] = Unit {0}
AllDiffer (x ∷ xs) = Lacks x xs × AllDiffer xs

all_below : (n : ℕ) (l : List ℕ) → all (λ q. ltb q n) l ≡ true → AllBelow n l
unfolding all
all_below n [] h = tt
all_below n (x ∷ xs) h = let t = both_true (ltb x n) (all (λ q. ltb q n) xs) h in (ltb-true x n t.0, all_below n xs t.1)

not_elem : (k : ℕ) (l : List ℕ) → not (elem k l) ≡ true → Lacks k l
unfolding elem
not_elem k [] h = tt
not_elem k (x ∷ xs) h = let t = neither (eqb k x) (elem k xs) h in (λ e. eqb-false k x t.0 (sym e), not_elem k xs t.1)
  where
    neither : (s t : Bool) → not (s || t) ≡ true → (s ≡ false) × (not t ≡ true)
    neither true t h = clash h refl
    neither false t h = (refl, h)

all_differ : (l : List ℕ) → distinct l ≡ true → AllDiffer l
unfolding distinct
all_differ [] h = tt
all_differ (x ∷ xs) h = let t = both_true (not (elem x xs)) (distinct xs) h in (not_elem x xs t.0, all_differ xs t.1)

all_apart : (l m : List ℕ) → all (λ q. not (elem q m)) l ≡ true → Apart l m
unfolding all
all_apart [] m h = tt
all_apart (x ∷ xs) m h = let t = both_true (not (elem x m)) (all (λ q. not (elem q m)) xs) h in (not_elem x m t.0, all_apart xs m t.1)

-- ---- the bits of qubits

module _ (n : ℕ) where
  abbrev bits : List ℕ → List ℕ
  bits qs = map (bit_of n) qs

  bits_below : (l : List ℕ) → AllBelow n l → AllBelow n (bits l)
  bits_below [] w = tt
  bits_below (x ∷ xs) w = (omega (arith, w.0), bits_below xs w.1)

  bits_lack : (k : ℕ) (l : List ℕ) → k < n → AllBelow n l → Lacks k l → Lacks (bit_of n k) (bits l)
  bits_lack k [] h w a = tt
  bits_lack k (x ∷ xs) h w a = (λ e. a.0 (omega (arith, w.0)), bits_lack k xs h w.1 a.1)

  bits_differ : (l : List ℕ) → AllBelow n l → AllDiffer l → AllDiffer (bits l)
  bits_differ [] w d = tt
  bits_differ (x ∷ xs) w d = (bits_lack x xs w.0 w.1 d.0, bits_differ xs w.1 d.1)

  bits_apart : (l m : List ℕ) → AllBelow n l → AllBelow n m → Apart l m → Apart (bits l) (bits m)
  bits_apart [] m v w a = tt
  bits_apart (x ∷ xs) m v w a = (bits_lack x m v.0 w a.0, bits_apart xs m v.1 w a.1)

  -- the bits that a gate touches are those of its used operands
  apart_kind : (k : Kind) (a b c : ℕ) (l : List ℕ) → Apart (bits (take (arity k) (a ∷ b ∷ c ∷ []))) l → Apart (touches (gate n k a b c)) l
  unfolding arity
  apart_kind H a b c l h = h
  apart_kind X a b c l h = h
  apart_kind Z a b c l h = h
  apart_kind S a b c l h = h
  apart_kind Sdg a b c l h = h
  apart_kind T a b c l h = h
  apart_kind Tdg a b c l h = h
  apart_kind Cx a b c l h = (h.1.0, (h.0, tt))
  apart_kind Cz a b c l h = h
  apart_kind Ccx a b c l h = (h.1.1.0, (h.0, (h.1.0, tt)))
  apart_kind Ccz a b c l h = h
  apart_kind Y a b c l h = (h.0, (h.0, h))
  apart_kind Sx a b c l h = (h.0, (h.0, h))
  apart_kind Swap a b c l h = (h.0, (h.1.0, (h.1.0, (h.0, h))))
  apart_kind Cy a b c l h = (h.1.0, (h.1.0, (h.0, h.1)))
  apart_kind Ch a b c l h = (h.1.0, (h.0, tt))
  apart_kind Cswap a b c l h = (h.1.0, (h.1.1.0, (h.1.1.0, (h.1.0, (h.0, h.1)))))
  apart_kind Other a b c l h = tt

  proper_kind : (k : Kind) (a b c : ℕ) → AllBelow n (bits (take (arity k) (a ∷ b ∷ c ∷ []))) → AllDiffer (bits (take (arity k) (a ∷ b ∷ c ∷ [])))
      → Proper n (gate n k a b c)
  unfolding arity
  proper_kind H a b c w d = (w.0, tt, tt)
  proper_kind X a b c w d = (w.0, tt, tt)
  proper_kind Z a b c w d = w
  proper_kind S a b c w d = w
  proper_kind Sdg a b c w d = w
  proper_kind T a b c w d = w
  proper_kind Tdg a b c w d = w
  proper_kind Cx a b c w d = (w.1.0, (w.0, tt), (λ e. d.0.0 (sym e), tt))
  proper_kind Cz a b c w d = w
  proper_kind Ccx a b c w d = (w.1.1.0, (w.0, (w.1.0, tt)), (λ e. d.0.1.0 (sym e), (λ e. d.1.0.0 (sym e), tt)))
  proper_kind Ccz a b c w d = w
  proper_kind Y a b c w d = (w, ((w.0, tt, tt), w))
  proper_kind Sx a b c w d = ((w.0, tt, tt), (w, (w.0, tt, tt)))
  proper_kind Swap a b c w d =
      ((w.0, (w.1.0, tt), d.0), ((w.1.0, (w.0, tt), (λ e. d.0.0 (sym e), tt)), (w.0, (w.1.0, tt), d.0)))
  proper_kind Cy a b c w d = ((w.1.0, tt), ((w.1.0, (w.0, tt), (λ e. d.0.0 (sym e), tt)), (w.1.0, tt)))
  proper_kind Ch a b c w d = (w.1.0, (w.0, tt), (λ e. d.0.0 (sym e), tt))
  proper_kind Cswap a b c w d = (
    (w.1.0, (w.1.1.0, tt), d.1.0),
    ((w.1.1.0, (w.1.0, (w.0, tt)), (λ e. d.1.0.0 (sym e), (λ e. d.0.1.0 (sym e), tt))), (w.1.0, (w.1.1.0, tt), d.1.0)),
  )
  proper_kind Other a b c w d = tt

  -- the gate of a kind of tables is one row operation
  plain_kind : (k : Kind) (a b c : ℕ) → of_tables k ≡ true → Plain (gate n k a b c)
  unfolding of_tables
  plain_kind H a b c t = tt
  plain_kind X a b c t = tt
  plain_kind Z a b c t = tt
  plain_kind S a b c t = tt
  plain_kind Sdg a b c t = tt
  plain_kind T a b c t = tt
  plain_kind Tdg a b c t = tt
  plain_kind Cx a b c t = tt
  plain_kind Cz a b c t = tt
  plain_kind Ccx a b c t = tt
  plain_kind Ccz a b c t = tt
  plain_kind Y a b c t = clash t refl
  plain_kind Sx a b c t = clash t refl
  plain_kind Swap a b c t = clash t refl
  plain_kind Cy a b c t = clash t refl
  plain_kind Ch a b c t = tt
  plain_kind Cswap a b c t = clash t refl
  plain_kind Other a b c t = tt

  -- ---- what validity says
  pub placed_below : (m a b c : ℕ) → placed n m a b c ≡ true → AllBelow n (take m (a ∷ b ∷ c ∷ []))
  unfolding placed
  placed_below m a b c h =
      let used = take m (a ∷ b ∷ c ∷ []) in
      all_below n used (and_left (all (λ q. ltb q n) used) (distinct used && all (λ q. eqb q 0) (drop m (a ∷ b ∷ c ∷ []))) h)

  pub placed_differ : (m a b c : ℕ) → placed n m a b c ≡ true → AllDiffer (take m (a ∷ b ∷ c ∷ []))
  unfolding placed
  placed_differ m a b c h =
      let used = take m (a ∷ b ∷ c ∷ []) in
      let rest = all (λ q. eqb q 0) (drop m (a ∷ b ∷ c ∷ [])) in
      all_differ used (and_left (distinct used) rest (and_right (all (λ q. ltb q n) used) (distinct used && rest) h))

  pub valid_kind_lem : (g : ℕ) → valid n g ≡ true → is_kind (kind_of g) ≡ true
  unfolding valid
  valid_kind_lem g h = and_left (is_kind (kind_of g)) _ h

  pub valid_placed : (g : ℕ) → valid n g ≡ true → placed n (arity (kind_of g)) (first g) (second g) (third g) ≡ true
  unfolding valid
  valid_placed g h = and_left _ _ (and_right (is_kind (kind_of g)) _ h)

  pub qubits_below : (g : ℕ) → valid n g ≡ true → AllBelow n (qubits g)
  unfolding qubits
  qubits_below g h = placed_below (arity (kind_of g)) (first g) (second g) (third g) (valid_placed g h)

  pub qubits_differ : (g : ℕ) → valid n g ≡ true → AllDiffer (qubits g)
  unfolding qubits
  qubits_differ g h = placed_differ (arity (kind_of g)) (first g) (second g) (third g) (valid_placed g h)

  -- ---- the gate of a code is one of the width

  -- the gate that a code names, valid or not
  abbrev decoded : ℕ → Gate
  decoded g = gate n (kind_of g) (first g) (second g) (third g)

  proper_valid : (g : ℕ) → valid n g ≡ true → Proper n (decoded g)
  unfolding qubits
  proper_valid g h =
      let w = qubits_below g h in
      proper_kind (kind_of g) (first g) (second g) (third g) (bits_below (qubits g) w) (bits_differ (qubits g) w (qubits_differ g h))

  pub proper : (g : ℕ) → Proper n (gate_of n g)
  unfolding gate_of
  proper g = pick_ind (Proper n) (valid n g) (proper_valid g) (λ h. tt)

  -- its used operands' bits differ
  pub differ : (g : ℕ) → valid n g ≡ true → AllDiffer (map (bit_of n) (take (arity (kind_of g)) (first g ∷ second g ∷ third g ∷ [])))
  unfolding qubits
  differ g h = bits_differ (qubits g) (qubits_below g h) (qubits_differ g h)

  pub plain : (g : ℕ) → of_tables (kind_of g) ≡ true → Plain (gate_of n g)
  unfolding gate_of
  plain g t = pick_ind Plain (valid n g) (λ h. plain_kind (kind_of g) (first g) (second g) (third g) t) (λ h. tt)

  -- the codes of a list are each one row operation
  abbrev pub AllPlain : List ℕ → Type 0
  AllPlain [] = Unit {0}
  AllPlain (g ∷ l) = Plain (gate_of n g) × AllPlain l

  pub basis_plain : (basis : ℕ) (l : List ℕ) → all (valid_for n basis) l ≡ true → AllPlain l
  unfolding all
  basis_plain basis [] h = tt
  basis_plain basis (g ∷ l) h =
      let t = both_true (valid_for n basis g) (all (valid_for n basis) l) h in
      (plain g (code_table n basis g t.0), basis_plain basis l t.1)

  -- a code of a basis is below 12 × 4096
  pub basis_below : (basis g : ℕ) → valid_for n basis g ≡ true → g < 49152
  basis_below basis g h =
      let t = sym (table_kind (kind_number g)) ∙ code_table n basis g h in
      let k = ltb-true (kind_number g) 12 (and_left (ltb (kind_number g) 12) (is_kind (kind_of g)) t) in
      omega arith

  -- ---- the dual kind, on the same operands, undoes
  abbrev valid_kind : Kind → ℕ → ℕ → ℕ → Bool
  valid_kind k a b c = is_kind k && (placed n (arity k) a b c && ordered (sorted k) a b c)

  dual_valid : (k : Kind) (a b c : ℕ) → of_tables k ≡ true → valid_kind (dual k) a b c ≡ valid_kind k a b c
  unfolding dual is_kind arity sorted of_tables
  dual_valid H a b c t = refl
  dual_valid X a b c t = refl
  dual_valid Z a b c t = refl
  dual_valid S a b c t = refl
  dual_valid Sdg a b c t = refl
  dual_valid T a b c t = refl
  dual_valid Tdg a b c t = refl
  dual_valid Cx a b c t = refl
  dual_valid Cz a b c t = refl
  dual_valid Ccx a b c t = refl
  dual_valid Ccz a b c t = refl
  dual_valid Y a b c t = clash t refl
  dual_valid Sx a b c t = clash t refl
  dual_valid Swap a b c t = clash t refl
  dual_valid Cy a b c t = clash t refl
  dual_valid Ch a b c t = clash t refl
  dual_valid Cswap a b c t = clash t refl
  dual_valid Other a b c t = refl

  dual_undoes : (k : Kind) (a b c : ℕ) → of_tables k ≡ true → Proper n (gate n k a b c) → Undoes (gate n (dual k) a b c) (gate n k a b c)
  unfolding dual of_tables
  dual_undoes H a b c t p = hads tt
  dual_undoes X a b c t p = exchanges tt
  dual_undoes Z a b c t p = turns refl
  dual_undoes S a b c t p = turns refl
  dual_undoes Sdg a b c t p = turns refl
  dual_undoes T a b c t p = turns refl
  dual_undoes Tdg a b c t p = turns refl
  dual_undoes Cx a b c t p = exchanges p.2
  dual_undoes Cz a b c t p = turns refl
  dual_undoes Ccx a b c t p = exchanges p.2
  dual_undoes Ccz a b c t p = turns refl
  dual_undoes Y a b c t p = clash t refl
  dual_undoes Sx a b c t p = clash t refl
  dual_undoes Swap a b c t p = clash t refl
  dual_undoes Cy a b c t p = clash t refl
  dual_undoes Ch a b c t p = clash t refl
  dual_undoes Cswap a b c t p = clash t refl
  dual_undoes Other a b c t p = turns refl

  -- the parts of two codes of which one inverts the other
  record Inverts (g h : ℕ) : Type 0 where
    table : of_tables (kind_of h) ≡ true
    kind : kind_of g ≡ dual (kind_of h)
    one : first g ≡ first h
    two : second g ≡ second h
    three : third g ≡ third h

  inverts : (g h : ℕ) → inverse g h ≡ true → Inverts g h
  unfolding inverse
  inverts g h e =
      let t = and_right (of_tables (kind_of h)) _ e in
      let k = eqb-true (kind_number g) (number (dual (kind_of h))) (and_left _ _ t) in
      let low : g % 4096 ≡ h % 4096 = eqb-true (g % 4096) (h % 4096) (and_right (eqb (kind_number g) (number (dual (kind_of h)))) _ t) in
      record { table = and_left (of_tables (kind_of h)) _ e; kind = ap kind_at k ∙ kind_number_lem (dual (kind_of h)); one = omega arith; two = omega arith; three = omega arith }

  pub inverse_valid : (g h : ℕ) → inverse g h ≡ true → valid n g ≡ valid n h
  unfolding valid
  inverse_valid g h e =
      let s = inverts g h e in
      (λ i. valid_kind (s.kind i) (s.one i) (s.two i) (s.three i)) ∙ dual_valid (kind_of h) (first h) (second h) (third h) s.table

  pub inverse_undoes : (g h : ℕ) → inverse g h ≡ true → Undoes (gate_of n g) (gate_of n h)
  unfolding gate_of
  inverse_undoes g h e = rw (inverse_valid g h e) (by (valid n h) refl)
    where
      s : Inverts g h
      s = inverts g h e

      by : (v : Bool) → valid n h ≡ v → Undoes (pick v (decoded g) (phase [] 0)) (pick v (decoded h) (phase [] 0))
      by false v = turns refl
      by true v = rw (s.kind, s.one, s.two, s.three) (dual_undoes (kind_of h) (first h) (second h) (third h) s.table (proper_valid h v))

  -- ---- no common qubit, no common bit
  apart_nil : (l : List ℕ) → Apart l []
  apart_nil [] = tt
  apart_nil (x ∷ xs) = (tt, apart_nil xs)

  apart_touched : (g : ℕ) (l : List ℕ) → Apart (bits (qubits g)) l → Apart (touches (decoded g)) l
  unfolding qubits
  apart_touched g l = apart_kind (kind_of g) (first g) (second g) (third g) l

  pub disjoint_apart : (g h : ℕ) → disjoint g h ≡ true → Apart (touches (gate_of n g)) (touches (gate_of n h))
  unfolding gate_of disjoint
  disjoint_apart g h e =
      pick_ind (λ (x : Gate). Apart (touches x) (touches (gate_of n h))) (valid n g)
      (λ v. pick_ind (λ (x : Gate). Apart (touches (decoded g)) (touches x)) (valid n h)
      (λ w. apart_touched g _ (apart_sym _ (bits (qubits g)) (apart_touched h (bits (qubits g)) (apart_sym (bits (qubits g)) (bits (qubits h))
      (bits_apart (qubits g) (qubits h) (qubits_below g v) (qubits_below h w) (all_apart (qubits g) (qubits h) e))))))
      (λ w. apart_nil (touches (decoded g))))
      (λ v. tt)
