-- Gate sets and qubit sets by their bits. Assumes nothing.
use mathlib.Core.Path.{◌≡◌, refl, sym, ap, ◌∙◌}
use mathlib.Core.Bool.{Bool, true, false, not, ◌&&◌, ◌||◌}
use mathlib.Core.List.{List, [], ◌∷◌}
use Prim.Native.Nat.{ℕ, ◌^◌, ◌<◌}
use native.Mathlib.Omega.{arith}
use native.Mathlib.Decide.{dec_lt}
use borrow.Author.Tests.{eqb-true, eq-eqb}
use lib.Dec.{eqb, lit<}
use lib.Bits.{bit_and}
use Rattle.ints.specs.Bits.{bit}
use Rattle.ints.specs.Lists.{range, all, elem}
use Rattle.ints.proofs.Bools.{clash, iff, and_left, and_right, and_both, or_right, all_range, range_all}
use Rattle.ints.proofs.Bits.{and_bit, or_bit, ext_bit, zero_bit, high_bit, pow_bit}
use Rattle.kinds.specs.Kinds.{kind_at, of_tables}
use Rattle.circuit.specs.Sets.{supported, member, subset}
use Rattle.circuit.specs.Pairs.{mask_of}
use Rattle.kinds.proofs.ByNumber.{kind_past, told_alike, alike}

implied : (s t : Bool) → s && t ≡ s → not s || t ≡ true
implied true t h = h
implied false t h = refl

implies : (s t : Bool) → not s || t ≡ true → s && t ≡ s
implies true t h = h
implies false t h = refl

-- a set of 32 bits has no bit outside another exactly where their common bits are all of its own
pub subset_and : (x y : ℕ) → x < 2 ^ 32 → eqb (bit_and x y) x ≡ subset x y
unfolding subset
subset_and x y h = iff _ _
    (λ e. range_all (λ i. not (bit x i) || bit y i) 32 0 (λ k p q. implied (bit x k) (bit y k) (sym (and_bit x y k) ∙ ap (λ (z : ℕ). bit z k) (eqb-true (bit_and x y) x e))))
    (λ e. eq-eqb (bit_and x y) x (ext_bit (bit_and x y) x (λ k. and_bit x y k ∙ by k e (dec_lt k 32))))
  where
    by : (k : ℕ) → all (λ i. not (bit x i) || bit y i) (range 0 32) ≡ true → Dec (k < 32) → bit x k && bit y k ≡ bit x k
    by k e (yes l) = implies (bit x k) (bit y k) (all_range (λ i. not (bit x i) || bit y i) 32 0 e k (omega arith) (omega arith))
    by k e (no l) = let z = high_bit x 32 k h (omega arith) in rw z

-- bit q of a mask is 1 exactly where q is one of the qubits
pub mask_bit : (qs : List ℕ) (q : ℕ) → bit (mask_of qs) q ≡ elem q qs
unfolding mask_of elem
mask_bit [] q = zero_bit q
mask_bit (p ∷ qs) q = or_bit (2 ^ p) (mask_of qs) q ∙ (λ i. pow_bit p q i || mask_bit qs q i)

both : (s t : Bool) → (s ≡ true → t ≡ false) → s && t ≡ false
both true t h = h refl
both false t h = refl

one : (s t : Bool) → s && t ≡ false → s ≡ true → t ≡ false
one true t h e = h
one false t h e = clash e refl

not_is : (t : Bool) → t ≡ false → not t ≡ true
not_is true h = sym h
not_is false h = refl

is_not : (t : Bool) → not t ≡ true → t ≡ false
is_not true h = sym h
is_not false h = refl

elem_own : (q : ℕ) (qs : List ℕ) → elem q (q ∷ qs) ≡ true
unfolding elem
elem_own q qs = rw (eq-eqb q q refl)

-- no member of qs is one of ps
all_apart : (ps qs : List ℕ) → ((q : ℕ) → elem q qs ≡ true → elem q ps ≡ false) → all (λ q. not (elem q ps)) qs ≡ true
unfolding all elem
all_apart ps [] h = refl
all_apart ps (q ∷ qs) h =
    and_both (not (elem q ps)) (all (λ q. not (elem q ps)) qs) (not_is (elem q ps) (h q (elem_own q qs))) (all_apart ps qs (λ k e. h k (later k e)))
  where
    later : (k : ℕ) → elem k qs ≡ true → eqb k q || elem k qs ≡ true
    later k e = or_right (eqb k q) (elem k qs) e

apart_all : (ps qs : List ℕ) → all (λ q. not (elem q ps)) qs ≡ true → (q : ℕ) → elem q qs ≡ true → elem q ps ≡ false
unfolding all elem
apart_all ps [] h q e = clash e refl
apart_all ps (p ∷ qs) h q e = by (eqb q p) refl e (λ m. apart_all ps qs (and_right (not (elem p ps)) (all (λ q. not (elem q ps)) qs) h) q m)
  where
    by : (t : Bool) → eqb q p ≡ t → t || elem q qs ≡ true → (elem q qs ≡ true → elem q ps ≡ false) → elem q ps ≡ false
    by true f m u = ap (λ (k : ℕ). elem k ps) (eqb-true q p f) ∙ is_not (elem p ps) (and_left (not (elem p ps)) (all (λ q. not (elem q ps)) qs) h)
    by false f m u = u m

-- two masks share no bit exactly where the lists share no qubit
pub mask_apart : (ps qs : List ℕ) → eqb (bit_and (mask_of ps) (mask_of qs)) 0 ≡ all (λ q. not (elem q qs)) ps
mask_apart ps qs = iff _ _
    (λ e. all_apart qs ps (λ q m. one (elem q ps) (elem q qs) (common q ∙ ap (λ (z : ℕ). bit z q) (eqb-true (bit_and (mask_of ps) (mask_of qs)) 0 e) ∙ zero_bit q) m))
    (λ e. eq-eqb (bit_and (mask_of ps) (mask_of qs)) 0 (ext_bit (bit_and (mask_of ps) (mask_of qs)) 0 (λ k. sym (common k) ∙ both (elem k ps) (elem k qs) (apart_all qs ps e k) ∙ sym (zero_bit k))))
  where
    common : (q : ℕ) → elem q ps && elem q qs ≡ bit (bit_and (mask_of ps) (mask_of qs)) q
    common q = (λ i. sym (mask_bit ps q) i && sym (mask_bit qs q) i) ∙ sym (and_bit (mask_of ps) (mask_of qs) q)

-- ---- the supported set

-- bit i is 1 exactly where i is one of the eleven kinds of tables
abbrev agree : ℕ → Bool
agree i = told_alike (bit supported i) (of_tables (kind_at i))

tested : all agree (range 0 27) ≡ true
unfolding all range bit of_tables kind_at
tested = refl

pub supported_kinds : (i : ℕ) → member supported i ≡ of_tables (kind_at i)
unfolding of_tables
supported_kinds i = by (dec_lt i 27)
  where
    by : Dec (i < 27) → member supported i ≡ of_tables (kind_at i)
    by (yes l) = alike (bit supported i) (of_tables (kind_at i)) (all_range agree 27 0 tested i (omega arith) (omega arith))
    by (no l) = high_bit supported 12 i (lit< tt) (omega arith) ∙ sym (ap of_tables (kind_past i (omega arith)))
