-- Kinds by their numbers. Assumes nothing.
use mathlib.Core.Path.{◌≡◌, refl, sym, ap, ◌∙◌}
use mathlib.Core.Bool.{Bool, true, false, not, ◌&&◌, ◌||◌}
use mathlib.Core.List.{List, [], ◌∷◌, map}
use Prim.Native.Nat.{ℕ, zero, suc, ◌≤◌, ◌<◌}
use native.Mathlib.Omega.{arith}
use borrow.Author.Tests.{eqb-true, eqb-false, eq-eqb, ne_eqb, not-true, le-ltb, leb-true}
use native.Mathlib.Decide.{dec_lt}
use Rattle.ints.specs.Lists.{all, range}
use Rattle.ints.proofs.Bools.{clash, all_range, or-false, both_true}
use lib.Dec.{eqb, ltb, leb, lit≤}
use lib.ListN.{length, get_or, take, get_or-eq_default}
use Rattle.kinds.specs.Kinds.{Kind, kinds, kind_at, number, arity, sorted, is_kind, of_tables}
use Rattle.kinds.specs.Kinds.{H, X, Z, S, Sdg, T, Tdg, Cx, Cz, Ccx, Ccz, Y, Sx, Swap, Cy, Ch, Cswap, Other}

-- past the table there are no kinds
pub kind_past : (k : ℕ) → 27 ≤ k → kind_at k ≡ Other
unfolding kind_at
kind_past k h = get_or-eq_default kinds Other h

-- what is none of the seventeen has no operand
kindless : (k : Kind) → is_kind k ≡ false → k ≡ Other
unfolding is_kind
kindless H h = clash refl h
kindless X h = clash refl h
kindless Z h = clash refl h
kindless S h = clash refl h
kindless Sdg h = clash refl h
kindless T h = clash refl h
kindless Tdg h = clash refl h
kindless Cx h = clash refl h
kindless Cz h = clash refl h
kindless Ccx h = clash refl h
kindless Ccz h = clash refl h
kindless Y h = clash refl h
kindless Sx h = clash refl h
kindless Swap h = clash refl h
kindless Cy h = clash refl h
kindless Ch h = clash refl h
kindless Cswap h = clash refl h
kindless Other h = refl

-- a number is that of one of the seventeen, or it has no kind
abbrev numbered : ℕ → Bool
numbered k = eqb k 0 || (eqb k 1 || (eqb k 2 || (eqb k 3 || (eqb k 4 || (eqb k 5 || (eqb k 6 || (eqb k 8 || (eqb k 9 || (eqb k 10 || (eqb k 11 || (eqb k 15 || (eqb k 16 || (eqb k 19 || (eqb k 20 || (eqb k 25 || (eqb k 26 || not (is_kind (kind_at k))))))))))))))))))

pub no_kind : (k : ℕ) → (k ≡ 0 → ⊥) → (k ≡ 1 → ⊥) → (k ≡ 2 → ⊥) → (k ≡ 3 → ⊥) → (k ≡ 4 → ⊥) → (k ≡ 5 → ⊥) → (k ≡ 6 → ⊥) → (k ≡ 8 → ⊥) → (k ≡ 9 → ⊥) → (k ≡ 10 → ⊥) → (k ≡ 11 → ⊥) → (k ≡ 15 → ⊥) → (k ≡ 16 → ⊥) → (k ≡ 19 → ⊥) → (k ≡ 20 → ⊥) → (k ≡ 25 → ⊥) → (k ≡ 26 → ⊥) → kind_at k ≡ Other
unfolding kind_at is_kind all range
no_kind k p0 p1 p2 p3 p4 p5 p6 p8 p9 p10 p11 p15 p16 p19 p20 p25 p26 = by (dec_lt k 27)
  where
    by : Dec (k < 27) → kind_at k ≡ Other
    by (yes q) =
        kindless (kind_at k)
        (not-true (is_kind (kind_at k))
        (rw (ne_eqb k 0 p0, ne_eqb k 1 p1, ne_eqb k 2 p2, ne_eqb k 3 p3, ne_eqb k 4 p4, ne_eqb k 5 p5, ne_eqb k 6 p6, ne_eqb k 8 p8, ne_eqb k 9 p9, ne_eqb k 10 p10, ne_eqb k 11 p11, ne_eqb k 15 p15, ne_eqb k 16 p16, ne_eqb k 19 p19, ne_eqb k 20 p20, ne_eqb k 25 p25, ne_eqb k 26 p26) at (all_range numbered 27 0 refl k (omega arith) (omega arith))))
    by (no q) = kind_past k (omega arith)

-- a kind's number is its place
pub kind_number_lem : (k : Kind) → kind_at (number k) ≡ k
unfolding kind_at number
kind_number_lem H = refl
kind_number_lem X = refl
kind_number_lem Z = refl
kind_number_lem S = refl
kind_number_lem Sdg = refl
kind_number_lem T = refl
kind_number_lem Tdg = refl
kind_number_lem Cx = refl
kind_number_lem Cz = refl
kind_number_lem Ccx = refl
kind_number_lem Ccz = refl
kind_number_lem Y = refl
kind_number_lem Sx = refl
kind_number_lem Swap = refl
kind_number_lem Cy = refl
kind_number_lem Ch = refl
kind_number_lem Cswap = refl
kind_number_lem Other = refl

-- a test that every place of `kinds` passes is passed by every kind
pub every_kind_lem : (t : Kind → Bool) → all (λ i. t (kind_at i)) (range 0 27) ≡ true → (k : Kind) → t k ≡ true
unfolding kind_at
every_kind_lem t h k = by (dec_lt (number k) 27)
  where
    at_place : (i : ℕ) → i < 27 → t (kind_at i) ≡ true
    at_place i q = all_range (λ i. t (kind_at i)) 27 0 h i (omega arith) (omega arith)

    by : Dec (number k < 27) → t k ≡ true
    by (yes q) = sym (ap t (kind_number_lem k)) ∙ at_place (number k) q
    by (no q) = sym (ap t (kind_number_lem k)) ∙ ap t (kind_past (number k) (omega arith)) ∙ at_place 7 (omega arith)

-- two tests agree, as a test
abbrev pub told_alike : Bool → Bool → Bool
told_alike true b = b
told_alike false b = not b

pub alike : (a b : Bool) → told_alike a b ≡ true → a ≡ b
alike true true h = refl
alike true false h = sym h
alike false true h = h
alike false false h = refl

-- the kinds are those with an operand
pub kind_placed : (k : Kind) → not (eqb (arity k) 0) ≡ is_kind k
unfolding all range kind_at arity is_kind
kind_placed k = alike _ _ (every_kind_lem (λ k. told_alike (not (eqb (arity k) 0)) (is_kind k)) refl k)

pub kind_used : (k : Kind) → is_kind k ≡ true → 0 < arity k
kind_used k h = let e = eqb-false (arity k) 0 (not-true (eqb (arity k) 0) (kind_placed k ∙ h)) in omega arith

-- a kind has at most three operands, and wants at most three in rising order
pub arity_most : (k : Kind) → (arity k ≤ 3) × (sorted k ≤ 3)
unfolding all range kind_at arity sorted
arity_most k =
    let t = both_true (leb (arity k) 3) (leb (sorted k) 3) (every_kind_lem (λ k. leb (arity k) 3 && leb (sorted k) 3) refl k) in
    (leb-true (arity k) 3 t.0, leb-true (sorted k) 3 t.1)

-- a kind with one operand wants none in rising order
pub one_sorted : (k : Kind) → arity k ≡ 1 → sorted k ≡ 0
unfolding all range kind_at arity sorted
one_sorted k e =
    eqb-true (sorted k) 0 (rw (eq-eqb (arity k) 1 e) at (every_kind_lem (λ k. not (eqb (arity k) 1) || eqb (sorted k) 0) refl k))

-- the kinds of tables are those below 12
computed : all (λ k. told_alike (of_tables (kind_at k)) (ltb k 12 && is_kind (kind_at k))) (range 0 27) ≡ true
unfolding all range of_tables is_kind kind_at
computed = refl

pub table_kind : (k : ℕ) → of_tables (kind_at k) ≡ (ltb k 12 && is_kind (kind_at k))
unfolding of_tables is_kind
table_kind k = by (dec_lt k 27)
  where
    by : Dec (k < 27) → of_tables (kind_at k) ≡ (ltb k 12 && is_kind (kind_at k))
    by (yes l) = alike _ _ (all_range (λ k. told_alike (of_tables (kind_at k)) (ltb k 12 && is_kind (kind_at k))) 27 0 computed k (omega arith) (omega arith))
    by (no l) = rw (kind_past k (omega arith), le-ltb k 12 (omega arith))

-- a list that has f of each kind below 12, at one of them
pub in_table : (f : Kind → ℕ) (k : ℕ) → k < 12 → get_or (map f (take 12 kinds)) k 0 ≡ f (kind_at k)
unfolding kind_at
in_table f k h = from kinds 12 k h (lit≤ tt)
  where
    from : (l : List Kind) (m i : ℕ) → i < m → m ≤ length l → get_or (map f (take m l)) i 0 ≡ f (get_or l i Other)
    from [] m i p q = absurd (omega arith)
    from (x ∷ l) zero i p q = absurd (omega arith)
    from (x ∷ l) (suc m) zero p q = refl
    from (x ∷ l) (suc m) (suc i) p q = from l m i (omega arith) (omega arith)

-- what the kinds from 12 on have in common, computed over their places
pub from_twelve : (f : Kind → ℕ) (d : ℕ) → all (λ k. eqb (f (kind_at k)) d) (range 12 15) ≡ true → f Other ≡ d → (k : ℕ) → 12 ≤ k → f (kind_at k) ≡ d
from_twelve f d h o k p = by (dec_lt k 27)
  where
    by : Dec (k < 27) → f (kind_at k) ≡ d
    by (yes q) = eqb-true (f (kind_at k)) d (all_range (λ k. eqb (f (kind_at k)) d) 15 12 h k p (omega arith))
    by (no q) = ap f (kind_past k (omega arith)) ∙ o

-- at the arm of kind k
pub arm : {kind : ℕ} (k : ℕ) → kind ≡ k → arity (kind_at k) ≡ arity (kind_at kind)
arm k e = sym (ap (λ (k : ℕ). arity (kind_at k)) e)

-- a kind from 12 on that is none of the six has no operand
abbrev operandless : ℕ → Bool
operandless k = eqb (arity (kind_at k)) 0 || (eqb k 15 || (eqb k 16 || (eqb k 19 || (eqb k 20 || (eqb k 25 || eqb k 26)))))

pub no_operands : (k : ℕ) → 12 ≤ k → (k ≡ 15 → ⊥) → (k ≡ 16 → ⊥) → (k ≡ 19 → ⊥) → (k ≡ 20 → ⊥) → (k ≡ 25 → ⊥) → (k ≡ 26 → ⊥) → arity (kind_at k) ≡ 0
unfolding arity kind_at all range
no_operands k p a b c d e f = by (dec_lt k 27)
  where
    by : Dec (k < 27) → arity (kind_at k) ≡ 0
    by (yes q) =
        eqb-true (arity (kind_at k)) 0
        (sym (or-false (eqb (arity (kind_at k)) 0))
        ∙ rw (ne_eqb k 15 a, ne_eqb k 16 b, ne_eqb k 19 c, ne_eqb k 20 d, ne_eqb k 25 e, ne_eqb k 26 f) at (all_range operandless 15 12 refl k p (omega arith)))
    by (no q) = ap arity (kind_past k (omega arith))
