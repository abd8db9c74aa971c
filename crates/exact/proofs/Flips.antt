-- The row that differs in one bit: `flip` undoes itself, flips commute, and what each does to the bits. The row that an
-- exchange takes. Assumes nothing.
use mathlib.Core.Path.{◌≡◌, refl, sym, ap, ◌∙◌}
use mathlib.Core.Bool.{Bool, true, false, not, ◌&&◌}
use mathlib.Core.List.{List, [], ◌∷◌}
use Prim.Native.Nat.{ℕ, ◌^◌, ◌/◌, ◌%◌, ◌<◌}
use lib.Dec.{eqb}
use lib.Bits.{bit_xor, differ, xor_shr, xor_mod, xor_lt}
use lib.Pow.{pow-lt}
use Rattle.ints.specs.Bits.{digit, bit}
use Rattle.ints.specs.Lists.{pick, all}
use Rattle.ints.proofs.Bools.{clash}
use Rattle.ints.proofs.Bits.{digit_lt, below, ext, digit_own, digit_other}
use Rattle.exact.specs.Rows.{flip, ones}
use Rattle.exact.proofs.Words.{Lacks}
use Rattle.exact.proofs.Values.{pick_ind}

digit_xor : (a b k : ℕ) → digit (bit_xor a b) k ≡ differ (digit a k) (digit b k)
digit_xor a b k =
    ap (λ (x : ℕ). x % 2) (xor_shr a b k) ∙ xor_mod (a / 2 ^ k) (b / 2 ^ k) 1
    ∙ below (λ x. bit_xor x (digit b k) ≡ differ x (digit b k))
    (below (λ y. bit_xor 0 y ≡ differ 0 y) refl refl (digit b k) (digit_lt b k))
    (below (λ y. bit_xor 1 y ≡ differ 1 y) refl refl (digit b k) (digit_lt b k)) (digit a k) (digit_lt a k)

twice : (x y : ℕ) → x < 2 → y < 2 → differ (differ x y) y ≡ x
twice x y p q = below (λ x. differ (differ x y) y ≡ x) (below (λ y. differ (differ 0 y) y ≡ 0) refl refl y q) (below (λ y. differ (differ 1 y) y ≡ 1) refl refl y q) x p

differ_swap : (x y z : ℕ) → x < 2 → y < 2 → z < 2 → differ (differ x y) z ≡ differ (differ x z) y
differ_swap x y z p q s =
    below (λ x. differ (differ x y) z ≡ differ (differ x z) y)
    (below (λ y. differ (differ 0 y) z ≡ differ (differ 0 z) y)
    (below (λ z. differ (differ 0 0) z ≡ differ (differ 0 z) 0) refl refl z s)
    (below (λ z. differ (differ 0 1) z ≡ differ (differ 0 z) 1) refl refl z s) y q)
    (below (λ y. differ (differ 1 y) z ≡ differ (differ 1 z) y)
    (below (λ z. differ (differ 1 0) z ≡ differ (differ 1 z) 0) refl refl z s)
    (below (λ z. differ (differ 1 1) z ≡ differ (differ 1 z) 1) refl refl z s) y q) x p

pub flip_flip : (k r : ℕ) → flip k (flip k r) ≡ r
unfolding flip
flip_flip k r =
    ext _ _ (λ j. digit_xor (bit_xor r (2 ^ k)) (2 ^ k) j ∙ ap (λ (x : ℕ). differ x (digit (2 ^ k) j)) (digit_xor r (2 ^ k) j)
    ∙ twice (digit r j) (digit (2 ^ k) j) (digit_lt r j) (digit_lt (2 ^ k) j))

pub flip_comm : (j k r : ℕ) → flip j (flip k r) ≡ flip k (flip j r)
unfolding flip
flip_comm j k r =
    ext _ _ (λ i. digit_xor (bit_xor r (2 ^ k)) (2 ^ j) i ∙ ap (λ (x : ℕ). differ x (digit (2 ^ j) i)) (digit_xor r (2 ^ k) i)
    ∙ differ_swap (digit r i) (digit (2 ^ k) i) (digit (2 ^ j) i) (digit_lt r i) (digit_lt (2 ^ k) i) (digit_lt (2 ^ j) i)
    ∙ ap (λ (x : ℕ). differ x (digit (2 ^ k) i)) (sym (digit_xor r (2 ^ j) i)) ∙ sym (digit_xor (bit_xor r (2 ^ j)) (2 ^ k) i))

pub bit_own : (k r : ℕ) → bit (flip k r) k ≡ not (bit r k)
unfolding bit flip
bit_own k r =
    ap (λ (x : ℕ). eqb x 1) (digit_xor r (2 ^ k) k ∙ ap (differ (digit r k)) (digit_own k))
    ∙ below (λ x. eqb (differ x 1) 1 ≡ not (eqb x 1)) refl refl (digit r k) (digit_lt r k)

pub bit_other : (j k r : ℕ) → (j ≡ k → ⊥) → bit (flip k r) j ≡ bit r j
unfolding bit flip
bit_other j k r h =
    ap (λ (x : ℕ). eqb x 1) (digit_xor r (2 ^ k) j ∙ ap (differ (digit r j)) (digit_other j k h)
    ∙ below (λ x. differ x 0 ≡ x) refl refl (digit r j) (digit_lt r j))

pub ones_other : (k : ℕ) (js : List ℕ) (r : ℕ) → Lacks k js → ones js (flip k r) ≡ ones js r
unfolding all
ones_other k [] r h = refl
ones_other k (j ∷ js) r h = λ i. bit_other j k r h.0 i && ones_other k js r h.1 i

-- a row and its partner differ in the bit, and so they differ
pub bit_differs : (k r : ℕ) → bit r k ≡ bit (flip k r) k → ⊥
bit_differs k r e = by (bit r k) (e ∙ bit_own k r)
  where
    by : (b : Bool) → b ≡ not b → ⊥
    by true h = clash refl h
    by false h = clash h refl

pub flip_differs : (k r : ℕ) → r ≡ flip k r → ⊥
flip_differs k r e = bit_differs k r (ap (λ (s : ℕ). bit s k) e)

-- ---- rows below 2^n

pub flip_lt : (n k r : ℕ) → k < n → r < 2 ^ n → flip k r < 2 ^ n
unfolding flip
flip_lt n k r h g = xor_lt n r (2 ^ k) g (pow-lt {i = k} {j = n} h)

-- ---- the row that an exchange takes to row r

module _ (ks : List ℕ) (k : ℕ) where
  abbrev pub moved : ℕ → ℕ
  moved r = pick (ones ks r) (flip k r) r

  pub moved_back : Lacks k ks → (r : ℕ) → moved (moved r) ≡ r
  moved_back w r = go (ones ks r) refl
    where
      go : (b : Bool) → ones ks r ≡ b → moved (pick b (flip k r) r) ≡ r
      go true e = rw (ones_other k ks r w ∙ e) (flip_flip k r)
      go false e = rw e

  pub moved_lt : (n : ℕ) → k < n → (r : ℕ) → r < 2 ^ n → moved r < 2 ^ n
  moved_lt n h r p = pick_ind (λ (s : ℕ). s < 2 ^ n) (ones ks r) (λ e. flip_lt n k r h p) (λ e. p)

  pub moved_ones : Lacks k ks → (r : ℕ) → ones ks (moved r) ≡ ones ks r
  moved_ones w r = pick_ind (λ (s : ℕ). ones ks s ≡ ones ks r) (ones ks r) (λ e. ones_other k ks r w) (λ e. refl)

  pub moved_on : (r : ℕ) → ones ks r ≡ true → moved r ≡ flip k r
  moved_on r e = rw e

  pub moved_off : (r : ℕ) → ones ks r ≡ false → moved r ≡ r
  moved_off r e = rw e
