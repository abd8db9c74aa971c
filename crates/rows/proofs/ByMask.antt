-- The row operations by and, or and minus are the exact ones by bits: the test `r & mask == mask` says that all bits of
-- the mask are 1, and the partner of a row, r - 2^k or r | 2^k, is the row that differs in bit k. Assumes nothing.
use mathlib.Core.Path.{◌≡◌, refl, sym, ap, ◌∙◌, subst}
use mathlib.Core.Bool.{Bool, true, false, ◌&&◌}
use mathlib.Core.List.{List, [], ◌∷◌}
use Prim.Native.Nat.{ℕ, ◌+◌, ◌*◌, ◌-◌, ◌^◌, ◌≤◌, min}
use native.Mathlib.Omega.{arith}
use borrow.Author.Tests.{eq-eqb, ne_eqb, eqb-true, eqb-false}
use lib.Bits.{bit_and, bit_or, bit_xor, and_high, and_zero_r, or_disjoint, xor_add_and}
use lib.Dec.{eqb}
use lib.Pow.{pow_pos, pow-add}
use Rattle.ints.specs.Bits.{digit, bit}
use Rattle.ints.specs.Lists.{pick, all}
use Rattle.ints.proofs.Bits.{digit_lt, below, ext, and_digit, or_digit}
use Rattle.ints.proofs.Bools.{iff, and_both, and_left, and_right}
use Rattle.circuit.specs.Pairs.{mask_of}
use Rattle.cyclotomic.specs.Zomega.{Zω, addω, subω, sqrt2}
use Rattle.exact.specs.Rows.{flip, ones, phase, exchange, had, column}
use Rattle.rows.specs.Rows.{has, phase_rows, source_row, exchange_rows, h_rows}

-- ---- one bit

-- r & 2^k
pub and_one : (r k : ℕ) → bit_and r (2 ^ k) ≡ digit r k * 2 ^ k
and_one r k = subst (λ (m : ℕ). bit_and r m ≡ digit r k * 2 ^ k) one_bit (and_high r 1 k)
  where
    one_bit : 2 ^ (1 + k) - 2 ^ k ≡ 2 ^ k
    one_bit = omega (arith, pow-add 2 1 k)

pub has_bit : (r k : ℕ) → has r (2 ^ k) ≡ bit r k
unfolding bit
has_bit r k =
    rw (and_one r k)
    (below (λ d. eqb (d * 2 ^ k) (2 ^ k) ≡ eqb d 1)
    (ne_eqb (0 * 2 ^ k) (2 ^ k) (λ q. omega (arith, pow_pos k)))
    (eq-eqb (1 * 2 ^ k) (2 ^ k) (omega arith)) (digit r k) (digit_lt r k))

-- ---- a mask, digit by digit

pub has_digits : (r m : ℕ) → ((k : ℕ) → digit m k ≤ digit r k) → bit_and r m ≡ m
has_digits r m h = ext _ _ (λ k. and_digit r m k ∙ least (digit r k) (digit m k) (h k))
  where
    least : (x y : ℕ) → y ≤ x → min x y ≡ y
    least x y p = omega arith

pub digits_has : (r m : ℕ) → bit_and r m ≡ m → (k : ℕ) → digit m k ≤ digit r k
digits_has r m h k = least (digit r k) (digit m k) (sym (and_digit r m k) ∙ ap (λ (x : ℕ). digit x k) h)
  where
    least : (x y : ℕ) → min x y ≡ y → y ≤ x
    least x y p = omega arith

has_or : (r a b : ℕ) → has r (bit_or a b) ≡ (has r a && has r b)
has_or r a b = iff _ _ to from
  where
    to : has r (bit_or a b) ≡ true → has r a && has r b ≡ true
    to h =
        let e = digits_has r (bit_or a b) (eqb-true (bit_and r (bit_or a b)) (bit_or a b) h) in
        and_both _ _
        (eq-eqb (bit_and r a) a (has_digits r a (λ k. omega (arith, e k, or_digit a b k))))
        (eq-eqb (bit_and r b) b (has_digits r b (λ k. omega (arith, e k, or_digit a b k))))

    from : has r a && has r b ≡ true → has r (bit_or a b) ≡ true
    from h =
        let p = digits_has r a (eqb-true (bit_and r a) a (and_left (has r a) (has r b) h)) in
        let q = digits_has r b (eqb-true (bit_and r b) b (and_right (has r a) (has r b) h)) in
        eq-eqb (bit_and r (bit_or a b)) (bit_or a b) (has_digits r (bit_or a b) (λ k. omega (arith, p k, q k, or_digit a b k)))

pub has_mask : (ks : List ℕ) (r : ℕ) → has r (mask_of ks) ≡ ones ks r
unfolding mask_of all
has_mask [] r = rw (and_zero_r r)
has_mask (k ∷ ks) r = has_or r (2 ^ k) (mask_of ks) ∙ (λ i. has_bit r k i && has_mask ks r i)

-- ---- the partner of a row

flip_sum : (k r : ℕ) → flip k r + digit r k * 2 ^ k * 2 ≡ r + 2 ^ k
unfolding flip
flip_sum k r = ap (λ (x : ℕ). bit_xor r (2 ^ k) + x * 2) (sym (and_one r k)) ∙ xor_add_and r (2 ^ k)

pub flip_set : (k r : ℕ) → bit r k ≡ true → flip k r ≡ r - 2 ^ k
unfolding bit
flip_set k r h = let s : flip k r + 1 * 2 ^ k * 2 ≡ r + 2 ^ k = ap (λ (d : ℕ). flip k r + d * 2 ^ k * 2) (sym (eqb-true (digit r k) 1 h)) ∙ flip_sum k r in omega arith

digit_clear : (k r : ℕ) → bit r k ≡ false → digit r k ≡ 0
unfolding bit
digit_clear k r h = below (λ d. (d ≡ 1 → ⊥) → d ≡ 0) (λ u. refl) (λ u. absurd (u refl)) (digit r k) (digit_lt r k) (eqb-false (digit r k) 1 h)

pub flip_clear : (k r : ℕ) → bit r k ≡ false → flip k r ≡ bit_or r (2 ^ k)
flip_clear k r h =
    let z = digit_clear k r h in
    let s : flip k r + 0 * 2 ^ k * 2 ≡ r + 2 ^ k = ap (λ (d : ℕ). flip k r + d * 2 ^ k * 2) (sym z) ∙ flip_sum k r in
    let o : bit_or r (2 ^ k) ≡ r + 2 ^ k = or_disjoint r (2 ^ k) (and_one r k ∙ rw z (omega arith)) in
    omega arith

-- what is made of the partner, by the test of the bit
partner : {A : Type 0} (f g : ℕ → A) (k r : ℕ) → pick (has r (2 ^ k)) (f (r - 2 ^ k)) (g (bit_or r (2 ^ k))) ≡ pick (bit r k) (f (flip k r)) (g (flip k r))
partner f g k r = rw (has_bit r k) (by (bit r k) refl)
  where
    by : (b : Bool) → bit r k ≡ b → pick b (f (r - 2 ^ k)) (g (bit_or r (2 ^ k))) ≡ pick b (f (flip k r)) (g (flip k r))
    by true e = ap f (sym (flip_set k r e))
    by false e = ap g (sym (flip_clear k r e))

-- ---- the three row operations

pub phase_rows_lem : (ks : List ℕ) (p : ℕ) (x : ℕ → ℕ → Zω) (r c : ℕ) → phase_rows (mask_of ks) p x r c ≡ column (phase ks p) (λ s. x s c) r
unfolding phase_rows column
phase_rows_lem ks p x r c = rw (has_mask ks r)

pub exchange_rows_lem : (ks : List ℕ) (k : ℕ) (x : ℕ → ℕ → Zω) (r c : ℕ) → exchange_rows (mask_of ks) (2 ^ k) x r c ≡ column (exchange ks k) (λ s. x s c) r
unfolding source_row column
exchange_rows_lem ks k x r c = ap (λ (s : ℕ). x s c) (rw (has_mask ks r) (ap (λ (s : ℕ). pick (ones ks r) s r) (partner (λ s. s) (λ s. s) k r ∙ same (bit r k))))
  where
    same : (b : Bool) → pick b (flip k r) (flip k r) ≡ flip k r
    same true = refl
    same false = refl

pub h_rows_lem : (ks : List ℕ) (k : ℕ) (x : ℕ → ℕ → Zω) (r c : ℕ) → h_rows (mask_of ks) (2 ^ k) x r c ≡ column (had ks k) (λ s. x s c) r
unfolding h_rows column
h_rows_lem ks k x r c =
    rw (has_mask ks r) (ap (λ (z : Zω). pick (ones ks r) z (sqrt2 (x r c))) (partner (λ s. subω (x s c) (x r c)) (λ s. addω (x r c) (x s c)) k r))
