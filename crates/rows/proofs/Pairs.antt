-- Pairs of rows: one step of an exchange of places, what the whole does to rows and columns, and the two rows that
-- differ in one bit. Assumes nothing.
use mathlib.Core.Path.{◌≡◌, refl, sym, ap, ◌∙◌, subst}
use mathlib.Core.Bool.{Bool, true, false, not}
use mathlib.Core.List.{List}
use Prim.Native.Nat.{ℕ, ◌+◌, ◌*◌, ◌-◌, ◌^◌, ◌%◌, ◌≤◌, ◌<◌, min, max}
use native.Mathlib.Omega.{arith}
use native.Mathlib.Nat.{div-eq_of_lt}
use native.Mathlib.Decide.{dec_lt}
use borrow.Author.Count.{below_more}
use borrow.Author.Tests.{eq-eqb, ne_eqb, eqb-true, eqb-false}
use lib.Bits.{bit_and, bit_or, or_disjoint, or_lt, and_le_l}
use lib.IntN.{ℤ, pos}
use lib.ListN.{length, set, length-set}
use lib.Pow.{pow-lt, pow_pos}
use lib.Seq.{get_or-set_same, get_or-set_other}
use Rattle.ints.specs.Bits.{digit, bit}
use Rattle.ints.specs.Lists.{pick}
use Rattle.ints.proofs.Bits.{digit_lt, below, and_digit, or_digit}
use Rattle.ints.proofs.Bools.{clash, iff}
use Rattle.cyclotomic.proofs.Each.{each}
use Rattle.exact.proofs.Flips.{bit_own}
use Rattle.exact.specs.Places.{entry, read}
use Rattle.places.specs.Places.{Kept}
use Rattle.places.proofs.Placed.{row_le, row_before, row_inside, kept_refl}
use Rattle.cyclotomic.specs.Zomega.{Zω}
use Rattle.rows.specs.Rows.{has, low_row, source_row, exchange_rows}
use Rattle.rows.proofs.Sweeps.{Swept}
use Rattle.rows.specs.Work.{at, Exchanged, Worked}
use Rattle.rows.proofs.ByMask.{and_one, has_bit, has_digits, digits_has, flip_set}

-- ---- a loop that exchanges places

module _ (l : List ℤ) (p q : ℕ) where
  pub exchanged_none : Exchanged l l p q 0
  exchanged_none = record { long = refl; low = λ i b. absurd (omega arith); high = λ i b. absurd (omega arith); other = λ j a b. refl }

  -- the places at c are still as they were
  pub still_low : {l1 : List ℤ} (c len : ℕ) → Exchanged l l1 p q c → p + len ≤ q → c < len → at l1 (p + c) ≡ at l (p + c)
  still_low c len w s b = w.other (p + c) (λ i k e. omega arith) (λ i k e. omega arith)

  pub still_high : {l1 : List ℤ} (c len : ℕ) → Exchanged l l1 p q c → p + len ≤ q → c < len → at l1 (q + c) ≡ at l (q + c)
  still_high c len w s b = w.other (q + c) (λ i k e. omega arith) (λ i k e. omega arith)

  pub exchanged_more :
      {l1 l2 : List ℤ} {x y : ℤ} (c len : ℕ)
      → Exchanged l l1 p q c
      → p + len ≤ q
      → q + len ≤ length l
      → c < len
      → y ≡ at l (q + c)
      → x ≡ at l (p + c)
      → l2 ≡ set (set l1 (p + c) y) (q + c) x
      → Exchanged l l2 p q (c + 1)
  exchanged_more {l1} {l2} {x} {y} c len w s n b ey ex e =
      record {
        long = ap length e ∙ simp length-set w.long;
        low = below_more _ c (λ i k. rw e (keep (p + i) (λ t. omega arith) (λ t. omega arith) ∙ w.low i k))
            (rw e (get_or-set_other (set l1 (p + c) y) (q + c) (p + c) x (pos 0) (λ t. omega arith) ∙ get_or-set_same l1 (p + c) y (pos 0) (omega (arith, w.long)) ∙ ey));
        high = below_more _ c (λ i k. rw e (keep (q + i) (λ t. omega arith) (λ t. omega arith) ∙ w.high i k))
            (rw e (get_or-set_same (set l1 (p + c) y) (q + c) x (pos 0) (simp length-set (omega (arith, w.long))) ∙ ex));
        other = λ j a o. rw e (keep j (a c (omega arith)) (o c (omega arith)) ∙ w.other j (λ i k. a i (omega arith)) (λ i k. o i (omega arith)));
      }
    where
      keep : (j : ℕ) → (j ≡ p + c → ⊥) → (j ≡ q + c → ⊥) → at (set (set l1 (p + c) y) (q + c) x) j ≡ at l1 j
      keep j a o = get_or-set_other (set l1 (p + c) y) (q + c) j x (pos 0) o ∙ get_or-set_other l1 (p + c) j y (pos 0) a

pub exchanged_to : {l l' : List ℤ} {p q c d : ℕ} → Exchanged l l' p q c → c ≤ d → d ≤ c → Exchanged l l' p q d
exchanged_to {c = c} {d = d} w a b = let e : c ≡ d = omega arith in rw e at w

-- ---- rows as places

-- places of two rows differ
apart : (d s r c t k : ℕ) → c < d → t < 4 → k < 4 * d → (s ≡ r → ⊥) → 4 * (s * d + c) + t ≡ 4 * (r * d) + k → ⊥
apart d s r c t k hc ht hk ne e = by (dec_lt s r) (dec_lt r s)
  where
    by : Dec (s < r) → Dec (r < s) → ⊥
    by (yes h) b = omega (arith, row_before d s r h)
    by (no h) (yes g) = omega (arith, row_before d r s g)
    by (no h) (no g) = ne (omega arith)

module _ (n : ℕ) {l l' : List ℤ} (r q : ℕ) (w : Exchanged l l' (4 * (r * 2 ^ n)) (4 * (q * 2 ^ n)) (4 * 2 ^ n)) where
  place_low : (t i j : ℕ) → t < 4 * 2 ^ n → i ≡ 4 * (r * 2 ^ n) + t → j ≡ 4 * (q * 2 ^ n) + t → at l' i ≡ at l j
  place_low t i j b e f = rw (e, f) (w.low t b)

  place_high : (t i j : ℕ) → t < 4 * 2 ^ n → i ≡ 4 * (r * 2 ^ n) + t → j ≡ 4 * (q * 2 ^ n) + t → at l' j ≡ at l i
  place_high t i j b e f = rw (e, f) (w.high t b)

  pub row_low : (c : ℕ) → c < 2 ^ n → read n l' r c ≡ read n l q c
  unfolding entry
  row_low c b =
      each (place_low (4 * c) _ _ (omega arith) (omega arith) (omega arith)) (place_low (4 * c + 1) _ _ (omega arith) (omega arith) (omega arith))
      (place_low (4 * c + 2) _ _ (omega arith) (omega arith) (omega arith)) (place_low (4 * c + 3) _ _ (omega arith) (omega arith) (omega arith))

  pub row_high : (c : ℕ) → c < 2 ^ n → read n l' q c ≡ read n l r c
  unfolding entry
  row_high c b =
      each (place_high (4 * c) _ _ (omega arith) (omega arith) (omega arith)) (place_high (4 * c + 1) _ _ (omega arith) (omega arith) (omega arith))
      (place_high (4 * c + 2) _ _ (omega arith) (omega arith) (omega arith)) (place_high (4 * c + 3) _ _ (omega arith) (omega arith) (omega arith))

  pub row_other : (s c : ℕ) → c < 2 ^ n → (s ≡ r → ⊥) → (s ≡ q → ⊥) → read n l' s c ≡ read n l s c
  unfolding entry
  row_other s c b nr nq =
      each (same 0 (4 * (s * 2 ^ n + c)) (omega arith) (omega arith)) (same 1 _ (omega arith) refl) (same 2 _ (omega arith) refl) (same 3 _ (omega arith) refl)
    where
      same : (t i : ℕ) → t < 4 → i ≡ 4 * (s * 2 ^ n + c) + t → at l' i ≡ at l i
      same t i ht e =
          w.other i (λ k h f. apart (2 ^ n) s r c t k b ht h nr (sym e ∙ f)) (λ k h f. apart (2 ^ n) s q c t k b ht h nq (sym e ∙ f))

  pub row_kept : r < 2 ^ n → q < 2 ^ n → Kept n l l'
  row_kept hr hq = record {
    past = λ j h. w.other j (λ i b e. omega (arith, row_inside n r hr)) (λ i b e. omega (arith, row_inside n q hq));
  }

-- ---- a row without the bit is the lower row of its pair, and its partner has the bit

by_bit : {P : Type 0} (s t : ℕ) → (bit_and s (2 ^ t) ≡ 2 ^ t → P) → (bit_and s (2 ^ t) ≡ 0 → P) → P
by_bit {P} s t f g =
    below (λ d. bit_and s (2 ^ t) ≡ d * 2 ^ t → P) (λ e. g (omega (arith, e))) (λ e. f (omega (arith, e))) (digit s t) (digit_lt s t) (and_one s t)

pub without : (r t : ℕ) → (bit_and r (2 ^ t) ≡ 2 ^ t → ⊥) → bit_and r (2 ^ t) ≡ 0
without r t h = by_bit r t (λ e. absurd (h e)) (λ e. e)

-- r | 2^t is above r, and within the width
pub partner_is : (r t : ℕ) → bit_and r (2 ^ t) ≡ 0 → bit_or r (2 ^ t) ≡ r + 2 ^ t
partner_is r t h = or_disjoint r (2 ^ t) h

partner_lt : (n t r : ℕ) → t < n → r < 2 ^ n → bit_or r (2 ^ t) < 2 ^ n
partner_lt n t r h b = or_lt n r (2 ^ t) b (pow-lt {i = t} {j = n} h)

pub low_own : (r t : ℕ) → bit_and r (2 ^ t) ≡ 0 → low_row (2 ^ t) r ≡ r
low_own r t h = omega (arith, h)

-- the partner has the bit
pub partner_has : (r b : ℕ) → bit_and (bit_or r b) b ≡ b
partner_has r b = has_digits (bit_or r b) b (λ k. omega (arith, or_digit r b k))

pub low_partner : (r t : ℕ) → bit_and r (2 ^ t) ≡ 0 → low_row (2 ^ t) (bit_or r (2 ^ t)) ≡ r
low_partner r t h = omega (arith, partner_is r t h, partner_has r (2 ^ t))

-- both rows of a pair lie within the places, the lower one first
pub pair_fits : (n t r d b : ℕ) → n ≤ 5 → t < n → r < 2 ^ n → d ≡ 2 ^ n → b ≡ 2 ^ t → (bit_and r b ≡ b → ⊥) → (r * d + d ≤ bit_or r b * d) × (bit_or r b * d + d ≤ 1024)
pair_fits n t r d b hn ht hr ed eb h =
    rw (ed, eb) (
      row_before (2 ^ n) r (bit_or r (2 ^ t)) (omega (arith, partner_is r t (without r t (rw eb at h)), pow_pos t)),
      row_le n (bit_or r (2 ^ t)) hn (partner_lt n t r ht hr),
    )

-- taking the bit away leaves none of it
cleared : (s t : ℕ) → bit_and s (2 ^ t) ≡ 2 ^ t → bit_and (s - 2 ^ t) (2 ^ t) ≡ 0
cleared s t h =
    let b : bit s t ≡ true = sym (has_bit s t) ∙ eq-eqb _ _ h in
    without (s - 2 ^ t) t
    (λ e. clash (sym (has_bit (s - 2 ^ t) t) ∙ eq-eqb _ _ e) (ap (λ (x : ℕ). bit x t) (sym (flip_set t s b)) ∙ bit_own t s ∙ ap not b))

-- the rows with lower row r: r and its partner
pub by_low : {P : Type 0} (s t r : ℕ) → low_row (2 ^ t) s ≡ r → (bit_and r (2 ^ t) ≡ 0 → s ≡ r → P) → (bit_and r (2 ^ t) ≡ 0 → s ≡ bit_or r (2 ^ t) → P) → P
by_low {P} s t r e f g =
    by_bit s t
    (λ h. let q : r ≡ s - 2 ^ t = omega (arith, e, h) in
    let z : bit_and r (2 ^ t) ≡ 0 = rw q (cleared s t h) in
    g z (omega (arith, partner_is r t z, and_le_l s (2 ^ t))))
    (λ h. let q : s ≡ r = omega (arith, e, h) in f (rw q at h) q)

-- a row and its partner have the same bits of a mask that lacks the bit
or_keeps : (r b m : ℕ) → bit_and r m ≡ m → bit_and (bit_or r b) m ≡ m
or_keeps r b m h = has_digits (bit_or r b) m (λ k. omega (arith, digits_has r m h k, or_digit r b k))

or_had : (r b m : ℕ) → bit_and m b ≡ 0 → bit_and (bit_or r b) m ≡ m → bit_and r m ≡ m
or_had r b m z h =
    has_digits r m (λ k. go (digit r k) (digit b k) (digit m k) (digit_lt m k) (none k) (subst (λ (x : ℕ). digit m k ≤ x) (or_digit r b k) (digits_has (bit_or r b) m h k)))
  where
    go : (x y w : ℕ) → w < 2 → min w y ≡ 0 → w ≤ max x y → w ≤ x
    go x y w hw p q = omega arith

    none : (k : ℕ) → min (digit m k) (digit b k) ≡ 0
    none k = sym (and_digit m b k) ∙ ap (λ (x : ℕ). digit x k) z ∙ ap (λ (x : ℕ). x % 2) (div-eq_of_lt (pow_pos k))

pub same_control : (r b m : ℕ) → bit_and m b ≡ 0 → has (bit_or r b) m ≡ has r m
same_control r b m z = iff _ _ (λ h. eq-eqb _ _ (or_had r b m z (eqb-true _ _ h))) (λ h. eq-eqb _ _ (or_keeps r b m (eqb-true _ _ h)))

-- ---- the row that comes to a row

source_off : (control b s : ℕ) → (bit_and s control ≡ control → ⊥) → source_row control b s ≡ s
unfolding source_row
source_off control b s h = rw (ne_eqb _ _ h)

source_high : (control b s : ℕ) → bit_and s control ≡ control → bit_and s b ≡ b → source_row control b s ≡ s - b
unfolding source_row
source_high control b s h q = rw (eq-eqb _ _ h, eq-eqb _ _ q)

source_low : (control b s : ℕ) → bit_and s control ≡ control → (bit_and s b ≡ b → ⊥) → source_row control b s ≡ bit_or s b
unfolding source_row
source_low control b s h q = rw (eq-eqb _ _ h, ne_eqb _ _ q)

by_source : (P : ℕ → Type 0) (control t s : ℕ) → P s → (bit_and s (2 ^ t) ≡ 2 ^ t → P (s - 2 ^ t)) → (bit_and s (2 ^ t) ≡ 0 → P (bit_or s (2 ^ t))) → P (source_row control (2 ^ t) s)
unfolding source_row
by_source P control t s own high low = by (has s control) (has s (2 ^ t)) refl
  where
    by : (u v : Bool) → has s (2 ^ t) ≡ v → P (pick u (pick v (s - 2 ^ t) (bit_or s (2 ^ t))) s)
    by false v e = own
    by true true e = high (eqb-true _ _ e)
    by true false e = low (without s t (eqb-false _ _ e))

-- it is of the same pair, and of the same width
pub source_pair : (control t s : ℕ) → low_row (2 ^ t) (source_row control (2 ^ t) s) ≡ low_row (2 ^ t) s
source_pair control t s =
    by_source (λ q. low_row (2 ^ t) q ≡ low_row (2 ^ t) s) control t s refl
    (λ h. low_own (s - 2 ^ t) t (cleared s t h) ∙ ap (λ (x : ℕ). s - x) (sym h))
    (λ h. low_partner s t h ∙ sym (low_own s t h))

pub source_lt : (n control t s : ℕ) → t < n → s < 2 ^ n → source_row control (2 ^ t) s < 2 ^ n
source_lt n control t s h b = by_source (λ q. q < 2 ^ n) control t s b (λ e. omega arith) (λ e. partner_lt n t s h b)

-- ---- one pair's exchange

module _ (n control t r : ℕ) {l : List ℤ} where
  -- nothing is to do where the row lacks a bit of control
  pub pair_off : bit_and control (2 ^ t) ≡ 0 → (bit_and r control ≡ control → ⊥) → Worked n (low_row (2 ^ t)) r (exchange_rows control (2 ^ t) (read n l)) l l
  pair_off z h =
      record {
        long = refl;
        worked = λ s c hs hc e. ap (λ (q : ℕ). read n l q c) (sym (source_off control (2 ^ t) s (by_low s t r e (λ f q. rw q h) (λ f q. rw q (λ k. h (or_had r (2 ^ t) control z k))))));
        other = λ s c hs hc ne. refl;
        kept = kept_refl n l;
      }

  -- nor where it has the bit: it is no pair's lower row
  pub pair_none : bit_and r (2 ^ t) ≡ 2 ^ t → Worked n (low_row (2 ^ t)) r (exchange_rows control (2 ^ t) (read n l)) l l
  pair_none h =
      record {
        long = refl;
        worked = λ s c hs hc e. by_low s t r e (λ f q. absurd (omega (arith, f, h, pow_pos t))) (λ f q. absurd (omega (arith, f, h, pow_pos t)));
        other = λ s c hs hc ne. refl;
        kept = kept_refl n l;
      }

  pub pair_exchanged :
      {l' : List ℤ}
      → t < n
      → r < 2 ^ n
      → bit_and r control ≡ control
      → (bit_and r (2 ^ t) ≡ 2 ^ t → ⊥)
      → Exchanged l l' (4 * (r * 2 ^ n)) (4 * (bit_or r (2 ^ t) * 2 ^ n)) (4 * 2 ^ n)
      → Worked n (low_row (2 ^ t)) r (exchange_rows control (2 ^ t) (read n l)) l l'
  pair_exchanged {l'} ht hr h g w =
      record {
        long = w.long;
        worked = λ s c hs hc e. by_low s t r e
            (λ f q. rw q (row_low n r (bit_or r (2 ^ t)) w c hc ∙ ap (λ (x : ℕ). read n l x c) (sym low_source)))
            (λ f q. rw q (row_high n r (bit_or r (2 ^ t)) w c hc ∙ ap (λ (x : ℕ). read n l x c) (sym high_source)));
        other = λ s c hs hc ne. row_other n r (bit_or r (2 ^ t)) w s c hc (λ q. ne (rw q (low_own r t clear))) (λ q. ne (rw q (low_partner r t clear)));
        kept = row_kept n r (bit_or r (2 ^ t)) w hr (partner_lt n t r ht hr);
      }
    where
      clear : bit_and r (2 ^ t) ≡ 0
      clear = without r t g

      low_source : source_row control (2 ^ t) r ≡ bit_or r (2 ^ t)
      low_source = source_low control (2 ^ t) r h g

      high_source : source_row control (2 ^ t) (bit_or r (2 ^ t)) ≡ r
      high_source = source_high control (2 ^ t) (bit_or r (2 ^ t)) (or_keeps r (2 ^ t) control h) (partner_has r (2 ^ t)) ∙ omega (arith, partner_is r t clear)

-- rows of the pair at r have not been worked yet
pub pair_same : (n control t r : ℕ) {l₀ : List ℤ} {y : ℕ → ℕ → Zω} {l : List ℤ} → t < n → Swept n (low_row (2 ^ t)) l₀ y l r
    → (s c : ℕ) → s < 2 ^ n → c < 2 ^ n → low_row (2 ^ t) s ≡ r → exchange_rows control (2 ^ t) (read n l) s c ≡ exchange_rows control (2 ^ t) (read n l₀) s c
pair_same n control t r h w s c hs hc e = w.rest (source_row control (2 ^ t) s) c (source_lt n control t s h hs) hc (omega (arith, source_pair control t s, e))
