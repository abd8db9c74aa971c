-- H and Ch by rows: the test of a pair of rows, what comes of the pair, and the sweep over all pairs, each worked at
-- its lower row. Assumes nothing.
use mathlib.Core.Path.{◌≡◌, refl, sym, ap, ◌∙◌, subst}
use mathlib.Core.Bool.{Bool, true, false}
use mathlib.Core.List.{List}
use Prim.Native.Nat.{ℕ, zero, suc, ◌+◌, ◌*◌, ◌-◌, ◌^◌, ◌/◌, ◌%◌, ◌≤◌, ◌<◌, min, max}
use native.Mathlib.Omega.{arith}
use native.Mathlib.Nat.{div-add-mod', mod-lt}
use borrow.Author.Count.{below_more}
use borrow.Author.Tests.{eq-eqb, ne_eqb, eqb-true, eqb-false}
use lib.Bits.{bit_and, bit_or, and_zero_r, and_le_l, and_le_r, or_lt, or_add_and}
use lib.IntN.{ℤ, nat_abs}
use lib.ListN.{length}
use lib.Pow.{pow_pos, pow-lt, high}
use Rattle.ints.specs.Bits.{digit}
use Rattle.ints.specs.Lists.{pick}
use Rattle.ints.proofs.Bits.{digit_lt, ext, and_digit, or_digit}
use Rattle.ints.proofs.Bools.{clash}
use Rattle.cyclotomic.specs.Zomega.{Zω, subω, sqrt2, Small}
use Rattle.coefficients.specs.Coefficients.{limit}
use Rattle.cyclotomic.proofs.Sizes.{SizesSmall, sizes_sum, sizes_difference, both_sizes}
use Rattle.exact.proofs.Words.{AllSmall}
use Rattle.exact.specs.Places.{entry, read}
use Rattle.places.specs.Places.{places, Same, Kept}
use Rattle.rows.specs.Rows.{has, h_rows}
use Rattle.h_entries.specs.Sums.{low_of, high_of, Summed, SizesFit, SumsFit, Tells}
use Rattle.h_rows.specs.Work.{PairFits, PairSummed}
use Rattle.places.proofs.Placed.{row_inside, row_le, row_before, rows_apart, kept_refl, kept_trans, kept_same, kept_entries}
use Rattle.rows.specs.Work.{at}
use Rattle.rows.proofs.ByMask.{and_one}
use Rattle.rows.proofs.Pairs.{same_control}

-- ---- sizes of places, and sums and differences of entries: each follows from the other
pub sizes_sums : {l : List ℤ} {e f c : ℕ} → SizesFit l (4 * e) (4 * f) (4 * c) → SumsFit true l e f c
unfolding entry
sizes_sums {l} {e} {f} {c} w =
    record { sum_fits = λ k h. sizes_sum _ _ (four k h); difference_fits = λ k h. sizes_difference _ _ (four k h) }
  where
    one : (t i j : ℕ) → t < 4 * c → i ≡ 4 * e + t → j ≡ 4 * f + t → nat_abs (at l i) + nat_abs (at l j) ≤ limit
    one t i j b p q = rw (p, q) (w.fit t b)

    four : (k : ℕ) → k < c → SizesSmall (entry l (e + k)) (entry l (f + k))
    four k h = record {
      a_sizes = one (4 * k) _ _ (omega arith) (omega arith) (omega arith);
      b_sizes = one (4 * k + 1) _ _ (omega arith) (omega arith) (omega arith);
      c_sizes = one (4 * k + 2) _ _ (omega arith) (omega arith) (omega arith);
      d_sizes = one (4 * k + 3) _ _ (omega arith) (omega arith) (omega arith);
    }

pub sums_sizes : {l : List ℤ} {e f c : ℕ} → SumsFit true l e f c → SizesFit l (4 * e) (4 * f) (4 * c)
unfolding entry
sums_sizes {l} {e} {f} {c} w = record { fit = λ i h. by i (i / 4) (i % 4) (omega arith) (omega arith) (both i h) }
  where
    both : (i : ℕ) → i < 4 * c → SizesSmall (entry l (e + i / 4)) (entry l (f + i / 4))
    both i h = both_sizes _ _ (w.sum_fits (i / 4) (omega arith)) (w.difference_fits (i / 4) (omega arith))

    one : (i j k m : ℕ) → i ≡ 4 * e + k → j ≡ 4 * f + k → k ≡ m → nat_abs (at l i) + nat_abs (at l j) ≤ limit
        → nat_abs (at l (4 * e + m)) + nat_abs (at l (4 * f + m)) ≤ limit
    one i j k m p q r h = rw (sym r, sym p, sym q) h

    by : (i k j : ℕ) → i ≡ 4 * k + j → j < 4 → SizesSmall (entry l (e + k)) (entry l (f + k)) → nat_abs (at l (4 * e + i)) + nat_abs (at l (4 * f + i)) ≤ limit
    by i k zero p b s = one _ _ (4 * k) i (omega arith) (omega arith) (omega arith) s.a_sizes
    by i k (suc zero) p b s = one _ _ (4 * k + 1) i (omega arith) (omega arith) (omega arith) s.b_sizes
    by i k (suc (suc zero)) p b s = one _ _ (4 * k + 2) i (omega arith) (omega arith) (omega arith) s.c_sizes
    by i k (suc (suc (suc zero))) p b s = one _ _ (4 * k + 3) i (omega arith) (omega arith) (omega arith) s.d_sizes
    by i k (suc (suc (suc (suc j)))) p b s = absurd (omega arith)

-- ---- a row and the row that has a bit besides

-- the row with the bit comes later
pub or_above : (s b : ℕ) → has s b ≡ false → s < bit_or s b
or_above s b h = by (bit_and s b) (eqb-false _ _ h) (and_le_r s b) (or_add_and s b)
  where
    by : (x : ℕ) → (x ≡ b → ⊥) → x ≤ b → bit_or s b + x ≡ s + b → s < bit_or s b
    by x n k e = omega arith

pub has_or : (s b : ℕ) → has (bit_or s b) b ≡ true
has_or s b = eq-eqb _ _ (ext _ _ (λ k. and_digit (bit_or s b) b k ∙ rw (or_digit s b k) (by (digit s k) (digit b k))))
  where
    by : (x y : ℕ) → min (max x y) y ≡ y
    by x y = omega arith

-- rows r and s of d entries lie in the array, one before the other
abbrev pub Lie : ℕ → ℕ → ℕ → Type 0
Lie d r s = (r * d + d ≤ s * d) × (s * d + d ≤ 1024)

-- every row has the mask of no control
pub all_have : (r : ℕ) → has r 0 ≡ true
all_have r = eq-eqb (bit_and r 0) 0 (and_zero_r r)

pub pair_lies : {n r b d : ℕ} → n ≤ 5 → r < 2 ^ n → b < 2 ^ n → has r b ≡ false → d ≡ 2 ^ n → Lie d r (bit_or r b)
pair_lies {n} {r} {b} {d} hn hr hb h e =
    rw e (row_before (2 ^ n) r (bit_or r b) (or_above r b h), row_le n (bit_or r b) hn (or_lt n r b hr hb))

module _ (t : ℕ) where
  -- one bit is there, or it is not
  none : (s : ℕ) → has s (2 ^ t) ≡ false → bit_and s (2 ^ t) ≡ 0
  none s h = by (digit s t) (digit_lt s t) (and_one s t)
    where
      by : (d : ℕ) → d < 2 → bit_and s (2 ^ t) ≡ d * 2 ^ t → bit_and s (2 ^ t) ≡ 0
      by zero b e = omega arith
      by (suc zero) b e = absurd (eqb-false (bit_and s (2 ^ t)) (2 ^ t) h (omega arith))
      by (suc (suc d)) b e = absurd (omega arith)

  -- the row with the bit is 2^t later
  pub or_sum : (s : ℕ) → has s (2 ^ t) ≡ false → bit_or s (2 ^ t) ≡ s + 2 ^ t
  or_sum s h = omega (arith, or_add_and s (2 ^ t), none s h)

  -- a row with the bit is the partner of one that lacks it
  pub is_partner : (s : ℕ) → has s (2 ^ t) ≡ true → (has (s - 2 ^ t) (2 ^ t) ≡ false) × (bit_or (s - 2 ^ t) (2 ^ t) ≡ s)
  is_partner s h = (lacks, or_sum (s - 2 ^ t) lacks ∙ omega (arith, and_le_l s (2 ^ t), eqb-true (bit_and s (2 ^ t)) (2 ^ t) h))
    where
      odd : (d : ℕ) → d < 2 → bit_and s (2 ^ t) ≡ d * 2 ^ t → d ≡ 1
      odd zero b e = absurd (omega (arith, eqb-true (bit_and s (2 ^ t)) (2 ^ t) h, pow_pos t))
      odd (suc zero) b e = refl
      odd (suc (suc d)) b e = absurd (omega arith)

      even : (a r : ℕ) → r < 2 ^ t → s ≡ a * 2 ^ t + r → a % 2 ≡ 1 → digit (s - 2 ^ t) t ≡ 0
      even zero r b e o = absurd (omega arith)
      even (suc a) r b e o =
          let q : s - 2 ^ t ≡ a * 2 ^ t + r = omega arith in
          ap (λ (x : ℕ). x / 2 ^ t % 2) q ∙ ap (λ (x : ℕ). x % 2) (high a t b) ∙ omega arith

      lacks : has (s - 2 ^ t) (2 ^ t) ≡ false
      lacks =
          let z = even (s / 2 ^ t) (s % 2 ^ t) (mod-lt s (pow_pos t)) (sym (div-add-mod' s (2 ^ t))) (odd (digit s t) (digit_lt s t) (and_one s t)) in
          ne_eqb (bit_and (s - 2 ^ t) (2 ^ t)) (2 ^ t) (λ q. omega (arith, and_one (s - 2 ^ t) t, ap (λ (x : ℕ). x * 2 ^ t) z, q, pow_pos t))

-- what holds of each row that lacks the bit and of its partner holds of every row
pub by_pairs : (n t : ℕ) (P : ℕ → Type 0) → ((s : ℕ) → s < 2 ^ n → has s (2 ^ t) ≡ false → P s × P (bit_or s (2 ^ t))) → (s : ℕ) → s < 2 ^ n → P s
by_pairs n t P f s b = by (has s (2 ^ t)) refl
  where
    by : (q : Bool) → has s (2 ^ t) ≡ q → P s
    by true h = let p = is_partner t s h in subst P p.1 (f (s - 2 ^ t) (omega arith) p.0).1
    by false h = (f s b h).0

-- ---- what comes of a pair

module _ (control t : ℕ) (x : ℕ → ℕ → Zω) (s c : ℕ) (h : has s (2 ^ t) ≡ false) where
  h_low : h_rows control (2 ^ t) x s c ≡ low_of (has s control) (x s c) (x (bit_or s (2 ^ t)) c)
  unfolding h_rows
  h_low = rw h

  h_high : bit_and control (2 ^ t) ≡ 0 → h_rows control (2 ^ t) x (bit_or s (2 ^ t)) c ≡ high_of (has s control) (x s c) (x (bit_or s (2 ^ t)) c)
  unfolding h_rows
  h_high z =
      let e : bit_or s (2 ^ t) - 2 ^ t ≡ s = omega (arith, or_sum t s h) in
      rw (same_control s (2 ^ t) control z, has_or s (2 ^ t))
      (ap (λ (r : ℕ). pick (has s control) (subω (x r c) (x (bit_or s (2 ^ t)) c)) (sqrt2 (x (bit_or s (2 ^ t)) c))) e)

-- ---- the test of all pairs

-- the test of one pair tells whether it fits: by sizes where the rows are active, else by entries
module _ {n control b r d : ℕ} {l : List ℤ} {ok : Bool} (e : d ≡ 2 ^ n) (h : has r b ≡ false) where
  pub pair_tells : has r control ≡ true → Tells (SizesFit l (4 * (r * d)) (4 * (bit_or r b * d)) (4 * d)) ok → Tells (PairFits n control b l r) ok
  pair_tells a w = record {
    holds = λ q. record { pair = λ _. rw a (sizes_sums (rw e at (w.holds q))) };
    fails = λ q p. w.fails q (rw e (sums_sizes (rw a at (p.pair h))));
  }

  pub roots_tell : has r control ≡ false → Tells (SumsFit false l (r * d) (bit_or r b * d) d) ok → Tells (PairFits n control b l r) ok
  roots_tell a w = record {
    holds = λ q. record { pair = λ _. rw a (rw e at (w.holds q)) };
    fails = λ q p. w.fails q (rw e (rw a at (p.pair h)));
  }

-- the pairs of the rows below r fit
pub record FitsTo (n control bit : ℕ) (l : List ℤ) (r : ℕ) : Type 0 where
  pub below : (s : ℕ) → s < r → PairFits n control bit l s

module _ {n control bit : ℕ} {l : List ℤ} where
  pub fits_none : FitsTo n control bit l 0
  fits_none = record { below = λ s b. absurd (omega arith) }

  pub fits_more : {r : ℕ} → FitsTo n control bit l r → PairFits n control bit l r → FitsTo n control bit l (r + 1)
  fits_more {r} w p = record { below = below_more _ r w.below p }

module _ (control t : ℕ) (z : bit_and control (2 ^ t) ≡ 0) {n : ℕ} {l : List ℤ} {r : ℕ} where
  -- where every pair fits, the whole result does, and conversely
  pub fits_all : FitsTo n control (2 ^ t) l r → 2 ^ n ≤ r → AllSmall n (h_rows control (2 ^ t) (read n l))
  fits_all w g =
      record { small = λ s c hs hc. by_pairs n t (λ s. Small (h_rows control (2 ^ t) (read n l) s c)) (λ s b h. one s c b hc h) s hs }
    where
      one : (s c : ℕ) → s < 2 ^ n → c < 2 ^ n → has s (2 ^ t) ≡ false
          → Small (h_rows control (2 ^ t) (read n l) s c) × Small (h_rows control (2 ^ t) (read n l) (bit_or s (2 ^ t)) c)
      one s c hs hc h =
          let p = (w.below s (omega arith)).pair h in
          (subst Small (sym (h_low control t (read n l) s c h)) (p.sum_fits c hc), subst Small (sym (h_high control t (read n l) s c h z)) (p.difference_fits c hc))

  pub all_pair : AllSmall n (h_rows control (2 ^ t) (read n l)) → t < n → r < 2 ^ n → PairFits n control (2 ^ t) l r
  all_pair w ht hr = record {
    pair = λ h. record {
      sum_fits = λ c hc. subst Small (h_low control t (read n l) r c h) (w.small r c hr hc);
      difference_fits = λ c hc. subst Small (h_high control t (read n l) r c h z) (w.small (bit_or r (2 ^ t)) c (or_lt n r (2 ^ t) hr (pow-lt ht)) hc);
    };
  }

-- ---- the sweep

-- row s and its partner are what comes of them; they are as they were
pub record PairWorked (n control bit : ℕ) (l l' : List ℤ) (s : ℕ) : Type 0 where
  pub low : (c : ℕ) → c < 2 ^ n → read n l' s c ≡ low_of (has s control) (read n l s c) (read n l (bit_or s bit) c)
  pub high : (c : ℕ) → c < 2 ^ n → read n l' (bit_or s bit) c ≡ high_of (has s control) (read n l s c) (read n l (bit_or s bit) c)

pub record Still (n bit : ℕ) (l l' : List ℤ) (s : ℕ) : Type 0 where
  pub low : (c : ℕ) → c < 2 ^ n → read n l' s c ≡ read n l s c
  pub high : (c : ℕ) → c < 2 ^ n → read n l' (bit_or s bit) c ≡ read n l (bit_or s bit) c

-- the pairs whose lower row is below r are worked, the others are as they were, and so are the places past the matrix
pub record Halfway (n control bit : ℕ) (l l' : List ℤ) (r : ℕ) : Type 0 where
  pub long : length l' ≡ length l
  pub done : (s : ℕ) → s < r → has s bit ≡ false → PairWorked n control bit l l' s
  pub rest : (s : ℕ) → r ≤ s → has s bit ≡ false → Still n bit l l' s
  pub kept : Kept n l l'

pub half_start : (n control bit : ℕ) (l : List ℤ) → Halfway n control bit l l 0
half_start n control bit l =
    record { long = refl; done = λ s b. absurd (omega arith); rest = λ s b h. record { low = λ c hc. refl; high = λ c hc. refl }; kept = kept_refl n l }

module _ (control t : ℕ) {n : ℕ} {l l1 : List ℤ} {r : ℕ} (w : Halfway n control (2 ^ t) l l1 r) where
  -- the pair that comes next fits as it did at the start
  half_fits : PairFits n control (2 ^ t) l r → PairFits n control (2 ^ t) l1 r
  half_fits p = record { pair = λ h. by (p.pair h) (w.rest r (omega arith) h) }
    where
      by : SumsFit (has r control) l (r * 2 ^ n) (bit_or r (2 ^ t) * 2 ^ n) (2 ^ n) → Still n (2 ^ t) l l1 r → SumsFit (has r control) l1 (r * 2 ^ n) (bit_or r (2 ^ t) * 2 ^ n) (2 ^ n)
      by s k = record {
        sum_fits = λ c hc. rw (k.low c hc, k.high c hc) (s.sum_fits c hc);
        difference_fits = λ c hc. rw (k.low c hc, k.high c hc) (s.difference_fits c hc);
      }

  -- a pair other than that of row r is kept
  keep : {l2 : List ℤ} → has r (2 ^ t) ≡ false → Summed (has r control) l1 l2 (r * 2 ^ n) (bit_or r (2 ^ t) * 2 ^ n) (2 ^ n)
      → (s : ℕ) → (s ≡ r → ⊥) → has s (2 ^ t) ≡ false → Still n (2 ^ t) l1 l2 s
  keep {l2} hr p s ne hs =
      record {
        low = same s ne (λ e. clash (ap (λ (x : ℕ). has x (2 ^ t)) e ∙ has_or r (2 ^ t)) hs);
        high =
            same (bit_or s (2 ^ t)) (λ e. clash (ap (λ (x : ℕ). has x (2 ^ t)) (sym e) ∙ has_or s (2 ^ t)) hr)
            (λ e. ne (omega (arith, or_sum t s hs, or_sum t r hr, e)));
      }
    where
      same : (s : ℕ) → (s ≡ r → ⊥) → (s ≡ bit_or r (2 ^ t) → ⊥) → (c : ℕ) → c < 2 ^ n → read n l2 s c ≡ read n l1 s c
      same s a b c hc =
          p.other (s * 2 ^ n + c) (λ i k q. a (rows_apart n r s c i hc k q)) (λ i k q. b (rows_apart n (bit_or r (2 ^ t)) s c i hc k q))

  -- the next row: its pair is worked, or it has the bit and nothing changes
  half_more : {l2 : List ℤ} → t < n → r < 2 ^ n → PairSummed n control (2 ^ t) l1 l2 r → Halfway n control (2 ^ t) l l2 (r + 1)
  half_more {l2} ht lt p = by (has r (2 ^ t)) refl
    where
      by : (q : Bool) → has r (2 ^ t) ≡ q → Halfway n control (2 ^ t) l l2 (r + 1)
      by true hr = record {
        long = ap length (p.alone hr) ∙ w.long;
        done = below_more _ r (λ s b h. subst (λ (m : List ℤ). PairWorked n control (2 ^ t) l m s) (sym (p.alone hr)) (w.done s b h)) (λ h. clash hr h);
        rest = λ s b h. subst (λ (m : List ℤ). Still n (2 ^ t) l m s) (sym (p.alone hr)) (w.rest s (omega arith) h);
        kept = kept_trans n w.kept (kept_same n (p.alone hr));
      }
      by false hr = record {
        long = (p.pair hr).long ∙ w.long;
        done = below_more _ r (λ s b h. worked (keep hr (p.pair hr) s (λ e. omega arith) h) (w.done s b h)) (λ h. new (p.pair hr) (w.rest r (omega arith) h));
        rest = λ s b h. still (keep hr (p.pair hr) s (λ e. omega arith) h) (w.rest s (omega arith) h);
        kept = kept_trans n w.kept (past (p.pair hr));
      }
        where
          worked : {s : ℕ} → Still n (2 ^ t) l1 l2 s → PairWorked n control (2 ^ t) l l1 s → PairWorked n control (2 ^ t) l l2 s
          worked k d = record { low = λ c hc. k.low c hc ∙ d.low c hc; high = λ c hc. k.high c hc ∙ d.high c hc }

          still : {s : ℕ} → Still n (2 ^ t) l1 l2 s → Still n (2 ^ t) l l1 s → Still n (2 ^ t) l l2 s
          still k d = record { low = λ c hc. k.low c hc ∙ d.low c hc; high = λ c hc. k.high c hc ∙ d.high c hc }

          past : Summed (has r control) l1 l2 (r * 2 ^ n) (bit_or r (2 ^ t) * 2 ^ n) (2 ^ n) → Kept n l1 l2
          past s =
              kept_entries n
              (λ k h. s.other k (λ i b q. omega (arith, row_inside n r lt)) (λ i b q. omega (arith, row_inside n (bit_or r (2 ^ t)) (or_lt n r (2 ^ t) lt (pow-lt ht)))))

          new : Summed (has r control) l1 l2 (r * 2 ^ n) (bit_or r (2 ^ t) * 2 ^ n) (2 ^ n) → Still n (2 ^ t) l l1 r → PairWorked n control (2 ^ t) l l2 r
          new s k = record {
            low = λ c hc. s.sums c hc ∙ (λ i. low_of (has r control) (k.low c hc i) (k.high c hc i));
            high = λ c hc. s.differences c hc ∙ (λ i. high_of (has r control) (k.low c hc i) (k.high c hc i));
          }

  half_end : bit_and control (2 ^ t) ≡ 0 → 2 ^ n ≤ r → Same n (read n l1) (h_rows control (2 ^ t) (read n l))
  half_end z g =
      record { at = λ s c hs hc. by_pairs n t (λ s. read n l1 s c ≡ h_rows control (2 ^ t) (read n l) s c) (λ s b h. one s c b hc h) s hs }
    where
      one : (s c : ℕ) → s < 2 ^ n → c < 2 ^ n → has s (2 ^ t) ≡ false
          → (read n l1 s c ≡ h_rows control (2 ^ t) (read n l) s c) × (read n l1 (bit_or s (2 ^ t)) c ≡ h_rows control (2 ^ t) (read n l) (bit_or s (2 ^ t)) c)
      one s c hs hc h =
          let d = w.done s (omega arith) h in
          (d.low c hc ∙ sym (h_low control t (read n l) s c h), d.high c hc ∙ sym (h_high control t (read n l) s c h z))

-- ---- the same for a number of rows and a mask that are known by equations

module _ (control t : ℕ) (z : bit_and control (2 ^ t) ≡ 0) {n d bit r : ℕ} {l l1 : List ℤ} (ht : t < n) (ed : d ≡ 2 ^ n) (eb : bit ≡ 2 ^ t)
    (w : Halfway n control (2 ^ t) l l1 r) where
  -- the next row's pair lies in the matrix, and what comes of it fits
  pub row_next : AllSmall n (h_rows control (2 ^ t) (read n l)) → r < d → (r < 2 ^ n) × (bit < 2 ^ n) × PairFits n control bit l1 r
  row_next a h =
      let b : r < 2 ^ n = omega arith in
      rw eb (b, pow-lt ht, half_fits control t w (all_pair control t z a ht b))

  pub row_worked : {l2 : List ℤ} → r < d → PairSummed n control bit l1 l2 r → Halfway n control (2 ^ t) l l2 (r + 1)
  row_worked h p = half_more control t w ht (omega arith) (rw eb at p)

  pub rows_worked : length l ≡ places → d ≤ r → (length l1 ≡ places) × (Same n (read n l1) (h_rows control (2 ^ t) (read n l)) × Kept n l l1)
  rows_worked e h = (w.long ∙ e, (half_end control t w z (omega arith), w.kept))
