-- Entries in their places: what is read after a store, where row and column lie for every width, and what is known of
-- an entry by its place. Assumes nothing.
use mathlib.Core.Path.{◌≡◌, refl, sym, ap, ◌∙◌, subst}
use mathlib.Core.Bool.{true, false}
use mathlib.Core.Logic.{◌≢◌}
use mathlib.Core.List.{List}
use Prim.Native.Nat.{ℕ, zero, suc, ◌+◌, ◌*◌, ◌^◌, ◌/◌, ◌%◌, ◌≤◌, ◌<◌}
use native.Mathlib.Nat.{one-mul, mod-eq_of_lt, lt_of_le_of_lt, div-add-mod', mul-le-mul, mul-le-mul_right, suc-mul}
use native.Mathlib.Omega.{arith}
use lib.Dec.{lit<}
use lib.IntN.{ℤ, pos}
use lib.ListN.{length, get_or, set, length-set}
use lib.Seq.{get_or-set_same, get_or-set_other}
use lib.Pow.{pow_mono, high}
use Rattle.ints.proofs.Bools.{clash, iff}
use Rattle.cyclotomic.specs.Zomega.{Zω, divisible, Small}
use Rattle.cyclotomic.proofs.Each.{each}
use Rattle.exact.specs.Matrix.{all_divisible}
use Rattle.exact.proofs.Words.{AllSmall}
use Rattle.exact.proofs.Values.{divisible_to, divisible_from}
use Rattle.exact.proofs.Phases.{row_lt, col_lt, flat_lt}
use Rattle.exact.specs.Places.{entry, read}
use Rattle.places.specs.Places.{put, Kept}

-- ---- sizes, for all widths together

pub dim_le : (n : ℕ) → n ≤ 5 → 2 ^ n ≤ 32
dim_le n h = pow_mono {i = n} {j = 5} h

-- a shift of 1 by n
pub shift_one : (n : ℕ) → n ≤ 5 → 1 * 2 ^ n % 18446744073709551616 ≡ 2 ^ n
shift_one n h = simp one-mul (mod-eq_of_lt (lt_of_le_of_lt (dim_le n h) (lit< tt)))

pub area_le : (n : ℕ) → n ≤ 5 → 2 ^ n * 2 ^ n ≤ 1024
area_le n h = mul-le-mul (dim_le n h) (dim_le n h)

-- row r and column c lie among the entries that there are places for
pub place_fits : (n r c : ℕ) → n ≤ 5 → r < 2 ^ n → c < 2 ^ n → r * 2 ^ n + c < 1024
place_fits n r c h p q = omega (arith, area_le n h, flat_lt n r c p q)

-- a whole row, among the matrix's entries and among all
pub row_inside : (n r : ℕ) → r < 2 ^ n → r * 2 ^ n + 2 ^ n ≤ 2 ^ n * 2 ^ n
row_inside n r p = omega (arith, mul-le-mul_right (2 ^ n) p, suc-mul r (2 ^ n))

pub row_le : (n r : ℕ) → n ≤ 5 → r < 2 ^ n → r * 2 ^ n + 2 ^ n ≤ 1024
row_le n r h p = omega (arith, area_le n h, row_inside n r p)

-- a row ends before a later one begins
pub row_before : (d r s : ℕ) → r < s → r * d + d ≤ s * d
row_before d r s h = omega (arith, mul-le-mul_right d h, suc-mul r d)

-- entries of two rows differ
pub rows_apart : (n r s c k : ℕ) → c < 2 ^ n → k < 2 ^ n → s * 2 ^ n + c ≡ r * 2 ^ n + k → s ≡ r
rows_apart n r s c k p q e = sym (high s n p) ∙ ap (λ (x : ℕ). x / 2 ^ n) e ∙ high r n q

-- ---- an entry by its place, and by its row and column

pub read_at : (n : ℕ) (l : List ℤ) (e : ℕ) → read n l (e / 2 ^ n) (e % 2 ^ n) ≡ entry l e
read_at n l e = ap (entry l) (div-add-mod' e (2 ^ n))

pub small_at : (n : ℕ) (l : List ℤ) (e : ℕ) → AllSmall n (read n l) → e < 2 ^ n * 2 ^ n → Small (entry l e)
small_at n l e s h = subst Small (read_at n l e) (s.small (e / 2 ^ n) (e % 2 ^ n) (row_lt n e h) (col_lt n e))

pub at_small : (n : ℕ) (l : List ℤ) → ((e : ℕ) → e < 2 ^ n * 2 ^ n → Small (entry l e)) → AllSmall n (read n l)
at_small n l h = record { small = λ r c p q. h (r * 2 ^ n + c) (flat_lt n r c p q) }

-- ---- what is read after a store

pub length_put : (l : List ℤ) (e : ℕ) (z : Zω) → length (put l e z) ≡ length l
unfolding put
length_put l e z = simp length-set

module _ (l : List ℤ) (e : ℕ) (z : Zω) where
  -- after one, two and three of the four stores
  unfoldable one : List ℤ
  one = set l (4 * e) z.a

  unfoldable two : List ℤ
  unfolding one
  two = set one (4 * e + 1) z.b

  unfoldable three : List ℤ
  unfolding one two
  three = set two (4 * e + 2) z.c

  pub entry_put_same : 4 * e + 3 < length l → entry (put l e z) e ≡ z
  unfolding put entry one two three
  entry_put_same h =
      each
      (get_or-set_other three (4 * e + 3) (4 * e) z.d (pos 0) (λ q. omega arith)
      ∙ get_or-set_other two (4 * e + 2) (4 * e) z.c (pos 0) (λ q. omega arith)
      ∙ get_or-set_other one (4 * e + 1) (4 * e) z.b (pos 0) (λ q. omega arith)
      ∙ get_or-set_same l (4 * e) z.a (pos 0) (omega arith))
      (get_or-set_other three (4 * e + 3) (4 * e + 1) z.d (pos 0) (λ q. omega arith)
      ∙ get_or-set_other two (4 * e + 2) (4 * e + 1) z.c (pos 0) (λ q. omega arith)
      ∙ get_or-set_same one (4 * e + 1) z.b (pos 0) (simp length-set (omega arith)))
      (get_or-set_other three (4 * e + 3) (4 * e + 2) z.d (pos 0) (λ q. omega arith)
      ∙ get_or-set_same two (4 * e + 2) z.c (pos 0) (simp length-set (omega arith)))
      (get_or-set_same three (4 * e + 3) z.d (pos 0) (simp length-set (omega arith)))

  -- a place that is none of the entry's four
  stays : (j : ℕ) → j ≢ 4 * e → j ≢ 4 * e + 1 → j ≢ 4 * e + 2 → j ≢ 4 * e + 3 → get_or (put l e z) j (pos 0) ≡ get_or l j (pos 0)
  unfolding put one two three
  stays j h0 h1 h2 h3 =
      get_or-set_other three (4 * e + 3) j z.d (pos 0) h3 ∙ get_or-set_other two (4 * e + 2) j z.c (pos 0) h2
      ∙ get_or-set_other one (4 * e + 1) j z.b (pos 0) h1 ∙ get_or-set_other l (4 * e) j z.a (pos 0) h0

  pub entry_put_other : (k : ℕ) → k ≢ e → entry (put l e z) k ≡ entry l k
  unfolding entry
  entry_put_other k h =
      each (stays (4 * k) (λ q. h (omega arith)) (λ q. omega arith) (λ q. omega arith) (λ q. omega arith))
      (stays (4 * k + 1) (λ q. omega arith) (λ q. h (omega arith)) (λ q. omega arith) (λ q. omega arith))
      (stays (4 * k + 2) (λ q. omega arith) (λ q. omega arith) (λ q. h (omega arith)) (λ q. omega arith))
      (stays (4 * k + 3) (λ q. omega arith) (λ q. omega arith) (λ q. omega arith) (λ q. h (omega arith)))

-- ---- the places past those of a matrix of width n

module _ (n : ℕ) where
  pub kept_refl : (l : List ℤ) → Kept n l l
  kept_refl l = record { past = λ j h. refl }

  pub kept_trans : {l l1 l2 : List ℤ} → Kept n l l1 → Kept n l1 l2 → Kept n l l2
  kept_trans a b = record { past = λ j h. b.past j h ∙ a.past j h }

  pub kept_same : {l l' : List ℤ} → l' ≡ l → Kept n l l'
  kept_same e = record { past = λ j h. ap (λ (x : List ℤ). get_or x j (pos 0)) e }

  -- the entries past the matrix stayed
  pub kept_entries : {l l' : List ℤ} → ((e : ℕ) → 2 ^ n * 2 ^ n ≤ e → entry l' e ≡ entry l e) → Kept n l l'
  unfolding entry
  kept_entries {l} {l'} f = record { past = λ j h. by j (j / 4) (j % 4) (omega arith) (omega arith) (f (j / 4) (omega arith)) }
    where
      one : (j k : ℕ) → j ≡ k → get_or l' k (pos 0) ≡ get_or l k (pos 0) → get_or l' j (pos 0) ≡ get_or l j (pos 0)
      one j k e s = rw e s

      by : (j e t : ℕ) → j ≡ 4 * e + t → t < 4 → entry l' e ≡ entry l e → get_or l' j (pos 0) ≡ get_or l j (pos 0)
      by j e zero q b s = one j (4 * e) (omega arith) (ap (λ (z : Zω). z.a) s)
      by j e (suc zero) q b s = one j (4 * e + 1) q (ap (λ (z : Zω). z.b) s)
      by j e (suc (suc zero)) q b s = one j (4 * e + 2) q (ap (λ (z : Zω). z.c) s)
      by j e (suc (suc (suc zero))) q b s = one j (4 * e + 3) q (ap (λ (z : Zω). z.d) s)
      by j e (suc (suc (suc (suc t)))) q b s = absurd (omega arith)

  -- a store inside the matrix
  pub kept_put : (l : List ℤ) (e : ℕ) (z : Zω) → e < 2 ^ n * 2 ^ n → Kept n l (put l e z)
  kept_put l e z h = kept_entries (λ k q. entry_put_other l e z k (λ s. omega arith))

-- ---- the test of all entries, from the first on
module _ (n : ℕ) (l : List ℤ) where
  pub divisible_yes : ((e : ℕ) → e < 2 ^ n * 2 ^ n → divisible (entry l e) ≡ true) → all_divisible n (read n l) ≡ true
  divisible_yes h = divisible_from n (read n l) (λ r c p q. h (r * 2 ^ n + c) (flat_lt n r c p q))

  pub divisible_no : (e : ℕ) → e < 2 ^ n * 2 ^ n → divisible (entry l e) ≡ false → all_divisible n (read n l) ≡ false
  divisible_no e h f =
      iff (all_divisible n (read n l)) false
      (λ t. clash (sym (ap divisible (read_at n l e)) ∙ divisible_to n (read n l) t _ _ (row_lt n e h) (col_lt n e)) f)
      (λ t. clash t refl)
