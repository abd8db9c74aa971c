-- Laws of reading: where a byte is found, what digits write, which words a line has. Assumes nothing.
use mathlib.Core.Bool.{Bool, true, false, cond, ◌&&◌, and-false}
use mathlib.Core.List.{List, [], ◌∷◌, ◌++◌, append_assoc, append-nil}
use mathlib.Core.Option.{Option, none, some}
use mathlib.Core.Path.{◌≡◌, refl, sym, ap, ◌∙◌}
use Prim.Native.Nat.{ℕ, suc, ◌+◌, ◌-◌, ◌*◌, ◌^◌, ◌≤◌, ◌<◌}
use native.Mathlib.Nat.{pow-suc, pow-le-pow_right}
use native.Mathlib.Numerals.{add-one}
use native.Mathlib.Omega.{arith}
use borrow.Author.Tests.{le-leb, lt-leb, leb-true, eqb-true, ltb-false}
use lib.Dec.{eqb, leb, ltb}
use lib.ListN.{length, get_or, set, take, drop, length-append, length-drop, length-set, drop_of_length-le}
use lib.Seq.{drop-cons, take_at, take_all, set_at, drop-drop}
use Rattle.std.specs.List.{position_or_len}
use Rattle.std.specs.Cmp.Lexicographic.{pointwise}
use Rattle.std.specs.Prelude.{Some, None, Result, Ok, Err, nat_eq}
use Rattle.std.specs.Result.{OkIff, result_ok}
use Rattle.std.proofs.lemmas.List.Recursion.{is_position_or_len}
use Rattle.ints.specs.Lists.{pick, all, over}
use Rattle.ints.proofs.Bools.{clash, both_true, and_left, and_right}
use Rattle.circuits_text.specs.Reading.{space, before, same_bytes, longer, words, ReadInto}
use Rattle.circuits_text.specs.Reading.{is_digit, value_from, value, is_number, word_of, told_word, all_numbers, numbers, line_of}

-- ---- a byte that is looked for
pub before_position : (c : ℕ) (s : List ℕ) → length (before c s) ≡ position_or_len (λ (b : ℕ). eqb b c) s
unfolding before
before_position c s = is_position_or_len (λ (l : List ℕ). length (before c l)) (λ (b : ℕ). eqb b c) refl next s
  where
    by : (t : Bool) (b : ℕ) (bs : List ℕ) → length (pick t [] (b ∷ before c bs)) ≡ cond t 0 (1 + length (before c bs))
    by true b bs = refl
    by false b bs = omega arith

    next : (b : ℕ) (bs : List ℕ) → length (before c (b ∷ bs)) ≡ cond (eqb b c) 0 (1 + length (before c bs))
    next b bs = by (eqb b c) b bs

-- what `position` answers tells how many bytes stand before
pub found_place :
    (c : ℕ) (s : List ℕ) (n : ℕ) →
    Some n ≡ cond (ltb (position_or_len (λ (b : ℕ). eqb b c) s) (length s)) (Some (position_or_len (λ (b : ℕ). eqb b c) s)) None →
    n ≡ length (before c s)
found_place c s n h = sym (before_position c s ∙ by (ltb (position_or_len (λ (b : ℕ). eqb b c) s) (length s)) h)
  where
    by :
        (t : Bool) → Some n ≡ cond t (Some (position_or_len (λ (b : ℕ). eqb b c) s)) None →
        position_or_len (λ (b : ℕ). eqb b c) s ≡ n
    by true g = cc
    by false g = cc

pub found_nowhere :
    (c : ℕ) (s : List ℕ) →
    None ≡ cond (ltb (position_or_len (λ (b : ℕ). eqb b c) s) (length s)) (Some (position_or_len (λ (b : ℕ). eqb b c) s)) None →
    length s ≤ length (before c s)
found_nowhere c s h = rw (before_position c s) (by (ltb (position_or_len (λ (b : ℕ). eqb b c) s) (length s)) refl h)
  where
    by :
        (t : Bool) → ltb (position_or_len (λ (b : ℕ). eqb b c) s) (length s) ≡ t →
        None ≡ cond t (Some (position_or_len (λ (b : ℕ). eqb b c) s)) None →
        length s ≤ position_or_len (λ (b : ℕ). eqb b c) s
    by true e g = absurd (cc)
    by false e g = ltb-false _ _ e

pub before_within : (c : ℕ) (s : List ℕ) → length (before c s) ≤ length s
unfolding before
before_within c [] = omega arith
before_within c (b ∷ bs) = by (eqb b c) (before_within c bs)
  where
    by : (t : Bool) → length (before c bs) ≤ length bs → length (pick t [] (b ∷ before c bs)) ≤ length (b ∷ bs)
    by true h = omega arith
    by false h = omega arith

-- ---- words compared

-- only lists of bytes that are the same are told so
pub same_no : (a b : List ℕ) → same_bytes a b ≡ true → a ≡ b
unfolding same_bytes
same_no [] [] e = refl
same_no [] (y ∷ b) e = clash e refl
same_no (x ∷ a) [] e = clash e refl
same_no (x ∷ a) (y ∷ b) e =
    let h : x ≡ y = eqb-true x y (and_left (eqb x y) (same_bytes a b) e) in
    let t : a ≡ b = same_no a b (and_right (eqb x y) (same_bytes a b) e) in
    cc

pub same_pointwise : (a b : List ℕ) → same_bytes a b ≡ pointwise nat_eq a b
unfolding same_bytes
same_pointwise [] [] = refl
same_pointwise [] (y ∷ b) = refl
same_pointwise (x ∷ a) [] = refl
same_pointwise (x ∷ a) (y ∷ b) = rw (same_pointwise a b)

-- ---- a number
more_digits : (k v d : ℕ) → v < 10 ^ k → d ≤ 9 → v * 10 + d < 10 ^ (k + 1)
more_digits k v d h e = rw (add-one, pow-suc 10 k) (omega arith)

pub power : (k n : ℕ) → k ≤ n → 10 ^ k ≤ 10 ^ n
power k n h = pow-le-pow_right (omega arith) h

module _ (w : List ℕ) (v i : ℕ) (in-word : i < length w) where
  value_more : value_from v (drop i w) ≡ value_from (v * 10 + (get_or w i 0 - 48)) (drop (i + 1) w)
  unfolding value_from
  value_more = rw (add-one, drop-cons w i 0)

  digits_at : all is_digit (drop i w) ≡ is_digit (get_or w i 0) && all is_digit (drop (i + 1) w)
  unfolding all
  digits_at = rw (add-one, drop-cons w i 0)

  pub no_digit : is_digit (get_or w i 0) ≡ false → all is_digit (drop i w) ≡ false
  no_digit h = digits_at ∙ rw h

  digit_more : 48 ≤ get_or w i 0 → get_or w i 0 ≤ 57 → all is_digit (drop i w) ≡ all is_digit (drop (i + 1) w)
  digit_more g h = digits_at ∙ rw (le-leb 48 _ g, le-leb _ 57 h)

-- what the loop over a word's bytes keeps
pub record Numbering (w : List ℕ) (v i : ℕ) : Type 0 where
  pub some : 1 ≤ length w
  pub few : length w ≤ 10
  pub within : i ≤ length w
  pub small : v < 10 ^ i
  pub same : value w ≡ value_from v (drop i w)
  pub digits : all is_digit w ≡ all is_digit (drop i w)

pub word_short : (w : List ℕ) → length w < 1 → word_of w ≡ none
unfolding word_of is_number
word_short w h = rw (lt-leb 1 (length w) h)

pub word_long : (w : List ℕ) → 1 ≤ length w → 10 < length w → word_of w ≡ none
unfolding word_of is_number
word_long w g h = rw (le-leb 1 (length w) g, lt-leb (length w) 10 h)

module _ {w : List ℕ} {v i : ℕ} (n : Numbering w v i) where
  pub word_other : all is_digit (drop i w) ≡ false → word_of w ≡ none
  unfolding word_of is_number
  word_other h = rw (le-leb 1 (length w) n.some, le-leb (length w) 10 n.few, n.digits, h)

  all_digits : length w ≤ i → all is_digit w ≡ true
  unfolding all
  all_digits h = n.digits ∙ rw (drop_of_length-le w {i = i} h)

  is_value : length w ≤ i → value w ≡ v
  unfolding value_from
  is_value h = n.same ∙ rw (drop_of_length-le w {i = i} h)

  pub word_large : length w ≤ i → 4294967295 < v → word_of w ≡ none
  unfolding word_of is_number
  word_large h g = rw (le-leb 1 (length w) n.some, le-leb (length w) 10 n.few, all_digits h, is_value h, lt-leb v 4294967295 g)

  pub number_on : i < length w → 48 ≤ get_or w i 0 → get_or w i 0 ≤ 57 → Numbering w (v * 10 + (get_or w i 0 - 48)) (i + 1)
  number_on h lo hi =
      record {
        some = n.some;
        few = n.few;
        within = omega arith;
        small = more_digits i v (get_or w i 0 - 48) n.small (omega arith);
        same = n.same ∙ value_more w v i h;
        digits = n.digits ∙ digit_more w v i h lo hi;
      }

  pub word_number : length w ≤ i → v ≤ 4294967295 → word_of w ≡ some v
  unfolding word_of is_number
  word_number h g = rw (le-leb 1 (length w) n.some, le-leb (length w) 10 n.few, all_digits h, is_value h, le-leb v 4294967295 g)

  -- what the cast of v answers
  pub word_fits : {E : Type 0} → length w ≤ i → (r : Result ℕ E) → OkIff r (v < 4294967296) v → told_word (result_ok r) ≡ word_of w
  word_fits h (Ok x) p = ap some p.1 ∙ sym (word_number h (omega (arith, p.0)))
  word_fits h (Err e) f = sym (word_large h (omega (arith, f)))

-- ---- words
pub before_take : (c : ℕ) (bs : List ℕ) → take (length (before c bs)) bs ≡ before c bs
unfolding before
before_take c [] = refl
before_take c (b ∷ bs) = by (eqb b c) (before_take c bs)
  where
    by :
        (t : Bool) → take (length (before c bs)) bs ≡ before c bs →
        take (length (pick t [] (b ∷ before c bs))) (b ∷ bs) ≡ pick t [] (b ∷ before c bs)
    by true rest = refl
    by false rest = ap (λ (l : List ℕ). b ∷ l) rest

words_last : (bs : List ℕ) → length bs ≤ length (before space bs) → words bs ≡ before space bs ∷ []
unfolding before words
words_last [] h = refl
words_last (b ∷ bs) h = by (eqb b space) (λ g. words_last bs g) h
  where
    by :
        (t : Bool) → (length bs ≤ length (before space bs) → words bs ≡ before space bs ∷ []) →
        length (b ∷ bs) ≤ length (pick t [] (b ∷ before space bs)) →
        pick t ([] ∷ words bs) (longer b (words bs)) ≡ pick t [] (b ∷ before space bs) ∷ []
    by true rest g = absurd (omega arith)
    by false rest g = ap (longer b) (rest (omega arith))

words_more : (bs : List ℕ) → length (before space bs) < length bs → words bs ≡ before space bs ∷ words (drop (suc (length (before space bs))) bs)
unfolding before words
words_more [] h = absurd (omega arith)
words_more (b ∷ bs) h = by (eqb b space) (λ g. words_more bs g) h
  where
    by :
        (t : Bool) →
        (length (before space bs) < length bs → words bs ≡ before space bs ∷ words (drop (suc (length (before space bs))) bs)) →
        length (pick t [] (b ∷ before space bs)) < length (b ∷ bs) →
        pick t ([] ∷ words bs) (longer b (words bs))
        ≡ pick t [] (b ∷ before space bs) ∷ words (drop (suc (length (pick t [] (b ∷ before space bs)))) (b ∷ bs))
    by true rest g = refl
    by false rest g = ap (longer b) (rest (omega arith))

pub words_some : (bs : List ℕ) → 1 ≤ length (words bs)
unfolding words
words_some [] = omega arith
words_some (b ∷ bs) = by (eqb b space) (words bs)
  where
    by : (t : Bool) (ws : List (List ℕ)) → 1 ≤ length (pick t ([] ∷ ws) (longer b ws))
    by true ws = omega arith
    by false [] = omega arith
    by false (w ∷ ws) = omega arith

pub number_is : (w : List ℕ) (v : ℕ) → word_of w ≡ some v → (is_number w ≡ true) × (value w ≡ v)
unfolding word_of
number_is w v h = by (is_number w) h
  where
    by : (t : Bool) → pick t (some (value w)) none ≡ some v → (t ≡ true) × (value w ≡ v)
    by true g = (refl, cc)
    by false g = let z : ◌≡◌ {A = ℕ} 0 1 = cc in absurd (omega arith)

other_is : (w : List ℕ) → word_of w ≡ none → is_number w ≡ false
unfolding word_of
other_is w h = by (is_number w) h
  where
    by : (t : Bool) → pick t (some (value w)) none ≡ none → t ≡ false
    by true g = let z : ◌≡◌ {A = ℕ} 0 1 = cc in absurd (omega arith)
    by false g = refl

all_append : (a b : List (List ℕ)) → all_numbers a ≡ true → all_numbers (a ++ b) ≡ all_numbers b
unfolding all_numbers
all_append [] b h = refl
all_append (w ∷ a) b h =
    let p = both_true (is_number w) (all_numbers a) h in
    rw p.0 (all_append a b p.1)

numbers_append : (a b : List (List ℕ)) → all_numbers a ≡ true → numbers (a ++ b) ≡ numbers a ++ numbers b
unfolding all_numbers numbers
numbers_append [] b h = refl
numbers_append (w ∷ a) b h =
    let p = both_true (is_number w) (all_numbers a) h in
    rw p.0 (ap (λ (l : List ℕ). value w ∷ l) (numbers_append a b p.1))

pub numbers_length : (a : List (List ℕ)) → all_numbers a ≡ true → length (numbers a) ≡ length a
unfolding all_numbers numbers
numbers_length [] h = refl
numbers_length (w ∷ a) h =
    let p = both_true (is_number w) (all_numbers a) h in
    rw p.0 (ap suc (numbers_length a p.1))

-- one place more
over_more : (l : List ℕ) (v : ℕ) (old : List ℕ) → length l < length old → set (over l old) (length l) v ≡ over (l ++ (v ∷ [])) old
over_more l v old h =
    let m : length (l ++ (v ∷ [])) ≡ suc (length l) = length-append l (v ∷ []) ∙ add-one (length l) in
    rw (m, drop-cons old (length l) 0, set_at l (get_or old (length l) 0) (drop (suc (length l)) old) v (length l) refl, append_assoc)

all_first : (w : List ℕ) (ws : List (List ℕ)) → is_number w ≡ false → all_numbers (w ∷ ws) ≡ false
unfolding all_numbers
all_first w ws h = rw h

numbers_first : (w : List ℕ) (ws : List (List ℕ)) → is_number w ≡ false → numbers (w ∷ ws) ≡ []
unfolding numbers
numbers_first w ws h = rw h

-- the first word is what stands before the first space
words_first : (bs : List ℕ) → (later : List (List ℕ)) × (words bs ≡ before space bs ∷ later)
unfolding before words
words_first [] = ([], refl)
words_first (b ∷ bs) = by (eqb b space) (words_first bs)
  where
    by :
        (t : Bool) → ((later : List (List ℕ)) × (words bs ≡ before space bs ∷ later)) →
        (later : List (List ℕ)) × (pick t ([] ∷ words bs) (longer b (words bs)) ≡ pick t [] (b ∷ before space bs) ∷ later)
    by true h = (words bs, refl)
    by false h = (h.0, ap (longer b) h.1)

-- ---- a line
-- the line's words are those that were read, all of them numbers, and then the rest; the list holds the numbers of
-- those that were read
pub record Reading (bytes old xs : List ℕ) (p k : ℕ) : Type 0 where
  pub passed : List (List ℕ)
  pub splits : words bytes ≡ passed ++ words (drop p bytes)
  pub good : all_numbers passed ≡ true
  pub count : length passed ≡ k
  pub holds : xs ≡ over (numbers passed) old
  pub place : p ≤ length bytes
  pub room : k ≤ length old
  pub size : length xs ≡ length old

pub read_none : (bytes old : List ℕ) → Reading bytes old old 0 0
unfolding all_numbers numbers
read_none bytes old =
    record { passed = []; splits = refl; good = refl; count = refl; holds = refl; place = omega arith; room = omega arith; size = refl }

line_whole : (n : ℕ) (ws : List (List ℕ)) → all_numbers ws ≡ true → length ws ≤ n → line_of n ws ≡ some (length ws)
unfolding line_of
line_whole n ws h l = rw (h, le-leb (length ws) n l)

line_other : (n : ℕ) (ws : List (List ℕ)) → all_numbers ws ≡ false → line_of n ws ≡ none
unfolding line_of
line_other n ws h = rw h

line_long : (n : ℕ) (ws : List (List ℕ)) → n < length ws → line_of n ws ≡ none
unfolding line_of
line_long n ws l = rw (lt-leb (length ws) n l, and-false)

line_fits_for : (n m k : ℕ) (t : Bool) → pick (t && leb m n) (some m) none ≡ some k → k ≤ n
line_fits_for n m k true h = by (leb m n) refl h
  where
    by : (s : Bool) → leb m n ≡ s → pick s (some m) none ≡ some k → k ≤ n
    by true e g = let z : m ≡ k = cc in omega (arith, leb-true m n e)
    by false e g = let z : ◌≡◌ {A = ℕ} 0 1 = cc in absurd (omega arith)
line_fits_for n m k false h = let z : ◌≡◌ {A = ℕ} 0 1 = cc in absurd (omega arith)

-- as many numbers as were read had places
pub line_fits : {bytes old now : List ℕ} {r : Option ℕ} {k : ℕ} → ReadInto bytes old now r → r ≡ some k → k ≤ length old
unfolding line_of
line_fits {bytes} {old} {now} {r} {k} h e = line_fits_for (length old) (length (words bytes)) k (all_numbers (words bytes)) (sym h.is ∙ e)

module _ {bytes old xs : List ℕ} {p k : ℕ} (r : Reading bytes old xs p k) where
  held : length (numbers r.passed) ≡ k
  held = numbers_length r.passed r.good ∙ r.count

  -- no place is left
  pub read_full : length xs ≤ k → ReadInto bytes old xs none
  read_full h =
      let s = words_some (drop p bytes) in
      let n : length (words bytes) ≡ length r.passed + length (words (drop p bytes)) =
      ap length r.splits ∙ length-append r.passed (words (drop p bytes)) in
      let l : length old < length (words bytes) = omega (arith, r.count, r.size) in
      let e : length (numbers r.passed) ≡ length old = omega (arith, held, r.room, r.size) in
      record {
        is = sym (line_long (length old) (words bytes) l);
        holds =
            r.holds
            ∙ ap (λ (m : List ℕ). over m old)
            (sym (ap (λ (ws : List (List ℕ)). take (length old) (numbers ws)) r.splits
            ∙ (ap (take (length old)) (numbers_append r.passed (words (drop p bytes)) r.good)
            ∙ take_at (numbers r.passed) (numbers (words (drop p bytes))) (length old) e)));
      }

  module _ (e : ℕ) (ends : e ≡ p + length (before space (drop p bytes))) where
    part : take (e - p) (drop p bytes) ≡ before space (drop p bytes)
    part =
        let m : e - p ≡ length (before space (drop p bytes)) = omega arith in
        ap (λ (n : ℕ). take n (drop p bytes)) m ∙ before_take space (drop p bytes)

    -- the next word is no number
    pub read_other : word_of (take (e - p) (drop p bytes)) ≡ none → ReadInto bytes old xs none
    read_other h =
        let w = before space (drop p bytes) in
        let o : is_number w ≡ false = other_is w (sym (ap word_of part) ∙ h) in
        let f = words_first (drop p bytes) in
        let a : all_numbers (words bytes) ≡ false =
        ap all_numbers r.splits ∙ (all_append r.passed (words (drop p bytes)) r.good ∙ (ap all_numbers f.1 ∙ all_first w f.0 o)) in
        let m : numbers (words bytes) ≡ numbers r.passed =
        ap numbers r.splits
        ∙ (numbers_append r.passed (words (drop p bytes)) r.good
        ∙ (ap (λ (ws : List (List ℕ)). numbers r.passed ++ numbers ws) f.1
        ∙ (ap (λ (l : List ℕ). numbers r.passed ++ l) (numbers_first w f.0 o) ∙ append-nil (numbers r.passed)))) in
        record {
          is = sym (line_other (length old) (words bytes) a);
          holds =
              r.holds
              ∙ ap (λ (l : List ℕ). over l old)
              (sym (ap (take (length old)) m ∙ take_all (length old) (numbers r.passed) (omega (arith, held, r.room))));
        }

    module _ (v : ℕ) (free : k < length xs) (is : word_of (take (e - p) (drop p bytes)) ≡ some v) where
      abbrev read : List (List ℕ)
      read = r.passed ++ (before space (drop p bytes) ∷ [])

      number : (is_number (before space (drop p bytes)) ≡ true) × (value (before space (drop p bytes)) ≡ v)
      number = number_is (before space (drop p bytes)) v (sym (ap word_of part) ∙ is)

      read_good : all_numbers read ≡ true
      unfolding all_numbers
      read_good = all_append r.passed (before space (drop p bytes) ∷ []) r.good ∙ rw number.0

      read_count : length read ≡ k + 1
      read_count = length-append r.passed (before space (drop p bytes) ∷ []) ∙ ap (λ (n : ℕ). n + 1) r.count

      read_numbers : numbers read ≡ numbers r.passed ++ (v ∷ [])
      unfolding numbers
      read_numbers = numbers_append r.passed (before space (drop p bytes) ∷ []) r.good ∙ rw (number.0, number.1)

      read_holds : set xs k v ≡ over (numbers read) old
      read_holds =
          ap (λ (l : List ℕ). set l k v) r.holds
          ∙ (ap (λ (n : ℕ). set (over (numbers r.passed) old) n v) (sym held)
          ∙ (over_more (numbers r.passed) v old (omega (arith, held, r.size)) ∙ ap (λ (l : List ℕ). over l old) (sym read_numbers)))

      -- it is a number, and the line ends
      pub read_last : length bytes ≤ e → ReadInto bytes old (set xs k v) (some (k + 1))
      read_last h =
          let l : words (drop p bytes) ≡ before space (drop p bytes) ∷ [] = words_last (drop p bytes) (omega (arith, length-drop p bytes)) in
          let s : words bytes ≡ read = r.splits ∙ ap (λ (ws : List (List ℕ)). r.passed ++ ws) l in
          let n : k + 1 ≤ length old = omega (arith, r.size) in
          record {
            is = sym (ap (line_of (length old)) s ∙ (line_whole (length old) read read_good (omega (arith, read_count)) ∙ ap some read_count));
            holds =
                read_holds
                ∙ ap (λ (l : List ℕ). over l old)
                (sym (ap (λ (ws : List (List ℕ)). take (length old) (numbers ws)) s
                ∙ take_all (length old) (numbers read) (omega (arith, numbers_length read read_good, read_count))));
          }

      -- it is a number, and a space follows
      pub read_on : e < length bytes → Reading bytes old (set xs k v) (e + 1) (k + 1)
      read_on h =
          let n = length (before space (drop p bytes)) in
          let l : words (drop p bytes) ≡ before space (drop p bytes) ∷ words (drop (suc n) (drop p bytes)) =
          words_more (drop p bytes) (omega (arith, length-drop p bytes)) in
          let q : p + suc n ≡ e + 1 = omega arith in
          let d : drop (suc n) (drop p bytes) ≡ drop (e + 1) bytes = drop-drop (suc n) p bytes ∙ ap (λ (m : ℕ). drop m bytes) q in
          record {
            passed = read;
            splits =
                r.splits
                ∙ (ap (λ (ws : List (List ℕ)). r.passed ++ ws) (l ∙ ap (λ (bs : List ℕ). before space (drop p bytes) ∷ words bs) d)
                ∙ sym (append_assoc r.passed (before space (drop p bytes) ∷ []) (words (drop (e + 1) bytes))));
            good = read_good;
            count = read_count;
            holds = read_holds;
            place = omega arith;
            room = omega (arith, r.size);
            size = length-set xs k v ∙ r.size;
          }
