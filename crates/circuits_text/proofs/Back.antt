-- Reading and writing agree: the decimal digits of a number, up to 4294967295, are a word that is that number. Assumes
-- nothing.
use mathlib.Core.Bool.{Bool, true, false}
use mathlib.Core.List.{List, [], ◌∷◌, ◌++◌}
use mathlib.Core.Option.{some}
use mathlib.Core.Path.{◌≡◌, refl, ◌∙◌}
use Prim.Native.Nat.{ℕ, zero, suc, ◌+◌, ◌-◌, ◌*◌, ◌/◌, ◌%◌, ◌≤◌, ◌<◌}
use native.Mathlib.Omega.{arith}
use borrow.Author.Tests.{lt-ltb, le-leb, ltb-true, ltb-false}
use lib.Dec.{ltb}
use lib.ListN.{length, length-append}
use Rattle.ints.specs.Lists.{pick, all}
use Rattle.ints.proofs.Bools.{both_true}
use Rattle.circuits_text.specs.Reading.{is_digit, value_from, value, is_number, word_of}
use Rattle.circuits_text.specs.Writing.{glyph, decimal_in, decimal}
use Rattle.circuits_text.proofs.Placing.{decimal_short}

pub value_snoc : (v : ℕ) (a : List ℕ) (b : ℕ) → value_from v (a ++ (b ∷ [])) ≡ value_from v a * 10 + (b - 48)
unfolding value_from
value_snoc v [] b = refl
value_snoc v (x ∷ a) b = value_snoc (v * 10 + (x - 48)) a b

pub digits_snoc : (a : List ℕ) (b : ℕ) → all is_digit a ≡ true → is_digit b ≡ true → all is_digit (a ++ (b ∷ [])) ≡ true
unfolding all
digits_snoc [] b h e = rw e
digits_snoc (x ∷ a) b h e =
    let p = both_true (is_digit x) (all is_digit a) h in
    rw p.0 (digits_snoc a b p.1 e)

glyph_is : (d : ℕ) → d < 10 → glyph d ≡ 48 + d
unfolding glyph
glyph_is d h = rw (lt-ltb d 10 h)

glyph_digit : (d : ℕ) → d < 10 → is_digit (glyph d) ≡ true
glyph_digit d h =
    let e = glyph_is d h in
    rw (le-leb 48 (glyph d) (omega arith), le-leb (glyph d) 57 (omega arith))

-- the digits of n, and what they write
record Back (n : ℕ) (l : List ℕ) : Type 0 where
  some : 1 ≤ length l
  same : value l ≡ n
  digits : all is_digit l ≡ true

back_one : (n : ℕ) → n < 10 → Back n (glyph n ∷ [])
unfolding value_from all
back_one n h =
    record { some = omega arith; same = omega (arith, glyph_is n h); digits = rw (glyph_digit n h) }

back_more : (n : ℕ) (l : List ℕ) → Back (n / 10) l → Back n (l ++ (glyph (n % 10) ∷ []))
back_more n l r =
    let m : n % 10 < 10 = omega arith in
    record {
      some = omega (arith, length-append l (glyph (n % 10) ∷ []));
      same = value_snoc 0 l (glyph (n % 10)) ∙ omega (arith, r.same, glyph_is (n % 10) m);
      digits = digits_snoc l (glyph (n % 10)) r.digits (glyph_digit (n % 10) m);
    }

back_in : (m n : ℕ) → n < m → Back n (decimal_in m n)
unfolding decimal_in
back_in zero n h = absurd (omega arith)
back_in (suc m) n h = by (ltb n 10) refl (λ (l : n / 10 < m). back_in m (n / 10) l)
  where
    by :
        (t : Bool) → ltb n 10 ≡ t → (n / 10 < m → Back (n / 10) (decimal_in m (n / 10))) →
        Back n (pick t (glyph n ∷ []) (decimal_in m (n / 10) ++ (glyph (n % 10) ∷ [])))
    by true e rest = back_one n (ltb-true n 10 e)
    by false e rest =
        let g = ltb-false n 10 e in
        back_more n (decimal_in m (n / 10)) (rest (omega arith))

pub read_back : (n : ℕ) → n ≤ 4294967295 → word_of (decimal n) ≡ some n
unfolding decimal word_of is_number
read_back n h =
    let b = back_in (suc n) n (omega arith) in
    let s = decimal_short 9 n (omega arith) in
    rw (le-leb 1 (length (decimal_in (suc n) n)) b.some, le-leb (length (decimal_in (suc n) n)) 10 s, b.digits, b.same, le-leb n 4294967295 h)
