-- Laws of the input's lines: the first is what stands before the first newline; a query's line has at least 3 bytes.
-- Assumes nothing.
use mathlib.Core.Bool.{Bool, true, false}
use mathlib.Core.List.{List, [], ◌∷◌}
use mathlib.Core.Path.{◌≡◌, refl, ap}
use Prim.Native.Nat.{ℕ, suc, ◌+◌, ◌*◌, ◌≤◌, ◌<◌}
use native.Mathlib.Omega.{arith}
use borrow.Author.Tests.{leb-true}
use lib.Dec.{eqb, leb}
use lib.ListN.{length, drop}
use Rattle.ints.specs.Lists.{pick}
use Rattle.ints.proofs.Bools.{both_true}
use Rattle.circuits_text.specs.Reading.{space, newline, before, longer, words, is_number, all_numbers}
use Rattle.circuits_input.specs.Input.{ended, cut, longer_line, lines_of}

-- no input is left
pub lines_none : lines_of [] ≡ []
unfolding lines_of
lines_none = refl

-- a newline is there: a line before it, and the lines after it
pub lines_more :
    (bs : List ℕ) → length (before newline bs) < length bs →
    lines_of bs ≡ ended (before newline bs) ∷ lines_of (drop (suc (length (before newline bs))) bs)
unfolding before lines_of
lines_more [] h = absurd (omega arith)
lines_more (b ∷ bs) h = by (eqb b newline) (λ g. lines_more bs g) h
  where
    by :
        (t : Bool) →
        (length (before newline bs) < length bs → lines_of bs ≡ ended (before newline bs) ∷ lines_of (drop (suc (length (before newline bs))) bs)) →
        length (pick t [] (b ∷ before newline bs)) < length (b ∷ bs) →
        pick t (ended [] ∷ lines_of bs) (longer_line b (lines_of bs))
        ≡ ended (pick t [] (b ∷ before newline bs)) ∷ lines_of (drop (suc (length (pick t [] (b ∷ before newline bs)))) (b ∷ bs))
    by true rest g = refl
    by false rest g = ap (longer_line b) (rest (omega arith))

-- none is there: what is left is the last line, without its newline
pub lines_last : (bs : List ℕ) → 0 < length bs → length bs ≤ length (before newline bs) → lines_of bs ≡ cut (before newline bs) ∷ []
unfolding before lines_of
lines_last [] p h = absurd (omega arith)
lines_last (b ∷ []) p h = by (eqb b newline) h
  where
    by :
        (t : Bool) → length (b ∷ []) ≤ length (pick t [] (b ∷ [])) →
        pick t (ended [] ∷ []) (cut (b ∷ []) ∷ []) ≡ cut (pick t [] (b ∷ [])) ∷ []
    by true g = absurd (omega arith)
    by false g = refl
lines_last (b ∷ d ∷ bs) p h = by (eqb b newline) (λ g. lines_last (d ∷ bs) (omega arith) g) h
  where
    by :
        (t : Bool) →
        (length (d ∷ bs) ≤ length (before newline (d ∷ bs)) → lines_of (d ∷ bs) ≡ cut (before newline (d ∷ bs)) ∷ []) →
        length (b ∷ d ∷ bs) ≤ length (pick t [] (b ∷ before newline (d ∷ bs))) →
        pick t (ended [] ∷ lines_of (d ∷ bs)) (longer_line b (lines_of (d ∷ bs))) ≡ cut (pick t [] (b ∷ before newline (d ∷ bs))) ∷ []
    by true rest g = absurd (omega arith)
    by false rest g = ap (longer_line b) (rest (omega arith))

-- ---- how long a line of numbers is
-- the bytes of words, and one more for each
unfoldable bytes_in : List (List ℕ) → ℕ
bytes_in [] = 0
bytes_in (w ∷ ws) = length w + 1 + bytes_in ws

words_bytes : (bs : List ℕ) → bytes_in (words bs) ≡ length bs + 1
unfolding words bytes_in
words_bytes [] = refl
words_bytes (b ∷ bs) = by (eqb b space) (words bs) (words_bytes bs)
  where
    by : (t : Bool) (ws : List (List ℕ)) → bytes_in ws ≡ length bs + 1 → bytes_in (pick t ([] ∷ ws) (longer b ws)) ≡ length (b ∷ bs) + 1
    by true ws h = omega (arith, h)
    by false [] h = absurd (omega (arith, h))
    by false (w ∷ ws) h = omega (arith, h)

number_some : (w : List ℕ) → is_number w ≡ true → 1 ≤ length w
unfolding is_number
number_some w h = leb-true 1 (length w) (both_true (leb 1 (length w)) _ h).0

numbers_bytes : (ws : List (List ℕ)) → all_numbers ws ≡ true → 2 * length ws ≤ bytes_in ws
unfolding all_numbers bytes_in
numbers_bytes [] h = omega arith
numbers_bytes (w ∷ ws) h =
    let p = both_true (is_number w) (all_numbers ws) h in
    omega (arith, number_some w p.0, numbers_bytes ws p.1)

-- a line of two numbers or more has at least 3 bytes
pub two_words : (bs : List ℕ) → all_numbers (words bs) ≡ true → 2 ≤ length (words bs) → 3 ≤ length bs
two_words bs h g = omega (arith, words_bytes bs, numbers_bytes (words bs) h)
