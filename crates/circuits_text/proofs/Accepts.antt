-- The parser takes exactly the lines that specs/Allowed allows, and reads their numbers (SPECIFICATION 10.2). Assumes
-- nothing.
use mathlib.Core.Bool.{Bool, true, false}
use mathlib.Core.List.{List, [], ◌∷◌, ◌++◌, append_assoc, append-nil}
use mathlib.Core.Path.{◌≡◌, refl, sym, ap, ◌∙◌, subst}
use Prim.Native.Nat.{ℕ, ◌+◌, ◌-◌, ◌*◌, ◌≤◌}
use native.Mathlib.Omega.{arith}
use borrow.Author.Tests.{ne_eqb, le-leb, leb-true, eqb-true}
use lib.Dec.{eqb, leb}
use lib.ListN.{length}
use Rattle.ints.specs.Lists.{pick, all, elem}
use Rattle.ints.proofs.Bools.{both_true, neither}
use Rattle.circuits_text.specs.Reading.{space, newline, longer, words, is_digit, value_from, value, is_number, all_numbers, numbers}
use Rattle.circuits_text.specs.Writing.{decimal}
use Rattle.circuits_text.specs.Allowed.{Digits, no_digit, behind, Spelled, AllowedLine, alone, spaced}
use Rattle.circuits_text.proofs.Split.{words_some, number_is}
use Rattle.circuits_text.proofs.Back.{value_snoc, digits_snoc, read_back}

-- ---- a word

digit_ge : (b : ℕ) → is_digit b ≡ true → 48 ≤ b
digit_ge b h = leb-true 48 b (both_true (leb 48 b) (leb b 57) h).0

digit_le : (b : ℕ) → is_digit b ≡ true → b ≤ 57
digit_le b h = leb-true b 57 (both_true (leb 48 b) (leb b 57) h).1

-- a byte that is a digit, behind others
behind_byte : {n : ℕ} {w : List ℕ} (b : ℕ) → is_digit b ≡ true → Digits n w → Digits (n * 10 + (b - 48)) (w ++ (b ∷ []))
behind_byte {n} {w} b h s =
    let lo = digit_ge b h in
    let hi = digit_le b h in
    let e : 48 + (b - 48) ≡ b = omega arith in
    subst (λ (c : ℕ). Digits (n * 10 + (b - 48)) (w ++ (c ∷ []))) e (behind (b - 48) (omega arith) s)

digits_from : {v : ℕ} {u : List ℕ} (w : List ℕ) → all is_digit w ≡ true → Digits v u → Digits (value_from v w) (u ++ w)
unfolding all value_from
digits_from {v = v} {u = u} [] h s = rw append-nil s
digits_from {v = v} {u = u} (b ∷ w) h s =
    let p = both_true (is_digit b) (all is_digit w) h in
    subst (λ (l : List ℕ). Digits (value_from (v * 10 + (b - 48)) w) l) (append_assoc u (b ∷ []) w) (digits_from {v = v * 10 + (b - 48)} {u = u ++ (b ∷ [])} w p.1 (behind_byte b p.0 s))

-- digits pass the parser's test, and have the parser's value
digits_good : {n : ℕ} {w : List ℕ} → Digits n w → (all is_digit w ≡ true) × (value w ≡ n)
unfolding all value_from
digits_good no_digit = (refl, refl)
digits_good (behind {n} {w} d h s) =
    let r = digits_good s in (
      digits_snoc w (48 + d) r.0 (rw (le-leb 48 (48 + d) (omega arith), le-leb (48 + d) 57 (omega arith))),
      value_snoc 0 w (48 + d) ∙ omega (arith, r.1),
    )

spelled_digits : {n : ℕ} {w : List ℕ} → Spelled n w → all is_digit w ≡ true
spelled_digits s = (digits_good s.digits).0

-- the parser takes a word for a number exactly where specs/Allowed does
word_spelled : (w : List ℕ) → is_number w ≡ true → Spelled (value w) w
unfolding is_number
word_spelled w h =
    let a = both_true (leb 1 (length w)) _ h in
    let b = both_true (leb (length w) 10) _ a.1 in
    let c = both_true (all is_digit w) (leb (value w) 4294967295) b.1 in
    record {
      digits = digits_from w c.0 no_digit;
      some = leb-true 1 (length w) a.0;
      few = leb-true (length w) 10 b.0;
      small = leb-true (value w) 4294967295 c.1;
    }

spelled_word : {n : ℕ} {w : List ℕ} → Spelled n w → (is_number w ≡ true) × (value w ≡ n)
unfolding is_number
spelled_word {n} {w} s =
    let d = digits_good s.digits in
    (rw (le-leb 1 (length w) s.some, le-leb (length w) 10 s.few, d.0, d.1, le-leb n 4294967295 s.small), d.1)

-- ---- a line

-- words with one space between
unfoldable joined : List (List ℕ) → List ℕ
joined [] = []
joined (w ∷ []) = w
joined (w ∷ v ∷ ws) = w ++ (32 ∷ joined (v ∷ ws))

-- the words of a line, joined, are the line
joined_first : (b : ℕ) (ws : List (List ℕ)) → joined (longer b ws) ≡ b ∷ joined ws
unfolding joined
joined_first b [] = refl
joined_first b (w ∷ []) = refl
joined_first b (w ∷ v ∷ ws) = refl

joined_space : (ws : List (List ℕ)) → 1 ≤ length ws → joined ([] ∷ ws) ≡ 32 ∷ joined ws
unfolding joined
joined_space [] h = absurd (omega arith)
joined_space (w ∷ ws) h = refl

words_joined : (bs : List ℕ) → joined (words bs) ≡ bs
unfolding words joined
words_joined [] = refl
words_joined (b ∷ bs) = by (eqb b space) refl (words_joined bs)
  where
    by : (t : Bool) → eqb b space ≡ t → joined (words bs) ≡ bs → joined (pick t ([] ∷ words bs) (longer b (words bs))) ≡ b ∷ bs
    by true e rest = let s = eqb-true b space e in joined_space (words bs) (words_some bs) ∙ cc
    by false e rest = joined_first b (words bs) ∙ ap (λ (l : List ℕ). b ∷ l) rest

words_allowed : (ws : List (List ℕ)) → 1 ≤ length ws → all_numbers ws ≡ true → AllowedLine (numbers ws) (joined ws)
unfolding all_numbers numbers joined
words_allowed [] l h = absurd (omega arith)
words_allowed (w ∷ []) l h = let p = (both_true (is_number w) _ h).0 in rw p (alone (word_spelled w p))
words_allowed (w ∷ v ∷ ws) l h =
    let p = both_true (is_number w) (all_numbers (v ∷ ws)) h in
    rw p.0 (spaced (word_spelled w p.0) (words_allowed (v ∷ ws) (omega arith) p.1))

-- digits are one word, also before a space
not_space : (b : ℕ) → is_digit b ≡ true → eqb b space ≡ false
not_space b h = let lo = digit_ge b h in ne_eqb b space (λ e. absurd (omega arith))

word_alone : (w : List ℕ) → all is_digit w ≡ true → words w ≡ w ∷ []
unfolding all words
word_alone [] h = refl
word_alone (b ∷ w) h =
    let p = both_true (is_digit b) (all is_digit w) h in
    rw (not_space b p.0) (ap (longer b) (word_alone w p.1))

word_spaced : (w l : List ℕ) → all is_digit w ≡ true → words (w ++ (32 ∷ l)) ≡ w ∷ words l
unfolding all words
word_spaced [] l h = refl
word_spaced (b ∷ w) l h =
    let p = both_true (is_digit b) (all is_digit w) h in
    rw (not_space b p.0) (ap (longer b) (word_spaced w l p.1))

-- the parser takes these words, and reads these numbers
abbrev Taken : List ℕ → List (List ℕ) → Type 0
Taken ns ws = (all_numbers ws ≡ true) × (numbers ws ≡ ns)

taken_none : Taken [] []
unfolding all_numbers numbers
taken_none = (refl, refl)

taken_more : {n : ℕ} {w : List ℕ} (ns : List ℕ) (ws : List (List ℕ)) → Spelled n w → Taken ns ws → Taken (n ∷ ns) (w ∷ ws)
unfolding all_numbers numbers
taken_more {n} {w} ns ws s r =
    let p = spelled_word s in
    (rw (p.0, r.0), rw p.0 (cc (p.1, r.1)))

taken_as : (ns : List ℕ) {ws vs : List (List ℕ)} → ws ≡ vs → Taken ns vs → Taken ns ws
taken_as ns e r = rw e r

-- ---- the parser's lines are those of specs/Allowed

-- what the parser takes is allowed, and spells the numbers that the parser reads
pub accepts : (l : List ℕ) → all_numbers (words l) ≡ true → AllowedLine (numbers (words l)) l
accepts l h = subst (AllowedLine (numbers (words l))) (words_joined l) (words_allowed (words l) (words_some l) h)

-- what is allowed is taken, and its numbers are read
pub accepted : {ns l : List ℕ} → AllowedLine ns l → (all_numbers (words l) ≡ true) × (numbers (words l) ≡ ns)
accepted (alone {n} {w} s) = taken_as (n ∷ []) (word_alone w (spelled_digits s)) (taken_more [] [] s taken_none)
accepted (spaced {n} {ns} {w} {l} s r) =
    taken_as (n ∷ ns) (word_spaced w l (spelled_digits s)) (taken_more ns (words l) s (accepted r))

-- a line spells one list of numbers
pub numbers_unique : {ms ns l : List ℕ} → AllowedLine ms l → AllowedLine ns l → ms ≡ ns
numbers_unique a b = sym (accepted a).1 ∙ (accepted b).1

-- ---- no newline stands in a line

elem_append : (k : ℕ) (a b : List ℕ) → elem k a ≡ false → elem k (a ++ b) ≡ elem k b
unfolding elem
elem_append k [] b h = refl
elem_append k (x ∷ a) b h =
    let p = neither (eqb k x) (elem k a) h in
    rw p.0 (elem_append k a b p.1)

digits_unbroken : (w : List ℕ) → all is_digit w ≡ true → elem newline w ≡ false
unfolding all elem
digits_unbroken [] h = refl
digits_unbroken (b ∷ w) h =
    let p = both_true (is_digit b) (all is_digit w) h in
    let lo = digit_ge b p.0 in
    rw (ne_eqb newline b (λ e. absurd (omega arith))) (digits_unbroken w p.1)

pub line_unbroken : {ns l : List ℕ} → AllowedLine ns l → elem newline l ≡ false
unfolding elem
line_unbroken (alone {n} {w} s) = digits_unbroken w (spelled_digits s)
line_unbroken (spaced {n} {ns} {w} {l} s r) = elem_append newline w (32 ∷ l) (digits_unbroken w (spelled_digits s)) ∙ line_unbroken r

-- ---- a number written is spelled
pub decimal_spelled : (n : ℕ) → n ≤ 4294967295 → Spelled n (decimal n)
decimal_spelled n h =
    let x = number_is (decimal n) n (read_back n h) in
    subst (λ (k : ℕ). Spelled k (decimal n)) x.1 (word_spelled (decimal n) x.0)
