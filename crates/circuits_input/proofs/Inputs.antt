-- What an input asks, by its length and its first line. Assumes nothing.
use mathlib.Core.List.{List, [], ◌∷◌}
use mathlib.Core.Path.{◌≡◌, sym, ap, ◌∙◌}
use Prim.Native.Nat.{ℕ, suc, ◌+◌, ◌≤◌, ◌<◌}
use native.Mathlib.Omega.{arith}
use borrow.Author.Tests.{lt-ltb, le-ltb}
use lib.ListN.{length, take, drop}
use Rattle.circuits_text.specs.Reading.{newline, before}
use Rattle.circuits_text.proofs.Split.{before_take}
use Rattle.circuits_input.specs.Input.{refused, broken, ended, lines_of, line_one, with_later, lines_input, input_most, input_of}
use Rattle.circuits_input.proofs.InputLines.{lines_none, lines_more, lines_last}

-- too long
pub input_long : (input : List ℕ) → input_most < length input → refused 15 0 ≡ input_of input
unfolding input_of
input_long input h = rw (lt-ltb input_most (length input) h)

-- no newline
pub input_cut : (input : List ℕ) → length input ≤ input_most → length input ≤ length (before newline input) → broken ≡ input_of input
unfolding input_of line_one
input_cut input h g = rw (le-ltb input_most (length input) h) (by input g)
  where
    by : (bs : List ℕ) → length bs ≤ length (before newline bs) → broken ≡ lines_input (lines_of bs)
    by [] k = ap lines_input (sym lines_none)
    by (b ∷ bs) k = ap lines_input (sym (lines_last (b ∷ bs) (omega arith) k))

-- line one, and the lines after it
pub input_first :
    (input : List ℕ) (e : ℕ) → length input ≤ input_most → e ≡ length (before newline input) → e < length input →
    with_later (lines_of (drop (e + 1) input)) (line_one (ended (take e input))) ≡ input_of input
unfolding input_of
input_first input e h g l =
    let n = length (before newline input) in
    let line : take e input ≡ before newline input = ap (λ (k : ℕ). take k input) g ∙ before_take newline input in
    let k : e + 1 ≡ suc n = omega arith in
    let ls : lines_of input ≡ ended (take e input) ∷ lines_of (drop (e + 1) input) =
    lines_more input (omega arith)
    ∙ (ap (λ (bs : List ℕ). ended bs ∷ lines_of (drop (suc n) input)) (sym line)
    ∙ ap (λ (j : ℕ). ended (take e input) ∷ lines_of (drop j input)) (sym k)) in
    rw (le-ltb input_most (length input) h) (ap lines_input (sym ls))
