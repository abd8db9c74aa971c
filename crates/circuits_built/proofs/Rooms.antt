-- How many bytes a query's line prints, by the bytes of the line and its newline, and how many a table and all queries.
-- Assumes nothing.
use mathlib.Core.Bool.{Bool, true, false}
use mathlib.Core.List.{List}
use mathlib.Core.Path.{◌≡◌, refl, ap, ◌∙◌}
use Prim.Native.Nat.{ℕ, ◌+◌, ◌*◌, ◌≤◌}
use native.Mathlib.Nat.{mul-add, mul_left_comm, mul-le-mul}
use native.Mathlib.Omega.{arith}
use lib.ListN.{length, get_or, drop}
use Rattle.ints.specs.Lists.{pick}
use Rattle.tables.specs.Checks.{Arrays, places_of}
use Rattle.tables.specs.Tables.{Table, record_row}
use Rattle.tables.proofs.Accepted.{record_limits}
use Rattle.circuits_text.specs.Reading.{words, all_numbers, numbers}
use Rattle.circuits_text.specs.Writing.{glyph, decimal_in, decimal}
use Rattle.circuits_text.proofs.Split.{numbers_length}
use Rattle.circuits_lines.specs.Lines.{refused_line}
use Rattle.circuits_input.specs.Input.{Read, gives, broken, ended, cut, input_most, AskedList, asked_list, is_query, question_of}
use Rattle.circuits_input.proofs.InputLines.{two_words}
use Rattle.circuits_input.proofs.LineReads.{two_numbers}
use Rattle.circuits_input.proofs.Accepts.{cut_broken}
use Rattle.circuits_answers.specs.Replies.{asked_reply, line_reply}
use Rattle.circuits_parts.specs.Texts.{answer_text, lent_list, query_text}
use Rattle.circuits_built.specs.Built.{room_for}

-- `refused 14 0` and its newline
pub broken_length : length (refused_line 14 0) ≡ 13
unfolding refused_line decimal decimal_in glyph
broken_length = refl

module _ (t : Table) (m : Arrays) where
  -- a line that is not ended
  pub cut_text : (bytes : List ℕ) → query_text t m (cut bytes) ≡ refused_line 14 0
  unfolding query_text line_reply
  cut_text bytes = ap (λ (q : Read AskedList). answer_text (asked_reply t m lent_list q)) (cut_broken bytes)

  -- a query has 4 bytes with its newline, and prints at most 746; other lines print 13
  pub query_room :
      (bytes : List ℕ) → length (query_text t m (ended bytes)) ≤ 746 → length (query_text t m (ended bytes)) ≤ 187 * (length bytes + 1)
  unfolding query_text line_reply question_of
  query_room bytes h = by (all_numbers (words bytes)) (is_query (numbers (words bytes))) refl refl h
    where
      text : Bool → Bool → List ℕ
      text a b = answer_text (asked_reply t m lent_list (pick a (pick b (gives (asked_list (get_or (numbers (words bytes)) 0 0) (drop 2 (numbers (words bytes))))) broken) broken))

      by :
          (a b : Bool) → all_numbers (words bytes) ≡ a → is_query (numbers (words bytes)) ≡ b → length (text a b) ≤ 746 →
          length (text a b) ≤ 187 * (length bytes + 1)
      by true true e f g =
          let two = two_numbers (numbers (words bytes)) f in
          let three = two_words bytes e (omega (arith, two, numbers_length (words bytes) e)) in
          omega (arith, three, g)
      by true false e f g = omega (arith, broken_length)
      by false b e f g = omega (arith, broken_length)

-- a table's text, the queries' and 756 bytes more have room
pub table_room :
    (t : Table) (places : ℕ) → (record_row t).holds ≡ false → places_of t.limits ≤ places →
    t.limits.qubits * (33 * t.limits.entries + 90) + (187 * input_most + 756) ≤ room_for places
unfolding room_for
table_room t places r h =
    let l = record_limits t r in
    let q = t.limits.qubits in
    let e = t.limits.entries in
    let most : q * e ≤ 5 * 1000000 = mul-le-mul l.widths l.entries in
    let is : q * (33 * e + 90) ≡ 33 * (q * e) + q * 90 = mul-add q (33 * e) 90 ∙ ap (λ (n : ℕ). n + q * 90) (mul_left_comm q 33 e) in
    omega (arith, l.widths, most, is, h)

-- any line has room
pub some_room : (places n : ℕ) → room_for places ≤ n → 756 ≤ n
unfolding room_for
some_room places n h = omega (arith, h)
