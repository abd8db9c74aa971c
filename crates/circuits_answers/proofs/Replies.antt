-- Laws of the coefficients lent for a list's matrix, and of an answer by its cases. Assumes nothing.
use mathlib.Core.List.{List, ◌∷◌}
use mathlib.Core.Path.{◌≡◌, refl, sym, ap, ◌∙◌}
use mathlib.Core.Bool.{false}
use borrow.Author.Tests.{le-ltb}
use Prim.Native.Nat.{ℕ, zero, suc, ◌≤◌}
use native.Mathlib.Omega.{arith}
use lib.IntN.{ℤ, pos}
use lib.ListN.{length, take, replicate, length-replicate}
use lib.Seq.{length-take-le}
use Rattle.tables.specs.Checks.{Arrays}
use Rattle.tables.specs.Tables.{Table, Query, record_row, list_row, found_in, written_in, synthesized}
use Rattle.tables.proofs.Accepted.{record_limits}
use Rattle.tables.proofs.Asked.{followed}
use Rattle.walk.specs.Answers.{then_write}
use Rattle.walk.specs.Answers as a
use Rattle.refusal.specs.Told.{number_of, position_of}
use Rattle.refusal.specs.declared.Refusal.{Refusal}
use Rattle.std.specs.Prelude.{Option, Some, None, Result, Ok, Err}
use Rattle.murm_lists.specs.Entries.{told_listed}
use Rattle.murm.specs.Entries.{told_found_node, told_written}
use Rattle.tables.specs.Lists.{ListOutcome, outcome, listed}
use Rattle.circuits_input.specs.Input.{InputLine, question_of}
use Rattle.circuits_input.specs.Told.{told_question}
use Rattle.circuits_answers.specs.Replies.{lent_count, lent_coefficients, lent_most, formed_reply, list_reply, asked_reply, line_reply}

-- ---- the coefficients lent

take_replicate : (n k : ℕ) (x : ℤ) → n ≤ k → take n (replicate k x) ≡ replicate n x
take_replicate zero k x h = refl
take_replicate (suc n) zero x h = absurd (omega arith)
take_replicate (suc n) (suc k) x h = ap (λ (l : List ℤ). x ∷ l) (take_replicate n k x (omega arith))

module _ {n : ℕ} {space : List ℤ} (few : n ≤ 4096) (all : space ≡ lent_most) where
  -- a part of the coefficients of the largest matrix
  pub lent_part : (width : ℕ) → n ≡ lent_count width → take n space ≡ lent_coefficients width
  unfolding lent_coefficients lent_most
  lent_part width e = ap (take n) all ∙ (take_replicate n 4096 (pos 0) few ∙ ap (λ (k : ℕ). replicate k (pos 0)) e)

  pub lent_length : n ≡ length (take n space)
  unfolding lent_most
  lent_length =
      let l : length space ≡ 4096 = ap length all ∙ length-replicate {0} {A = ℤ} 4096 (pos 0) in
      sym (length-take-le n space (omega arith))

-- ---- by the case of the answer

module _ (t : Table) (m : Arrays) (out : List ℕ) where
  -- what a list came to
  pub list_reply_lem :
      (width : ℕ) (codes : List ℕ) (r : Result ℕ Refusal) {lent coefficients : List ℤ} → lent ≡ lent_coefficients width →
      outcome (told_listed r) coefficients ≡ listed width codes lent →
      formed_reply t m width out (told_listed r) coefficients ≡ list_reply t m width codes out
  unfolding list_reply
  list_reply_lem width codes r l h = ap (λ (o : ListOutcome). formed_reply t m width out o.answer o.numbers) (h ∙ ap (listed width codes) l)

  -- what a line asks
  pub line_reply_lem :
      (line : InputLine) (numbers : List ℕ) (r : Result (ℕ × ℕ) Refusal) → told_question numbers r ≡ question_of line →
      asked_reply t m out (told_question numbers r) ≡ line_reply t m line out
  unfolding line_reply
  line_reply_lem line numbers r h = ap (asked_reply t m out) h

-- ---- a matrix: the find, followed by the write

module _ (t : Table) (m : Arrays) (q : Query) (out : List ℕ) (room : 64 ≤ length out) where
  long : (record_row t).holds ≡ false → (list_row t out).holds ≡ false
  long e = le-ltb (length out) t.limits.gates (omega (arith, room, (record_limits t e).gates))

  by_find : {r s : Result (Option (ℕ × ℕ)) Refusal} → told_found_node r ≡ found_in t m q → r ≡ s
      → then_write (λ k. written_in t m q.width k out) out (told_found_node s) ≡ synthesized t m q out
  by_find h e = ap (λ (x : Result (Option (ℕ × ℕ)) Refusal). then_write (λ k. written_in t m q.width k out) out (told_found_node x)) (sym e)
      ∙ (ap (then_write (λ k. written_in t m q.width k out) out) h ∙ followed t m q out long)

  pub node_written_lem : {r : Result (Option (ℕ × ℕ)) Refusal} {k j : ℕ} {after : List ℕ} (w : Result ℕ Refusal) → told_found_node r ≡ found_in t m q
      → r ≡ Ok (Some (k, j)) → a.outcome (told_written w) after ≡ written_in t m q.width k out
      → a.outcome (told_written w) after ≡ synthesized t m q out
  node_written_lem w h e z = z ∙ by_find h e

  pub none_found : {r : Result (Option (ℕ × ℕ)) Refusal} → told_found_node r ≡ found_in t m q → r ≡ Ok None → a.outcome a.none out ≡ synthesized t m q out
  none_found h e = by_find h e

  pub find_refused : {r : Result (Option (ℕ × ℕ)) Refusal} {x : Refusal} → told_found_node r ≡ found_in t m q → r ≡ Err x
      → a.outcome (a.refused (number_of x) (position_of x)) out ≡ synthesized t m q out
  find_refused h e = by_find h e
