-- The answer of a lent table by its cases, whatever the memory holds: refused by the first row that holds, none for a
-- width that there is not, and otherwise what the part of the width answers. Assumes nothing.
use mathlib.Core.Path.{◌≡◌, refl, sym, ap, ◌∙◌, subst}
use mathlib.Core.Bool.{Bool, true, false}
use mathlib.Core.List.{List, ◌++◌}
use Prim.Native.Nat.{ℕ, zero, suc, ◌<◌}
use native.Mathlib.Omega.{arith}
use lib.ListN.{length, take, drop}
use lib.Seq.{take_at}
use Rattle.walk.specs.Answers.{Reply, given, none, refused, Outcome, outcome}
use Rattle.walk.specs.Meaning.{AnsweredBy, Means, Right}
use Rattle.walk.proofs.Meaning.{kind, size, first, kind_of_lem, means, answers_right}
use Rattle.tables.specs.Checks.{first_row, Arrays}
use Rattle.tables.specs.Tables.{Table, Query, matrix_of, answer_rows, not_a_width, synthesized, limits_at, part_at}
use Rattle.tables.proofs.Asked.{part_asked, no_part, answer_passed, answer_refused, asked_by}
use Rattle.tables.specs.Demand3.{Gives, GivesNone, Refuses, NotRefused, Decided, a_list, no_list, a_refusal}

-- ---- one answer is one case alone

pub number_of : {r s : ℕ} {l m : List ℕ} → outcome (refused r 0) l ≡ outcome (refused s 0) m → r ≡ s
number_of e = ap (λ (o : Outcome). first o.reply) e

pub not_given : {A : Type 0} {b : Reply} {m : ℕ} {l k : List ℕ} → 0 < kind b → outcome b k ≡ outcome (given m) l → A
not_given h e = absurd (omega (arith, h, kind_of_lem e))

-- a list that fills the first places is known from the answer
pub one_list : (l m out : List ℕ)
    → outcome (given (length l)) (l ++ drop (length l) out) ≡ outcome (given (length m)) (m ++ drop (length m) out) → l ≡ m
one_list l m out e =
    let z : length l ≡ length m = ap (λ (o : Outcome). size o.reply) e in
    sym (take_at l (drop (length l) out) (length l) refl) ∙ ap (λ (o : Outcome). take (length l) o.list) e
    ∙ take_at m (drop (length m) out) (length l) (sym z)

-- ---- a lent table

module _ (t : Table) (a : Arrays) (q : Query) (out : List ℕ) where
  -- the number of the first row that holds
  abbrev pub row_of_answer : ℕ
  row_of_answer = first_row (answer_rows t a q out)

  pub data ReplyCase : Type 0 where
    not_a_width_lem : row_of_answer ≡ 0 → not_a_width t q.width ≡ true → GivesNone t a q out → ReplyCase
    part_asked_lem : row_of_answer ≡ 0 → not_a_width t q.width ≡ false → synthesized t a q out ≡ part_asked t a q out → ReplyCase
    by_row : (r : ℕ) → 0 < r → row_of_answer ≡ r → Refuses t a q out r → ReplyCase

  -- ---- from the rows to the answer

  pub row_refuses : (r : ℕ) → 0 < r → row_of_answer ≡ r → Refuses t a q out r
  row_refuses = answer_refused t a q out

  pub width_none : row_of_answer ≡ 0 → not_a_width t q.width ≡ true → GivesNone t a q out
  width_none e f = answer_passed t a q out e ∙ asked_by t a q out (no_part t a q f)

  pub width_asked : row_of_answer ≡ 0 → not_a_width t q.width ≡ false → synthesized t a q out ≡ part_asked t a q out
  width_asked e f = answer_passed t a q out e

  pub cases : ReplyCase
  cases = by row_of_answer refl
    where
      at : row_of_answer ≡ 0 → (b : Bool) → not_a_width t q.width ≡ b → ReplyCase
      at e true f = not_a_width_lem e f (width_none e f)
      at e false f = part_asked_lem e f (width_asked e f)

      by : (r : ℕ) → row_of_answer ≡ r → ReplyCase
      by zero e = at e (not_a_width t q.width) refl
      by (suc r) e = by_row (suc r) (omega arith) e (row_refuses (suc r) (omega arith) e)

  -- ---- and back

  -- a list comes from the part of the width
  pub gives_asked : (l : List ℕ) → Gives t a q out l
      → (row_of_answer ≡ 0) × (not_a_width t q.width ≡ false) × (part_asked t a q out ≡ outcome (given (length l)) (l ++ drop (length l) out))
  gives_asked l g = by cases
    where
      by : ReplyCase → (row_of_answer ≡ 0) × (not_a_width t q.width ≡ false) × (part_asked t a q out ≡ outcome (given (length l)) (l ++ drop (length l) out))
      by (not_a_width_lem e f n) = not_given (omega arith) (sym n ∙ g)
      by (part_asked_lem e f p) = (e, f, sym p ∙ g)
      by (by_row r h e n) = not_given (omega arith) (sym n ∙ g)

  -- where the answer is not a refusal, no row holds
  pub no_row : NotRefused t a q out → row_of_answer ≡ 0
  no_row h = by cases
    where
      by : ReplyCase → row_of_answer ≡ 0
      by (not_a_width_lem e f n) = e
      by (part_asked_lem e f p) = e
      by (by_row r p e n) = absurd (h r n)

  -- ---- what the part of the width answers

  abbrev pub asked_means : Means (limits_at t.limits q.width) (part_at t a q.width) (matrix_of q) out
  asked_means = means (limits_at t.limits q.width) (part_at t a q.width) (matrix_of q) out

  pub decided : Decided t a q out
  decided = by cases
    where
      at : synthesized t a q out ≡ part_asked t a q out → (r : Reply) → (part_asked t a q out).reply ≡ r → Decided t a q out
      at p (given m) e =
          let f : part_asked t a q out ≡ outcome (given m) (part_asked t a q out).list = ap (λ (z : Reply). outcome z (part_asked t a q out).list) e in
          let (l, w, z, h) = (asked_means.is_list m (part_asked t a q out).list).0 f in
          a_list l (p ∙ f ∙ ap (outcome (given m)) h ∙ ap (λ (j : ℕ). outcome (given j) (l ++ drop j out)) z)
      at p none e =
          let f : part_asked t a q out ≡ outcome none (part_asked t a q out).list = ap (λ (z : Reply). outcome z (part_asked t a q out).list) e in
          no_list (p ∙ f ∙ ap (outcome none) ((asked_means.is_none (part_asked t a q out).list).0 f).1)
      at p (refused r i) e =
          let f : part_asked t a q out ≡ outcome (refused r i) (part_asked t a q out).list = ap (λ (z : Reply). outcome z (part_asked t a q out).list) e in
          let (w, x, y, h) = (asked_means.is_refused r i (part_asked t a q out).list).0 f in
          a_refusal r (p ∙ f ∙ (λ k. outcome (refused r (y k)) (h k)))

      by : ReplyCase → Decided t a q out
      by (not_a_width_lem e f n) = no_list n
      by (part_asked_lem e f p) = at p (part_asked t a q out).reply refl
      by (by_row r h e n) = a_refusal r n

  -- the list given is the part's
  pub gives_answers : (l : List ℕ) → Gives t a q out l
      → AnsweredBy (limits_at t.limits q.width) (part_at t a q.width) (matrix_of q) l
  gives_answers l g =
      let (m, w, z, h) = (asked_means.is_list (length l) (l ++ drop (length l) out)).0 (gives_asked l g).2 in
      let e : l ≡ m = one_list l m out ((λ k. outcome (given (z k)) (h k)) ∙ ap (λ (j : ℕ). outcome (given (length m)) (m ++ drop j out)) z) in
      subst (AnsweredBy _ _ _) (sym e) w

  -- (a), and that the matrix asked is unitary
  pub gives_right : (l : List ℕ) → Gives t a q out l → Right q.width t.limits.basis t.limits.gates (matrix_of q) l
  gives_right l g = answers_right _ _ _ (gives_answers l g)
