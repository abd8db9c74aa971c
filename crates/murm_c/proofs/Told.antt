-- What an entry's answer says as a number, where its case is known, and the record of five counts. Assumes nothing.
use mathlib.Core.Path.{◌≡◌, sym, ap, ◌∙◌}
use mathlib.Core.List.{List, [], ◌∷◌}
use Prim.Native.Nat.{ℕ, ◌+◌, ◌*◌}
use lib.IntN.{ℤ}
use Rattle.exact.specs.Answers.{Answer}
use Rattle.walk.specs.Answers.{Reply}
use Rattle.walk.specs.Answers as a
use Rattle.tables.specs.Checks.{Limits, Arrays}
use Rattle.tables.specs.Lists.{ListOutcome, outcome}
use Rattle.tables.specs.Tables.{Width, Table, Query, synthesized}
use Rattle.refusal.specs.Told.{number_of, position_of}
use Rattle.refusal.specs.declared.Refusal.{Refusal}
use Rattle.murm_lists.specs.Entries.{told_listed}
use Rattle.murm_find.specs.Entries.{told_synthesized}
use Rattle.std.specs.Prelude.{Option, Result, Err}
use Rattle.murm_c.specs.Numbers.{capped, refusal_number, list_number, reply_number, counted, counts_table}

pub refusal_is : {n p x r i : ℕ} → n ≡ r → p ≡ i → x ≡ capped p → n * 4294967296 + x ≡ refusal_number r i
refusal_is h e w = λ k. h k * 4294967296 + (w ∙ ap capped e) k

pub list_refused : (r : Refusal) {t : Result ℕ Refusal} {n : ℕ} → t ≡ Err r → n ≡ refusal_number (number_of r) (position_of r) → n ≡ list_number (told_listed t)
list_refused r e h = h ∙ ap (λ (x : Result ℕ Refusal). list_number (told_listed x)) (sym e)

pub reply_refused : (r : Refusal) {t : Result (Option ℕ) Refusal} {n : ℕ} → t ≡ Err r → n ≡ refusal_number (number_of r) (position_of r)
    → n ≡ reply_number (told_synthesized t)
reply_refused r e h = h ∙ ap (λ (x : Result (Option ℕ) Refusal). reply_number (told_synthesized x)) (sym e)

pub list_told : {o : ListOutcome} {t : Answer} {numbers : List ℤ} {n : ℕ} → outcome t numbers ≡ o → n ≡ list_number t → (n ≡ list_number o.answer) × (numbers ≡ o.numbers)
list_told w h = (h ∙ ap (λ (o : ListOutcome). list_number o.answer) w, ap (λ (o : ListOutcome). o.numbers) w)

pub reply_told : (x : Table) (m : Arrays) (q : Query) (out : List ℕ) {y : Table} {t : Reply} {list : List ℕ} {n : ℕ}
    → y ≡ x → a.outcome t list ≡ synthesized y m q out → n ≡ reply_number t
    → (n ≡ reply_number (synthesized x m q out).reply) × (list ≡ (synthesized x m q out).list)
reply_told x m q out e w h =
    let v = w ∙ ap (λ (z : Table). synthesized z m q out) e in
    (h ∙ ap (λ (o : a.Outcome). reply_number o.reply) v, ap (λ (o : a.Outcome). o.list) v)

pub five_counted : (l : Limits) (c1 c2 c3 c4 c5 : ℕ) {v w x y z : Width} → v ≡ counted c1 → w ≡ counted c2 → x ≡ counted c3 → y ≡ counted c4 → z ≡ counted c5
    → ◌≡◌ {A = Table} (record { limits = l; widths = v ∷ w ∷ x ∷ y ∷ z ∷ [] }) (counts_table l c1 c2 c3 c4 c5)
five_counted l c1 c2 c3 c4 c5 h1 h2 h3 h4 h5 = rw (h1, h2, h3, h4, h5)
