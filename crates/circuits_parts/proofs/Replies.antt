-- A text by what a table answered: the answer's case decides it. Assumes nothing.
use mathlib.Core.List.{List}
use mathlib.Core.Path.{◌≡◌, ap, ◌∙◌}
use Prim.Native.Nat.{ℕ}
use Rattle.tables.specs.Checks.{Arrays}
use Rattle.tables.specs.Tables.{Table}
use Rattle.std.specs.Prelude.{Option, Result}
use Rattle.refusal.specs.declared.Refusal.{Refusal}
use Rattle.murm_find.specs.Entries.{told_synthesized}
use Rattle.circuits_text.specs.Writing.{Put}
use Rattle.circuits_text.proofs.Placing.{put_as}
use Rattle.circuits_input.specs.Input.{InputLine}
use Rattle.circuits_answers.specs.Replies.{told, line_reply}
use Rattle.circuits_parts.specs.Texts.{reply_text, answer_text, lent_list, query_text}

-- the answer to a line, with a list lent as it was made
pub query_as :
    (t : Table) (m : Arrays) (line : InputLine) (r : Result (Option ℕ) Refusal) (old after : List ℕ) {at p : ℕ} {xs ys : List ℕ} →
    old ≡ lent_list → told r after ≡ line_reply t m line old →
    Put at (reply_text (told_synthesized r) after) p xs ys → Put at (query_text t m line) p xs ys
unfolding query_text
query_as t m line r old after e h d = put_as (ap answer_text h ∙ ap (λ (l : List ℕ). answer_text (line_reply t m line l)) e) d
