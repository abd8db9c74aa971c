-- What a table and a query print (SPECIFICATION 10.5, 10.6). Assumes nothing.
use Rattle.std.specs.Prelude.{true, false, ◌≡◌, List, [], ◌∷◌, ◌++◌, ℕ, ◌≤◌, length, take, replicate}
use Rattle.ints.specs.Lists.{range, each}
use Rattle.walk.specs.Answers.{Reply}
use Rattle.walk.specs.Answers as a
use Rattle.tables.specs.Checks.{Arrays, places_of}
use Rattle.tables.specs.Tables.{Width, Table, BuildReply, table, refusal, record_row, width_at, part_of}
use Rattle.circuits_lines.specs.Lines.{refused_line, none_line, table_line, node_lines, answer_line}
use Rattle.circuits_input.specs.Input.{InputLine}
use Rattle.circuits_answers.specs.Replies.{list_reply, line_reply}

-- ---- the table

-- the line of a width by its row of the record, and its nodes by the width's places
unfoldable pub row_text : ℕ → Width → List ℕ → List ℕ → List ℕ
row_text w row parents codes = table_line w row.count row.depth row.saturated ++ node_lines parents codes row.count

-- a width of a table
unfoldable pub width_text : Table → List ℕ → List ℕ → ℕ → List ℕ
width_text t parents codes w = row_text w (width_at t w) (part_of w t.limits.entries parents) (part_of w t.limits.entries codes)

-- widths 1 to q
unfoldable pub width_texts : Table → List ℕ → List ℕ → ℕ → List ℕ
width_texts t parents codes q = each (range 1 q) (width_text t parents codes)

-- all widths, rising
abbrev pub table_text : Table → List ℕ → List ℕ → List ℕ
table_text t parents codes = width_texts t parents codes t.limits.qubits

-- a table that can be printed: its record is not refused, and the arrays have its places
abbrev pub Printable : BuildReply → List ℕ → List ℕ → Type 0
Printable (table t) parents codes =
    ((record_row t).holds ≡ false) × (places_of t.limits ≤ length parents) × (places_of t.limits ≤ length codes)
Printable (refusal number position) parents codes = true ≡ true

-- ---- a query

-- by the reply, and what the lent list then holds
abbrev pub reply_text : Reply → List ℕ → List ℕ
reply_text (a.given m) list = answer_line (take m list)
reply_text a.none list = none_line
reply_text (a.refused number position) list = refused_line number position

abbrev pub answer_text : a.Outcome → List ℕ
answer_text o = reply_text o.reply o.list

-- the list that is lent to an answer: 64 places, the largest gate limit (SPECIFICATION 6.1, 10.6)
unfoldable pub lent_list : List ℕ
lent_list = replicate 64 0

-- what the table answers to a list at a width
unfoldable pub list_text : Table → Arrays → ℕ → List ℕ → List ℕ
list_text t m width codes = answer_text (list_reply t m width codes lent_list)

-- what it answers to a line
unfoldable pub query_text : Table → Arrays → InputLine → List ℕ
query_text t m line = answer_text (line_reply t m line lent_list)

-- one line after the other
unfoldable pub query_texts : Table → Arrays → List InputLine → List ℕ
query_texts t m [] = []
query_texts t m (l ∷ ls) = query_text t m l ++ query_texts t m ls
