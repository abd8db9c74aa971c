-- What a build came to, as text, and how many bytes any output takes (SPECIFICATION 10.5, 10.10). Assumes nothing.
use Rattle.std.specs.Prelude.{List, ◌++◌, ℕ, ◌+◌, ◌*◌, min}
use Rattle.tables.specs.Checks.{Arrays}
use Rattle.tables.specs.Tables.{BuildReply, table, refusal}
use Rattle.circuits_lines.specs.Lines.{refused_line}
use Rattle.circuits_input.specs.Input.{InputLine}
use Rattle.circuits_parts.specs.Texts.{query_texts, table_text}

-- a build's table and then the queries; a build that is refused prints its refusal alone
abbrev pub reply_then : BuildReply → Arrays → List InputLine → List ℕ
reply_then (table t) m ls = table_text t m.parents m.codes ++ query_texts t m ls
reply_then (refusal number position) m ls = refused_line number position

-- as many bytes as any output takes, where the array of parents has that many places: 33 for each node, of which there
-- are at most 5,000,000; the rest is 90 for the line of each width, 187 for each byte of the input and 756 for the last
-- line, 3,065,014 together, rounded up
unfoldable pub room_for : ℕ → ℕ
room_for places = 33 * min places 5000000 + 3066000
