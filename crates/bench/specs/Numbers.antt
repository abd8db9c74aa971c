-- An entry's answer as one number. Assumes nothing.
use Rattle.std.specs.Prelude.{◌||◌, ℕ, ◌+◌, ◌*◌, eqb, ltb}
use Rattle.ints.specs.Lists.{pick}
use Rattle.exact.specs.Answers.{Answer, given, refused}
use Rattle.walk.specs.Modes.{Mode, by_print, keeping}
use Rattle.walk.specs.Index.{By, scan, indexed}
use Rattle.walk.specs.Finds.{Finding, node, none}
use Rattle.walk.specs.Finds as f
use Rattle.tables.specs.Tables.{FillReply, filled, not_filled}
use Rattle.murm_c.specs.Numbers.{refusal_number}

-- the number given, or another for every refusal
abbrev pub given_or : ℕ → Answer → ℕ
given_or other (given k) = k
given_or other (refused number position) = other

-- a node and its gate count: node × 128 + count, which is below 2^27; 4294967294 where the node is above 1,000,000 or
-- the count above 64, as no table's are (SPECIFICATION 9.1)
abbrev pub node_number : ℕ → ℕ → ℕ
node_number k m = pick (ltb 1000000 k || ltb 64 m) 4294967294 (k * 128 + m)

-- what is found: a node; 4294967295 for none; or why it is refused
abbrev pub found_number : Finding → ℕ
found_number (node k m) = node_number k m
found_number none = 4294967295
found_number (f.refused r p) = refusal_number r p

-- how nodes are looked up: 0 is the scan, any other number the index
abbrev pub by_number : ℕ → By
by_number k = pick (eqb k 0) scan indexed

-- how what counts as known is told: 0 is by the fingerprint, every other number keeps clashing nodes
abbrev pub mode_number : ℕ → Mode
mode_number mode = pick (eqb mode 0) by_print keeping

-- a fill: 0, or the number of the refusal
abbrev pub fill_number : FillReply → ℕ
fill_number filled = 0
fill_number (not_filled r p) = r
