-- `fill_widths` meets its contract: the parts of widths 1 to v are filled, for v from 0 to Q. Assumes nothing.
use Prim.Native.Nat.{ℕ}
use mathlib.Core.List.{List}
use Rattle.walk.specs.Index.{indexed, kept}
use Rattle.tables.specs.Tables.{Table, count_at, part_of}
use Rattle.murm_config.specs.Told.{told_murm}
use Rattle.murm_widths.proofs.Widths.{Done}
use Rattle.murm_widths.proofs.fill_widths.Given as goal

-- what is done to the part of a width
abbrev pub places : Table → List ℕ → ℕ → List ℕ → List ℕ
places t prints w = kept indexed (part_of w t.limits.entries prints) (count_at t w)

abbrev pub invariant-loop-v : goal.invariant-loop-v
invariant-loop-v l = Done (places (told_murm l.table) l.fingerprints) l.size l.v l.initial.index l.index
