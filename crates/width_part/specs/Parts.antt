-- What the build of one width's part leaves: the contract of `build_part`. Assumes nothing.
use Rattle.std.specs.Prelude.{◌≡◌, List, ℕ, ◌+◌, ◌*◌, ◌≤◌, length}
use Rattle.ints.specs.Lists.{over}
use Rattle.walk.specs.Modes.{Mode}
use Rattle.walk.specs.Index.{By, kept}
use Rattle.width_record.specs.declared.WidthTable.{WidthTable}
use Rattle.tables.specs.Checks.{Limits}
use Rattle.tables.specs.Tables.{walk_of, width_of, prints_of, parents_of, codes_of, within}
use Rattle.murm_config.specs.Told.{told_width}

-- an array has the E places of width v + 1
abbrev pub HasPart : Limits → ℕ → List ℕ → Type 0
HasPart l v xs = v * l.entries + l.entries ≤ length xs

-- The row r is that of width v + 1, and each array holds the width's column in the E places from v × E on; its other
-- places keep what they held (SPECIFICATION 6.2, 6.11); and so it is with the width's `size` places of the index, which
-- go with its nodes (7.14). f, u, c are the arrays of fingerprints, parents and codes and i the index before, f', u',
-- c', i' after
pub record PartBuilt (mode : Mode) (by : By) (l : Limits) (v size : ℕ) (f u c i f' u' c' i' : List ℕ) (r : WidthTable) : Type 0 where
  pub row : told_width r ≡ width_of (walk_of mode l (v + 1))
  pub prints : f' ≡ within (v * l.entries) l.entries (over (prints_of mode l (v + 1))) f
  pub parents : u' ≡ within (v * l.entries) l.entries (over (parents_of mode l (v + 1))) u
  pub codes : c' ≡ within (v * l.entries) l.entries (over (codes_of mode l (v + 1))) c
  pub index : i' ≡ within (v * size) size
      (kept by (prints_of mode l (v + 1)) (length (walk_of mode l (v + 1)).nodes)) i
