-- `build_widths` meets its contract: widths 1 to v are built, for v from 0 to Q. Assumes nothing.
use Prim.Native.Nat.{ℕ}
use mathlib.Core.Path.{◌≡◌}
use mathlib.Core.List.{List}
use lib.ListN.{length}
use Rattle.ints.specs.Lists.{over}
use Rattle.walk.specs.Modes.{Mode}
use Rattle.walk.specs.Index.{By, kept}
use Rattle.tables.specs.Tables.{walk_of, prints_of, parents_of, codes_of}
use Rattle.tables.specs.Checks.{Limits}
use Rattle.index.specs.Told.{told_by}
use Rattle.known.specs.Known.{told_mode}
use Rattle.murm_config.specs.Told.{told_config, told_murm}
use Rattle.murm_widths.proofs.Widths.{record_to, Done}
use Rattle.murm_widths.proofs.build_widths.Given as goal

-- what is done to the part of a width, in each array and in the index
module _ (mode : Mode) (l : Limits) where
  abbrev pub prints : ℕ → List ℕ → List ℕ
  prints w = over (prints_of mode l w)

  abbrev pub parents : ℕ → List ℕ → List ℕ
  parents w = over (parents_of mode l w)

  abbrev pub codes : ℕ → List ℕ → List ℕ
  codes w = over (codes_of mode l w)

  abbrev pub places : By → ℕ → List ℕ → List ℕ
  places by w = kept by (prints_of mode l w) (length (walk_of mode l w).nodes)

abbrev pub invariant-loop-v : goal.invariant-loop-v
invariant-loop-v l =
    (told_murm l.table ≡ record_to (told_mode l.mode) (told_config l.config) l.v) × Done (prints (told_mode l.mode) (told_config l.config)) l.config.max_entries_per_qubit l.v l.initial.fingerprints l.fingerprints
    × Done (parents (told_mode l.mode) (told_config l.config)) l.config.max_entries_per_qubit l.v l.initial.parents l.parents × Done (codes (told_mode l.mode) (told_config l.config)) l.config.max_entries_per_qubit l.v l.initial.codes l.codes
    × Done (places (told_mode l.mode) (told_config l.config) (told_by l.by)) l.size l.v l.initial.index l.index
