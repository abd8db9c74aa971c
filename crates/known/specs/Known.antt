-- When a candidate is known in one width's part, by its fingerprint y and its matrix x (SPECIFICATION 6.7, 6.16).
-- Assumes nothing.
use Rattle.std.specs.Prelude.{Bool, true, false, ℕ}
use Rattle.exact.specs.Matrix.{Exact}
use Rattle.walk.specs.Lookup.{Lookup, found, none}
use Rattle.walk.specs.Modes.{Mode, by_print, keeping}
use Rattle.walk.specs.Finds.{WidthLimits, Part, looked_in, find_by, is_node}
use Rattle.known.specs.declared.BuildMode.{BuildMode}
use Rattle.known.specs.declared.BuildMode.TheVariants.{ByPrint, Keeping}

abbrev pub told_mode : BuildMode → Mode
told_mode ByPrint = by_print
told_mode Keeping = keeping

-- a node is found
abbrev pub is_found : Lookup → Bool
is_found (found k) = true
is_found none = false

-- byPrint: the fingerprint leads to a node; keeping: a node is found for the matrix
abbrev pub is_known : Mode → WidthLimits → Part → ℕ → Exact → Bool
is_known by_print limits part y x = is_found (looked_in part 0 y)
is_known keeping limits part y x = is_node (find_by limits part y x)
