-- What one depth of a width leaves in the three arrays and the part of the index: the contract of `deepen`. f, u, c are
-- the arrays of fingerprints, parents and codes and i the part before a call, f', u', c', i' after it. Assumes nothing.
use Rattle.std.specs.Prelude.{List, ℕ, ◌-◌}
use Rattle.walk.specs.Walk.{layer}
use Rattle.walk.specs.Modes.{Mode}
use Rattle.walk.specs.Index.{By}
use Rattle.synthesis_arena.specs.declared.WidthLimits.{WidthLimits}
use Rattle.width_arrays.specs.Arrays.{rules, unsaturated, Live, After}
use Rattle.width_arrays.specs.declared.Tried.{Tried}

-- the nodes from first up to the count were tried, in order: from whatever nodes the arrays held, they hold those that
-- the walk's `layer` leaves
abbrev pub LayerTried : Mode → By → WidthLimits → ℕ → ℕ → List ℕ → List ℕ → List ℕ → List ℕ → List ℕ → List ℕ → List ℕ → List ℕ → Tried → Type 0
LayerTried mode by lim first count f u c i f' u' c' i' r =
    (h : Live mode by lim f u c i count first count)
    → After by lim h.f0 h.u0 h.c0 h.i0 (layer (rules mode lim) lim.entries (unsaturated h.ns) first (count - first)) f' u' c' i' r.count r.saturated
