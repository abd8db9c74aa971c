-- What the depths of a width leave in the three arrays and the part of the index: the contract of `deepen_all`, and
-- what a whole width leaves. f, u, c are the arrays of fingerprints, parents and codes and i the part before a call,
-- f', u', c', i' after it. Assumes nothing.
use Rattle.std.specs.Prelude.{◌≡◌, List, [], ◌∷◌, ℕ, ◌<◌}
use Rattle.walk.specs.Walk.{Build, root, begin, depths}
use Rattle.walk.specs.Modes.{Mode}
use Rattle.walk.specs.Index.{By}
use Rattle.synthesis_arena.specs.declared.WidthLimits.{WidthLimits}
use Rattle.width_arrays.specs.Arrays.{rules, Columns, Long}
use Rattle.width_record.specs.declared.WidthTable.{WidthTable}

-- node 0 alone is in the arrays
pub record Start (by : By) (lim : WidthLimits) (f u c i : List ℕ) : Type 0 where
  pub f0 : List ℕ
  pub u0 : List ℕ
  pub c0 : List ℕ
  pub i0 : List ℕ
  pub columns : Columns by lim f0 u0 c0 i0 (root ∷ []) f u c i 1
  pub some : 0 < lim.entries
  pub long : Long by lim f0 u0 c0 i0

-- the arrays hold the nodes of the width b over what they held, and the answer is their count, the completed depth and
-- whether the width is saturated (SPECIFICATION 6.9 to 6.11)
pub record Whole (by : By) (lim : WidthLimits) (b : Build) (f0 u0 c0 i0 f u c i : List ℕ) (r : WidthTable) : Type 0 where
  pub columns : Columns by lim f0 u0 c0 i0 b.nodes f u c i r.count
  pub depth_is : r.depth ≡ b.depth
  pub full_is : r.saturated ≡ b.saturated

-- where the arrays held node 0 alone, they hold what the walk's depths 1 to G leave
abbrev pub Deepened : Mode → By → WidthLimits → List ℕ → List ℕ → List ℕ → List ℕ → List ℕ → List ℕ → List ℕ → List ℕ → WidthTable → Type 0
Deepened mode by lim f u c i f' u' c' i' r =
    (h : Start by lim f u c i) → Whole by lim (depths (rules mode lim) lim.entries begin lim.gates) h.f0 h.u0 h.c0 h.i0 f' u' c' i' r
