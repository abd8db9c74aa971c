-- What one node more leaves in the arrays: the contracts of `put_root` and `put_node`. f, u, c are the arrays of
-- fingerprints, parents and codes and i the part of the index before a call, f', u', c', i' after it. Assumes nothing.
use Rattle.std.specs.Prelude.{◌≡◌, false, List, [], ◌∷◌, ℕ, suc}
use Rattle.exact.specs.Matrix.{identity}
use Rattle.exact.specs.Fingerprint.{fingerprint}
use Rattle.walk.specs.Walk.{root, candidate, skipped, try}
use Rattle.walk.specs.Modes.{Mode}
use Rattle.walk.specs.Index.{By}
use Rattle.synthesis_arena.specs.declared.WidthLimits.{WidthLimits}
use Rattle.width_arrays.specs.Arrays.{rules, Columns, unsaturated, Live, After}
use Rattle.width_arrays.specs.declared.Tried.{Tried}

-- node 0 alone is in the arrays, at whatever limits whose width gives the identity the fingerprint y (SPECIFICATION
-- 6.3)
abbrev pub RootPut : By → ℕ → List ℕ → List ℕ → List ℕ → List ℕ → List ℕ → List ℕ → List ℕ → List ℕ → Type 0
RootPut by y f u c i f' u' c' i' = (lim : WidthLimits) → y ≡ fingerprint lim.width identity → Columns by lim f u c i (root ∷ []) f' u' c' i' 1

-- The gate g after the node is not skipped, in whichever mode, and its product has the fingerprint y. Then from
-- whatever nodes the arrays held, they hold those that the walk's `try` leaves (SPECIFICATION 6.8), and the answer is
-- their count and whether the width is saturated
abbrev pub NodePut : By → WidthLimits → ℕ → ℕ → ℕ → ℕ → List ℕ → List ℕ → List ℕ → List ℕ → List ℕ → List ℕ → List ℕ → List ℕ → Tried → Type 0
NodePut by lim count node g y f u c i f' u' c' i' r =
    (mode : Mode) (h : Live mode by lim f u c i count node (suc node))
    → y ≡ fingerprint lim.width (candidate (rules mode lim) h.ns node g)
    → skipped (rules mode lim) h.ns node g ≡ false
    → After by lim h.f0 h.u0 h.c0 h.i0 (try (rules mode lim) lim.entries (unsaturated h.ns) node g) f' u' c' i' r.count r.saturated
