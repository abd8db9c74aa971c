-- What one candidate leaves in the arrays: the contract of `append`. f, u, c are the arrays of fingerprints, parents
-- and codes and i the part of the index before a call, f', u', c', i' after it. Assumes nothing.
use Rattle.std.specs.Prelude.{◌≡◌, true, false, List, ℕ, suc}
use Rattle.exact.specs.Matrix.{Exact}
use Rattle.exact.proofs.Words.{Equal}
use Rattle.exact.specs.Fingerprint.{fingerprint}
use Rattle.walk.specs.Walk.{list_at, prod, pruned, candidate, try}
use Rattle.walk.specs.Modes.{Mode}
use Rattle.walk.specs.Index.{By}
use Rattle.walk.proofs.Laws.{fits_by}
use Rattle.synthesis_arena.specs.declared.WidthLimits.{WidthLimits}
use Rattle.width_arrays.specs.Arrays.{rules, unsaturated, Live, After}
use Rattle.width_arrays.specs.declared.Tried.{Tried}

-- The gate g after the node is neither skipped by its last two gates nor too large, its product is x and has the
-- fingerprint y. Then from whatever nodes the arrays held, they hold those that the walk's `try` leaves in the mode
-- (SPECIFICATION 6.7, 6.8, 6.16), and the answer is their count and whether the width is saturated
abbrev pub Appended : Mode → By → WidthLimits → ℕ → ℕ → ℕ → ℕ → Exact → List ℕ → List ℕ → List ℕ → List ℕ → List ℕ → List ℕ → List ℕ → List ℕ → Tried → Type 0
Appended mode by lim count node g y x f u c i f' u' c' i' r =
    (h : Live mode by lim f u c i count node (suc node))
    → pruned (rules mode lim) g (list_at h.ns node) ≡ false
    → fits_by lim.width g (prod (rules mode lim) (list_at h.ns node)) ≡ true
    → y ≡ fingerprint lim.width (candidate (rules mode lim) h.ns node g)
    → Equal lim.width x (candidate (rules mode lim) h.ns node g)
    → After by lim h.f0 h.u0 h.c0 h.i0 (try (rules mode lim) lim.entries (unsaturated h.ns) node g) f' u' c' i' r.count r.saturated
