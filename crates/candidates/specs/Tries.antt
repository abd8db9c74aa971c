-- What the candidates of a node leave in the three arrays and the part of the index: the contract of `try_node`. f, u,
-- c are the arrays of fingerprints, parents and codes and i the part before a call, f', u', c', i' after it. Assumes
-- nothing.
use Rattle.std.specs.Prelude.{◌≡◌, List, ℕ, suc, ℤ, length}
use Rattle.generators.specs.Generators.{generators}
use Rattle.places.specs.Places.{places}
use Rattle.walk.specs.Modes.{Mode}
use Rattle.walk.specs.Index.{By}
use Rattle.walk.specs.Walk.{try_all}
use Rattle.synthesis_arena.specs.declared.WidthLimits.{WidthLimits}
use Rattle.width_arrays.specs.Arrays.{rules, unsaturated, Live, After}
use Rattle.width_arrays.specs.declared.Tried.{Tried}

-- every generator was tried after the node, in order: from whatever nodes the arrays held, they hold those that the
-- walk's `try_all` leaves
abbrev pub NodeTried : Mode → By → WidthLimits → ℕ → ℕ → List ℕ → List ℕ → List ℕ → List ℕ → List ℕ → List ℕ → List ℕ → List ℕ → Tried → Type 0
NodeTried mode by lim count node f u c i f' u' c' i' r =
    (h : Live mode by lim f u c i count node (suc node))
    → After by lim h.f0 h.u0 h.c0 h.i0
    (try_all (rules mode lim) lim.entries (unsaturated h.ns) node (generators lim.width lim.basis)) f' u' c' i' r.count r.saturated

-- the places that are lent to form matrices: a node's, and two candidates' or those of a recheck
pub record Lent (m l r : List ℤ) : Type 0 where
  pub node : length m ≡ places
  pub left : length l ≡ places
  pub right : length r ≡ places
