-- What the gates that are left after a node leave in the three arrays and the part of the index: the contract of
-- `try_gates`. f, u, c are the arrays of fingerprints, parents and codes and i the part before a call, f', u', c', i'
-- after it. Assumes nothing.
use Rattle.std.specs.Prelude.{Bool, ◌||◌, List, ℕ, suc, ℤ}
use Rattle.generators.specs.Generators.{generators}
use Rattle.exact.specs.Matrix.{Exact}
use Rattle.exact.specs.Places.{held}
use Rattle.exact.proofs.Words.{Equal}
use Rattle.places.specs.Held.{Ready}
use Rattle.walk.specs.Modes.{Mode}
use Rattle.walk.specs.Index.{By}
use Rattle.walk.specs.Walk.{list_at, prod, try_all}
use Rattle.synthesis_arena.specs.declared.WidthLimits.{WidthLimits}
use Rattle.skip_rules.specs.Skips.{pruned_at}
use Rattle.fitting_gates.specs.Fitting.{unfit}
use Rattle.width_arrays.specs.Arrays.{rules, unsaturated, Live, After}
use Rattle.width_arrays.specs.declared.Tried.{Tried}

-- the gate g after the node, whose matrix is x, is left out: by the two skip rules, or because its step does not fit
abbrev pub left_out : WidthLimits → ℕ → List ℕ → Exact → ℕ → Bool
left_out lim node c x g = pruned_at c node g || unfit lim.width x g

-- the places hold the node's matrix
pub record NodeFormed (mode : Mode) (by : By) (lim : WidthLimits) (count node k : ℕ) (f u c i : List ℕ) (m : List ℤ) : Type 0 where
  pub live : Live mode by lim f u c i count node (suc node)
  pub ready : Ready lim.width k m
  pub equal : Equal lim.width (held lim.width k m) (prod (rules mode lim) (list_at live.ns node))

-- from whatever nodes the arrays held, they hold those that the walk's `try_all` leaves after every generator
-- (SPECIFICATION 6.5 to 6.8), and the answer is their count and whether the width is saturated; where the node's matrix
-- is formed
abbrev pub GatesTried : Mode → By → WidthLimits → ℕ → ℕ → ℕ → List ℤ → List ℕ → List ℕ → List ℕ → List ℕ → List ℕ → List ℕ → List ℕ → List ℕ → Tried → Type 0
GatesTried mode by lim count node k m f u c i f' u' c' i' r =
    (w : NodeFormed mode by lim count node k f u c i m)
    → After by lim w.live.f0 w.live.u0 w.live.c0 w.live.i0
    (try_all (rules mode lim) lim.entries (unsaturated w.live.ns) node (generators lim.width lim.basis)) f' u' c' i' r.count r.saturated
