-- A node's list, read from the arrays: its chain is good, its steps fit, and its matrix is the walk's. Assumes nothing.
use mathlib.Core.Path.{◌≡◌, refl, sym, ap, ◌∙◌, subst}
use mathlib.Core.List.{List, reverse}
use Prim.Native.Nat.{ℕ, suc, ◌≤◌, ◌<◌}
use native.Mathlib.Omega.{arith}
use lib.IntN.{ℤ}
use Rattle.exact.specs.Matrix.{Exact}
use Rattle.exact.proofs.Words.{Equal}
use Rattle.exact.specs.Lists.{product}
use Rattle.exact.specs.Places.{held}
use Rattle.exact.proofs.Listed.{product_lowest}
use Rattle.exact.proofs.Values.{equal_sym}
use Rattle.exact.proofs.Keeps.{equal_lowest}
use Rattle.places.specs.Held.{Holds, Ready}
use Rattle.walk.specs.Modes.{Mode}
use Rattle.walk.specs.Index.{By}
use Rattle.walk.specs.Walk.{list_at, prod}
use Rattle.walk.specs.AtWidth.{at_width}
use Rattle.walk.proofs.Nodes.{fit}
use Rattle.walk.proofs.Exactly.{product_is}
use Rattle.walk.proofs.Held.{chain_is}
use Rattle.walk.proofs.Rechecks.{steps_fit_lem}
use Rattle.synthesis_arena.specs.declared.WidthLimits.{WidthLimits}
use Rattle.node_matrix.specs.Matrices.{Readable, Formed}
use Rattle.width_arrays.specs.Arrays.{rules, Live}
use Rattle.width_arrays.proofs.Live.{live_count, live_long, live_holds}
use Rattle.tried_gates.specs.Tries.{NodeFormed}

module _ {mode : Mode} {by : By} {lim : WidthLimits} (small : lim.width ≤ 5) (limited : lim.gates ≤ 64) where
  module _ {f u c i : List ℕ} {count k top : ℕ} (h : Live mode by lim f u c i count k top) where
    abbrev pub live_readable : k < count → k < top → Readable lim u c k
    live_readable l t = record {
      list = reverse (list_at h.ns k);
      chain = chain_is mode lim.width lim.basis small h.grown (record { parents = (live_holds h).parents; codes = (live_holds h).codes }) 64 k
          (omega (arith, h.columns.count_is)) (omega (arith, h.flat k t, h.deep));
      all_fit_lem = steps_fit_lem lim.width mode lim.basis small (list_at h.ns k) (fit (rules mode lim) h.grown k (omega (arith, h.columns.count_is)));
      in_u = omega (arith, (live_long h).in_u, live_count h);
      in_c = omega (arith, (live_long h).in_c, live_count h);
    }

-- a matrix formed from a list is ready for a gate, and is the walk's
module _ (n : ℕ) {k : ℕ} {m : List ℤ} (l : List ℕ) (w : Holds n k m (product n (reverse l))) where
  pub formed_ready : Ready n k m
  formed_ready = record { long = w.long; small = w.small; lowest = equal_lowest n (equal_sym n w.equal) (product_lowest n (reverse l)) }

  pub formed_is : (mode : Mode) (basis : ℕ) → n ≤ 5 → {p : List ℕ} → p ≡ l → Equal n (held n k m) (prod (at_width mode n basis) p)
  formed_is mode basis small e =
      subst (λ (x : Exact). Equal n (held n k m) x) (product_is mode n basis small l ∙ ap (prod (at_width mode n basis)) (sym e)) w.equal

-- so the places hold the node's matrix
abbrev pub node_formed : {mode : Mode} {by : By} {lim : WidthLimits} {count node k : ℕ} {f u c i : List ℕ} {m : List ℤ} → lim.width ≤ 5 → lim.gates ≤ 64
    → (h : Live mode by lim f u c i count node (suc node)) → node < count → Formed lim u c node k m → NodeFormed mode by lim count node k f u c i m
node_formed {mode} {by} {lim} {count} {node} {k} {f} {u} {c} {i} {m} small limited h l w =
    let x = w (live_readable small limited h l (omega arith)) in record {
      live = h;
      ready = formed_ready lim.width (list_at h.ns node) x;
      equal = formed_is lim.width (list_at h.ns node) x mode lim.basis small refl;
    }
