-- Where hypothesis K comes from: from `NoClash` (SPECIFICATION 8.14); or clashing nodes are kept, and then K holds with
-- no condition. Assumes nothing.
use mathlib.Core.Path.{◌≡◌}
use mathlib.Core.Bool.{true}
use mathlib.Core.List.{List, ◌∷◌}
use Prim.Native.Nat.{ℕ, ◌≤◌, ◌<◌}
use native.Mathlib.Omega.{arith}
use lib.ListN.{length}
use Rattle.ints.proofs.Bools.{and_right, and_both}
use Rattle.walk.specs.Walk.{Rules, Node, root, list_at, prod, knows, candidate}
use Rattle.walk.proofs.Grown.{Grown}
use Rattle.walk.proofs.Laws.{Laws, NoClash}
use Rattle.walk.specs.Known.{KnownIsPresent}
use Rattle.walk.specs.Modes.{Mode, by_print, keeping, known_in, in_mode}
use Rattle.walk.proofs.Sequences.{any_true}
use Rattle.walk.proofs.Nodes.{over}

module _ (R : Rules) (Same : R.Mat → R.Mat → Type 0) where
  pub present_no_clash : (G : ℕ) → NoClash R Same G → (ns : List Node) → Grown R ns → ((k : ℕ) → k < length ns → length (list_at ns k) ≤ G)
      → (d : ℕ) → d ≤ G → KnownIsPresent R Same d ns
  present_no_clash G nc ns b h d le k g l m s p f a =
      let r = any_true (knows R (candidate R ns k g)) root ns a in
      (r.0, r.1, nc (list_at ns r.0) (g ∷ list_at ns k) (over R b r.0 r.1) (m, over R b k l) (h r.0 r.1) (omega arith) r.2)

-- ---- a mode meets the laws that its rules meet

module _ (R : Rules) (Same : R.Mat → R.Mat → Type 0) (W : Laws R Same) where
  -- what answers is the same in every mode, and what is known where clashing nodes are kept
  pub answers_same : (mode : Mode) (x y : R.Mat) → (in_mode mode R).answers x y ≡ true → Same x y
  answers_same mode x y e = W.equal_same x y (and_right (R.answers x y) (R.equal x y) e)

  known_same : (x y : R.Mat) → known_in keeping R x y ≡ true → Same x y
  known_same x y e = W.equal_same x y (and_right (R.known x y) (R.equal x y) e)

  pub same_known_in : (mode : Mode) (x y : R.Mat) → W.Lowest x → W.Lowest y → Same x y → known_in mode R x y ≡ true
  same_known_in by_print x y l m s = W.same_known l m s
  same_known_in keeping x y l m s = and_both (R.known x y) (R.equal x y) (W.same_known l m s) (W.same_equal l m s)

  pub known_then_in : (mode : Mode) (x y z : R.Mat) → W.Lowest x → W.Lowest y → W.Lowest z → known_in mode R x y ≡ true → Same y z
      → known_in mode R x z ≡ true
  known_then_in by_print x y z l m o e s = W.known_then l m o e s
  known_then_in keeping x y z l m o e s = same_known_in keeping x z l o (W.same_trans (known_same x y e) s)

  unfoldable pub laws_in : (mode : Mode) → Laws (in_mode mode R) Same
  laws_in mode = record {
    Lowest = W.Lowest;
    one_lowest = W.one_lowest;
    act_lowest = W.act_lowest;
    same_refl = W.same_refl;
    same_sym = λ s. W.same_sym s;
    same_trans = λ s t. W.same_trans s t;
    act_same = λ g s. W.act_same g s;
    inverse_undoes = W.inverse_undoes;
    disjoint_swaps = W.disjoint_swaps;
    same_known = λ {x} {y} l m s. same_known_in mode x y l m s;
    known_then = λ {x} {y} {z} l m o e s. known_then_in mode x y z l m o e s;
    same_answers = λ {x} {y} l m s. and_both (R.answers x y) (R.equal x y) (W.same_answers l m s) (W.same_equal l m s);
    answers_known = λ {x} {y} {z} l m o e s. same_known_in mode x y l m (W.same_trans (answers_same mode x z e) (W.same_sym s));
    equal_same = W.equal_same;
    same_equal = λ l m s. W.same_equal l m s;
    bound = W.bound;
    below = W.below;
  }

  -- where clashing nodes are kept, what was skipped as known has a node present: no condition
  pub present_keeping : (ns : List Node) (d : ℕ) → KnownIsPresent (in_mode keeping R) Same d ns
  present_keeping ns d k g l m s p f a =
      let c : R.Mat = candidate (in_mode keeping R) ns k g in
      let r = any_true (knows (in_mode keeping R) c) root ns a in
      (r.0, r.1, known_same (prod (in_mode keeping R) (list_at ns r.0)) c r.2)
