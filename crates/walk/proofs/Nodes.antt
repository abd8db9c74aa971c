-- What holds of nodes however they have grown: node 0, parents, lists, depths, and that no node counts as known by an
-- earlier one. Assumes nothing.
use mathlib.Core.Path.{◌≡◌, refl, sym, ap, ◌∙◌, subst}
use mathlib.Core.Bool.{true, false}
use mathlib.Core.List.{List, [], ◌∷◌, ◌++◌}
use Prim.Native.Nat.{ℕ, zero, suc, ◌≤◌, ◌<◌}
use native.Mathlib.Nat.{le_refl}
use native.Mathlib.Omega.{arith}
use lib.ListN.{length, get_or}
use Rattle.ints.proofs.Bools.{and_both}
use Rattle.walk.specs.Walk.{Rules, Node, root, list_at, prod, pruned, knows, child}
use Rattle.walk.proofs.Grown.{parent_at}
use Rattle.walk.proofs.Laws.{Over}
use Rattle.walk.proofs.Grown.{Prefix, Grown, alone, more, Link}
use Rattle.walk.proofs.Nodewise.{steps_fit}
use Rattle.walk.proofs.Sequences.{any_false, length_snoc, all_snoc, prefix_snoc, prefix_at}
use Rattle.walk.proofs.Candidates.{skipped_not}

module _ (R : Rules) where
  -- node 0 is the empty list
  pub first : {ns : List Node} → Grown R ns → (0 < length ns) × (get_or ns 0 root ≡ root)
  first alone = (omega arith, refl)
  first (more {ns} k g b l u m s) =
      let i = first b in
      (omega (arith, i.0, length_snoc ns (child R ns k g)), prefix_at (prefix_snoc ns (child R ns k g)) 0 root i.0 ∙ i.1)

  -- every list is of generators, and each of its steps fits
  pub over : {ns : List Node} → Grown R ns → (k : ℕ) → k < length ns → Over R (list_at ns k)
  over alone = λ k l. let e : k ≡ 0 = omega arith in rw e tt
  over (more {ns} k g b l u m s) = all_snoc ns (child R ns k g) root (λ i n. Over R n.list) (over b) (m, over b k l)

  pub fit : {ns : List Node} → Grown R ns → (k : ℕ) → k < length ns → steps_fit R (list_at ns k) ≡ true
  fit alone = λ k l. let e : k ≡ 0 = omega arith in rw e refl
  fit (more {ns} k g b l u m s) =
      all_snoc ns (child R ns k g) root (λ i n. steps_fit R n.list ≡ true) (fit b)
      (and_both (steps_fit R (list_at ns k)) (R.fits g (prod R (list_at ns k))) (fit b k l) (skipped_not R ns k g s).1)

  -- each node but the first and its parent
  link_prefix : {ns ms : List Node} {k : ℕ} {n : Node} → Prefix ns ms → k ≤ length ns → Link R ns k n → Link R ms k n
  link_prefix {ns} {ms} {k} {n} x l r =
      let e : list_at ms n.parent ≡ list_at ns n.parent = ap (λ (z : Node). z.list) (prefix_at x n.parent root (omega (arith, r.below))) in
      record {
        below = r.below;
        code = r.code;
        generator = r.generator;
        is = r.is ∙ ap (λ (z : List ℕ). r.code ∷ z) (sym e);
        kept = subst (λ (z : List ℕ). pruned R r.code z ≡ false) (sym e) r.kept;
        fit = subst (λ (z : List ℕ). R.fits r.code (prod R z) ≡ true) (sym e) r.fit;
      }

  pub link : {ns : List Node} → Grown R ns → (k : ℕ) → k < length ns → 0 < k → Link R ns k (get_or ns k root)
  link alone = λ k l p. absurd (omega arith)
  link (more {ns} k g b l u m s) =
      let c : Node = child R ns k g in
      let x : Prefix ns (ns ++ (c ∷ [])) = prefix_snoc ns c in
      let f = skipped_not R ns k g s in
      all_snoc ns c root (λ i n. 0 < i → Link R (ns ++ (c ∷ [])) i n) (λ i q p. link_prefix x (omega arith) (link b i q p))
      (λ p. link_prefix x (le_refl (length ns)) (record { below = l; code = g; generator = m; is = refl; kept = f.0; fit = f.1 }))

  -- parents never fall
  pub parents_rise : {ns : List Node} → Grown R ns → (k : ℕ) → k < length ns → (j : ℕ) → 0 < j → j ≤ k → parent_at ns j ≤ parent_at ns k
  parents_rise alone = λ k l j p q. absurd (omega arith)
  parents_rise (more {ns} k g b l u m s) =
      let c : Node = child R ns k g in
      let x : Prefix ns (ns ++ (c ∷ [])) = prefix_snoc ns c in
      all_snoc ns c root (λ i n. (j : ℕ) → 0 < j → j ≤ i → parent_at (ns ++ (c ∷ [])) j ≤ n.parent)
      (λ i q j p r. subst (λ (z : Node). z.parent ≤ parent_at ns i) (sym (prefix_at x j root (omega arith))) (parents_rise b i q j p r))
      (λ j p r. all_snoc ns c root (λ i n. 0 < i → n.parent ≤ k) u (λ t. le_refl k) j (omega (arith, length_snoc ns c)) p)

  -- no node counts as known by an earlier one
  pub fresh : {ns : List Node} → Grown R ns → (k : ℕ) → k < length ns → (j : ℕ) → j < k → knows R (prod R (list_at ns k)) (get_or ns j root) ≡ false
  fresh alone = λ k l j p. absurd (omega arith)
  fresh (more {ns} k g b l u m s) =
      let c : Node = child R ns k g in
      let x : Prefix ns (ns ++ (c ∷ [])) = prefix_snoc ns c in
      all_snoc ns c root (λ i n. (j : ℕ) → j < i → knows R (prod R n.list) (get_or (ns ++ (c ∷ [])) j root) ≡ false)
      (λ i q j p. ap (knows R (prod R (list_at ns i))) (prefix_at x j root (omega arith)) ∙ fresh b i q j p)
      (λ j p. ap (knows R (prod R c.list)) (prefix_at x j root p) ∙ any_false (knows R (prod R c.list)) root ns (skipped_not R ns k g s).2 j p)

  -- a node is one deeper than its parent; depths never fall along the nodes, and rise by at most one
  pub depth_parent : {ns : List Node} → Grown R ns → (k : ℕ) → k < length ns → 0 < k → length (list_at ns k) ≡ suc (length (list_at ns (parent_at ns k)))
  depth_parent b k l p = ap length (link b k l p).is

  depths_to : {ns : List Node} → Grown R ns → (f j k : ℕ) → k < f → j ≤ k → k < length ns → length (list_at ns j) ≤ length (list_at ns k)
  depths_to b zero j k a p l = absurd (omega arith)
  depths_to {ns} b (suc f) zero k a p l = omega (arith, ap (λ (n : Node). length n.list) (first b).1)
  depths_to {ns} b (suc f) (suc j) k a p l =
      let low = (link b k l (omega arith)).below in
      omega (
        arith,
        depth_parent b (suc j) (omega arith) (omega arith),
        depth_parent b k l (omega arith),
        depths_to b f (parent_at ns (suc j)) (parent_at ns k) (omega arith) (parents_rise b k l (suc j) (omega arith) p) (omega arith),
      )

  pub depths_rise : {ns : List Node} → Grown R ns → (j k : ℕ) → j ≤ k → k < length ns → length (list_at ns j) ≤ length (list_at ns k)
  depths_rise b j k p l = depths_to b (suc k) j k (omega arith) p l

  pub depths_step : {ns : List Node} → Grown R ns → (k : ℕ) → suc k < length ns → length (list_at ns (suc k)) ≤ suc (length (list_at ns k))
  depths_step {ns} b k l =
      let low = (link b (suc k) l (omega arith)).below in
      omega (arith, depth_parent b (suc k) l (omega arith), depths_rise b (parent_at ns (suc k)) k (omega arith) (omega arith))
