-- What a width answers: a list with the product asked, for any nodes whatever; the same list for more nodes; the
-- shortest list; and what none says. Assumes nothing.
use mathlib.Core.Path.{◌≡◌, refl, sym, ap, ◌∙◌, subst}
use mathlib.Core.Logic.{⊎_elim, ◌↔◌}
use mathlib.Core.Bool.{Bool, true, false}
use mathlib.Core.List.{List, [], ◌∷◌, ◌++◌}
use mathlib.Core.Option.{Option, none, some}
use Prim.Native.Nat.{ℕ, zero, suc, ◌≤◌, ◌<◌}
use native.Mathlib.Nat.{not-suc-le-zero, le_of_suc-le-suc}
use native.Mathlib.Omega.{arith}
use borrow.Author.Tests.{ltb-true, lt-ltb}
use lib.Dec.{ltb}
use lib.ListN.{length, get_or}
use Rattle.ints.proofs.Bools.{clash, and_right, and_both}
use Rattle.exact.proofs.Values.{pick_ind}
use Rattle.walk.specs.Walk.{Rules, Node, Build, root, list_at, prod}
use Rattle.walk.proofs.Nodewise.{lowest, steps_fit, recheck, answer_by, answers_to, answer}
use Rattle.walk.proofs.Grown.{Prefix, Grown, Layered}
use Rattle.walk.proofs.Laws.{Laws, Over, HasAll}
use Rattle.walk.proofs.Sequences.{bool, lt_or, prefix_at, prefix_length}
use Rattle.walk.proofs.Nodes.{over, fit, fresh, depths_rise}
use Rattle.walk.proofs.Completeness.{prod_lowest}

-- ---- the lowest that passes a test

module _ {A : Type 0} (f : A → Bool) (d : A) where
  pub lowest_passes : (ns : List A) → lowest f ns < length ns → f (get_or ns (lowest f ns) d) ≡ true
  lowest_passes [] = λ h. absurd (not-suc-le-zero h)
  lowest_passes (n ∷ ns) =
      pick_ind (λ k. k < length (n ∷ ns) → f (get_or (n ∷ ns) k d) ≡ true) (f n) (λ e h. e) (λ e h. lowest_passes ns (le_of_suc-le-suc h))

  pub lowest_least : (ns : List A) (k : ℕ) → k < length ns → f (get_or ns k d) ≡ true → lowest f ns ≤ k
  lowest_least [] k h e = absurd (not-suc-le-zero h)
  lowest_least (n ∷ ns) zero h e = rw e (omega arith)
  lowest_least (n ∷ ns) (suc k) h e =
      pick_ind (λ i. i ≤ suc k) (f n) (λ q. omega arith) (λ q. omega (arith, lowest_least ns k (le_of_suc-le-suc h) e))

  -- where more nodes follow, the node found is the same
  pub lowest_prefix : {ns ms : List A} → Prefix ns ms → lowest f ns < length ns → lowest f ms ≡ lowest f ns
  lowest_prefix {ns} {ms} p h = subst (λ (z : List A). lowest f z ≡ lowest f ns) (sym p.is) (go ns h)
    where
      go : (ls : List A) → lowest f ls < length ls → lowest f (ls ++ p.rest) ≡ lowest f ls
      go [] q = absurd (not-suc-le-zero q)
      go (n ∷ ls) q =
          ⊎_elim (λ (e : f n ≡ true). rw e) (λ (e : f n ≡ false). rw e (ap suc (go ls (le_of_suc-le-suc (rw e at q))))) (bool (f n))

module _ (R : Rules) where
  -- ---- an answer is the list of the lowest node that passes the test, rechecked

  pub record Hit (test : Node → Bool) (ns : List Node) (x : R.Mat) (l : List ℕ) : Type 0 where
    pub at : ℕ
    pub first : at ≡ lowest test ns
    pub there : at < length ns
    pub list : l ≡ list_at ns at
    pub right : recheck R l x ≡ true

  pub answer_hit : (test : Node → Bool) (ns : List Node) (x : R.Mat) (l : List ℕ) → answer_by R test ns x ≡ some l → Hit test ns x l
  unfolding answer_by
  answer_hit test ns x l =
      let k : ℕ = lowest test ns in
      let P : Option (List ℕ) → Type 0 = λ o. o ≡ some l → Hit test ns x l in
      pick_ind P (ltb k (length ns))
      (λ a. pick_ind P (recheck R (list_at ns k) x)
      (λ b e. let q : l ≡ list_at ns k = cc in
      record { at = k; first = refl; there = ltb-true k (length ns) a; list = q; right = subst (λ (z : List ℕ). recheck R z x ≡ true) (sym q) b })
      (λ b e. let z : ◌≡◌ {A = ℕ} 0 1 = cc in absurd (omega arith)))
      (λ a e. let z : ◌≡◌ {A = ℕ} 0 1 = cc in absurd (omega arith))

  pub hit_answer : (test : Node → Bool) (ns : List Node) (x : R.Mat) (l : List ℕ) → Hit test ns x l → answer_by R test ns x ≡ some l
  unfolding answer_by
  hit_answer test ns x l h =
      let k : ℕ = lowest test ns in
      let q : list_at ns k ≡ l = ap (list_at ns) (sym h.first) ∙ sym h.list in
      rw (lt-ltb k (length ns) (subst (λ (i : ℕ). i < length ns) h.first h.there), q, h.right)

  -- where more nodes follow, the same list is answered
  pub answer_prefix : (test : Node → Bool) {ns ms : List Node} → Prefix ns ms → (x : R.Mat) (l : List ℕ)
      → answer_by R test ns x ≡ some l → answer_by R test ms x ≡ some l
  answer_prefix test {ns} {ms} p x l a =
      let h : Hit test ns x l = answer_hit test ns x l a in
      let q : lowest test ms ≡ lowest test ns = lowest_prefix test root p (subst (λ (i : ℕ). i < length ns) h.first h.there) in
      hit_answer test ms x l (record {
        at = h.at;
        first = h.first ∙ sym q;
        there = omega (arith, h.there, prefix_length p);
        list = h.list ∙ ap (λ (n : Node). n.list) (sym (prefix_at p h.at root h.there));
        right = h.right;
      })

  module _ (Same : R.Mat → R.Mat → Type 0) (W : Laws R Same) where
    -- a list that passes the recheck has the product
    pub recheck_product : (l : List ℕ) (x : R.Mat) → recheck R l x ≡ true → Same (prod R l) x
    unfolding recheck
    recheck_product l x e = W.equal_same (prod R l) x (and_right (steps_fit R l) (R.equal (prod R l) x) e)

    -- so has an answered list, whatever the nodes are, and whichever test found the node
    pub answer_product : (test : Node → Bool) (ns : List Node) (x : R.Mat) (l : List ℕ) → answer_by R test ns x ≡ some l → Same (prod R l) x
    answer_product test ns x l e = recheck_product l x (answer_hit test ns x l e).right

    module _ (x : R.Mat) (low : W.Lowest x) where
      -- a node's list passes the recheck for a matrix that is the same
      passes : {ns : List Node} → Grown R ns → (k : ℕ) → k < length ns → Same (prod R (list_at ns k)) x → recheck R (list_at ns k) x ≡ true
      unfolding recheck
      passes {ns} b k h s =
          and_both (steps_fit R (list_at ns k)) (R.equal (prod R (list_at ns k)) x) (fit R b k h) (W.same_equal (prod_lowest R Same W (list_at ns k)) low s)

      -- such a node is found: a lower one that answered would make it known
      pub found : {ns : List Node} → Grown R ns → (k : ℕ) → k < length ns → Same (prod R (list_at ns k)) x → answer R ns x ≡ some (list_at ns k)
      found {ns} b k h s =
          let i : ℕ = lowest (answers_to R x) ns in
          let own = prod_lowest R Same W (list_at ns k) in
          let le : i ≤ k = lowest_least (answers_to R x) root ns k h (W.same_answers own low s) in
          let hit : answers_to R x (get_or ns i root) ≡ true = lowest_passes (answers_to R x) root ns (omega arith) in
          let e : i ≡ k = ⊎_elim
          (λ (a : i < k). clash (W.answers_known (prod_lowest R Same W (list_at ns i)) own low hit s) (fresh R b k h i a))
          (λ (a : k ≤ i). omega arith) (lt_or i k) in
          hit_answer (answers_to R x) ns x (list_at ns k) (record { at = k; first = sym e; there = h; list = refl; right = passes b k h s })

      -- Shortest, among lists of any length: a shorter list would have a node less deep, hence lower, that answers too;
      -- but the answering node is the lowest
      pub shortest : (b : Build) → Layered R b → HasAll R Same b.depth b.nodes → (l : List ℕ) → answer R b.nodes x ≡ some l
          → (m : List ℕ) → Over R m → Same (prod R m) x → length l ≤ length m
      shortest b i cp l e m o s =
          let ns : List Node = b.nodes in
          let h : Hit (answers_to R x) ns x l = answer_hit (answers_to R x) ns x l e in
          let q : length l ≡ length (list_at ns h.at) = ap length h.list in
          ⊎_elim
          (λ (a : length m < length l).
          let r = cp m o (omega (arith, i.deep h.at h.there)) in
          let le : lowest (answers_to R x) ns ≤ r.0
          = lowest_least (answers_to R x) root ns r.0 r.1 (W.same_answers (prod_lowest R Same W (list_at ns r.0)) low (W.same_trans r.3 s)) in
          absurd (omega (arith, r.2, depths_rise R i.grown h.at r.0 (omega (arith, h.first)) r.1)))
          (λ (a : length l ≤ length m). a)
          (lt_or (length m) (length l))

      -- none exactly where no list of the basis within the gate limit has the product (SPECIFICATION 8.5)
      pub none_exactly : (G : ℕ) (ns : List Node) → Grown R ns → ((k : ℕ) → k < length ns → length (list_at ns k) ≤ G) → HasAll R Same G ns
          → (answer R ns x ≡ none) ↔ ((m : List ℕ) → Over R m → length m ≤ G → Same (prod R m) x → ⊥)
      none_exactly G ns b h cp = (to, from)
        where
          to : answer R ns x ≡ none → (m : List ℕ) → Over R m → length m ≤ G → Same (prod R m) x → ⊥
          to e m o q s =
              let r = cp m o q in
              let y = found b r.0 r.1 (W.same_trans r.3 s) in
              let z : ◌≡◌ {A = ℕ} 0 1 = cc (e, y) in omega arith

          from : ((m : List ℕ) → Over R m → length m ≤ G → Same (prod R m) x → ⊥) → answer R ns x ≡ none
          from n = by (answer R ns x) refl
            where
              by : (a : Option (List ℕ)) → answer R ns x ≡ a → answer R ns x ≡ none
              by none e = e
              by (some l) e =
                  let t = answer_hit (answers_to R x) ns x l e in
                  absurd (n l (subst (Over R) (sym t.list) (over R b t.at t.there))
                  (subst (λ (z : List ℕ). length z ≤ G) (sym t.list) (h t.at t.there)) (answer_product (answers_to R x) ns x l e))
