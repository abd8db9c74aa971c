-- Layers with the two skip rules lose no product (SPECIFICATION 6.13): once a depth is completed, every list of the
-- basis within it has a node no deeper than the list is long, whose product is a power of omega times the list's. It
-- rests on the laws, on `AllFit` and on hypothesis K. Assumes nothing.
use mathlib.Core.Path.{◌≡◌, refl, sym, ap, ◌∙◌, subst}
use mathlib.Core.Logic.{◌⊎◌, inl, inr, ⊎_elim}
use mathlib.Core.Bool.{true, false, ◌&&◌}
use mathlib.Core.List.Memᴰ
use mathlib.Core.List.{List, [], ◌∷◌, Memᴰ}
use Prim.Native.Nat.{ℕ, zero, suc, ◌+◌, ◌-◌, ◌≤◌, ◌<◌}
use native.Mathlib.Nat.{le_refl}
use native.Mathlib.Omega.{arith}
use borrow.Author.Tests.{ltb-true}
use lib.Dec.{ltb, eqb}
use lib.ListN.{length, get_or}
use Rattle.ints.proofs.Bools.{clash, both_true}
use Rattle.exact.proofs.Values.{pick_ind}
use Rattle.walk.specs.Walk.{Rules, Node, Build, any, root, list_at, prod, pruned, knows, candidate, is_nil, begin, opened, ended, walked, deeper, depths, walk}
use Rattle.walk.proofs.Grown.{Prefix, Grown, Layered, Shape}
use Rattle.walk.proofs.Laws.{Laws, Over, AllFit, Has, HasAll}
use Rattle.walk.specs.Known.{Present, KnownIsPresent}
use Rattle.walk.proofs.Sequences.{or-false, or_cases, bool, lt_or, any_true, prefix_at, prefix_length}
use Rattle.walk.proofs.Candidates.{any_prefix, Dealt, layer_deals}
use Rattle.walk.proofs.Nodes.{over, fresh}
use Rattle.walk.proofs.Layers.{walked_within, layered_deep, walked_deep, deeper_nodes, deeper_saturated, deeper_layered, deeper_depth, begin_layered, walk_shape}
use Rattle.walk.proofs.Prefixes.{depths_prefix}

module _ (R : Rules) (Same : R.Mat → R.Mat → Type 0) (W : Laws R Same) where
  pub prod_lowest : (l : List ℕ) → W.Lowest (prod R l)
  prod_lowest [] = W.one_lowest
  prod_lowest (g ∷ l) = W.act_lowest g (prod R l)

  has_prefix : {ns ms : List Node} → Prefix ns ms → (l : List ℕ) → Has R Same ns l → Has R Same ms l
  has_prefix {ns} {ms} x l (k, a, b, c) =
      let e : list_at ns k ≡ list_at ms k = ap (λ (z : Node). z.list) (sym (prefix_at x k root a)) in
      (k, omega (arith, prefix_length x), subst (λ (p : List ℕ). length p ≤ length l) e b, subst (λ (p : List ℕ). Same (prod R p) (prod R l)) e c)

  -- a list as long, or longer, with the same product has the same node
  has_same : (ns : List Node) (l m : List ℕ) → Same (prod R l) (prod R m) → length l ≤ length m → Has R Same ns l → Has R Same ns m
  has_same ns l m s h (k, a, b, c) = (k, a, omega arith, W.same_trans c s)

  -- hypothesis K at a list that is a node's
  present_at : (d : ℕ) (ns : List Node) → KnownIsPresent R Same d ns → (k g : ℕ) (p : List ℕ) → list_at ns k ≡ p → k < length ns
      → Memᴰ g R.generators → length p < d → pruned R g p ≡ false → R.fits g (prod R p) ≡ true
      → any (knows R (R.act g (prod R p))) ns ≡ true → Present R Same ns (R.act g (prod R p))
  present_at d ns K k g p e l m =
      subst
      (λ (z : List ℕ). length z < d → pruned R g z ≡ false → R.fits g (prod R z) ≡ true → any (knows R (R.act g (prod R z))) ns ≡ true
      → Present R Same ns (R.act g (prod R z)))
      e (K k g l m)

  -- hypothesis K of the nodes at the end holds of the nodes so far: a node that came later is not known by an earlier
  -- one
  present_before : {ns ms : List Node} (d e : ℕ) → Prefix ns ms → Grown R ms → d ≤ e → KnownIsPresent R Same e ms → KnownIsPresent R Same d ns
  present_before {ns} {ms} d e x b le K k g l m s p f a =
      ⊎_elim
      (λ (h : q.0 < length ns). (q.0, h, subst (λ (n : Node). Same (prod R n.list) (candidate R ns k g)) (prefix_at x q.0 root h) q.2))
      (λ (h : length ns ≤ q.0). clash
      (ap (λ (n : Node). R.known (prod R n.list) (prod R (list_at ms q.0))) (prefix_at x r.0 root r.1)
      ∙ W.known_then (prod_lowest (list_at ns r.0)) (prod_lowest (g ∷ list_at ns k)) (prod_lowest (list_at ms q.0)) r.2 (W.same_sym q.2))
      (fresh R b q.0 q.1 r.0 (omega (arith, r.1))))
      (lt_or q.0 (length ns))
    where
      r : (i : ℕ) × (i < length ns) × (knows R (candidate R ns k g) (get_or ns i root) ≡ true)
      r = any_true (knows R (candidate R ns k g)) root ns a

      q : Present R Same ms (candidate R ns k g)
      q =
          present_at e ms K k g (list_at ns k) (ap (λ (n : Node). n.list) (prefix_at x k root l)) (omega (arith, prefix_length x)) m (omega arith) p f
          (any_prefix R (knows R (candidate R ns k g)) x a)

  -- ---- one depth more

  module _ (most : ℕ) (b : Build) (i : Layered R b) (f : b.saturated ≡ false) (af : AllFit R (suc b.depth))
      (uf : (walked R most b).saturated ≡ false) (K : KnownIsPresent R Same (suc b.depth) (walked R most b).nodes)
      (cp : HasAll R Same b.depth b.nodes) where
    after : List Node
    after = (walked R most b).nodes

    kept : HasAll R Same b.depth after
    unfolding after
    kept l o h = has_prefix (walked_within R most b i f).prefix l (cp l o h)

    -- the lists with a greater last gate than g have their nodes
    Greater : ℕ → Type 0
    Greater g = (h : ℕ) → g < h → Memᴰ h R.generators → (l : List ℕ) → Over R l → length l ≤ b.depth → Has R Same after (h ∷ l)

    -- a candidate that is skipped by its last two gates: the inverse pair is left out, or the two are exchanged
    by_pair : (g : ℕ) (p : List ℕ) → Memᴰ g R.generators → Over R p → length p ≤ b.depth → pruned R g p ≡ true
        → Greater g → Has R Same after (g ∷ p)
    unfolding Greater
    by_pair g [] m o q e rec = clash e refl
    by_pair g (h ∷ t) m o q e rec =
        ⊎_elim
        (λ (a : R.inverse g h ≡ true).
        has_same after t (g ∷ h ∷ t) (W.same_sym (W.inverse_undoes g h (prod R t) a)) (omega arith) (kept t o.1 (omega arith)))
        (λ (a : (R.disjoint g h && ltb g h) ≡ true). let c = both_true (R.disjoint g h) (ltb g h) a in
        has_same after (h ∷ g ∷ t) (g ∷ h ∷ t) (W.same_sym (W.disjoint_swaps g h (prod R t) c.0)) (le_refl (length (g ∷ h ∷ t)))
        (rec h (ltb-true g h c.1) o.0 (g ∷ t) (m, o.1) q))
        (or_cases (R.inverse g h) (R.disjoint g h && ltb g h) e)

    -- a candidate of the last layer
    tried : (g k : ℕ) → Memᴰ g R.generators → k < length b.nodes → length (list_at b.nodes k) ≡ b.depth
        → Greater g → Has R Same after (g ∷ list_at b.nodes k)
    unfolding after
    tried g k m l e rec = by (bool (pruned R g p))
      where
        p : List ℕ
        p = list_at b.nodes k

        op : Over R p
        op = over R i.grown k l

        in_last : b.last ≤ k
        in_last = ⊎_elim (λ (a : k < b.last). absurd (omega (arith, i.before k a, e))) (λ (a : b.last ≤ k). a) (lt_or k b.last)

        dealt : Dealt R p g (walked R most b)
        dealt =
            layer_deals R most (λ h t. W.same_known (prod_lowest (h ∷ t)) (prod_lowest (h ∷ t)) (W.same_refl (prod R (h ∷ t))))
            (opened b) b.last (length b.nodes - b.last) (omega (arith, i.start)) k in_last (omega (arith, i.start)) g m

        fits : R.fits g (prod R p) ≡ true
        fits = af g p m op (omega (arith, e))

        known : pruned R g p ≡ false → any (knows R (R.act g (prod R p))) after ≡ true → Has R Same after (g ∷ p)
        known u a =
            let x = (walked_within R most b i f).prefix in
            let q : list_at after k ≡ p = ap (λ (n : Node). n.list) (prefix_at x k root l) in
            let r = present_at (suc b.depth) after K k g p q (omega (arith, prefix_length x)) m (omega (arith, e)) u fits a in
            (r.0, r.1, omega (arith, e, walked_deep R most b i f r.0 r.1), r.2)

        by : (pruned R g p ≡ true) ⊎ (pruned R g p ≡ false) → Has R Same after (g ∷ p)
        by (inl a) = by_pair g p m op (omega (arith, e)) a rec
        by (inr u) = go dealt
          where
            go : Dealt R p g (walked R most b) → Has R Same after (g ∷ p)
            go (inl a) = clash a uf
            go (inr (inl a)) = clash a u
            go (inr (inr (inl a))) = clash fits a
            go (inr (inr (inr a))) = known u a

    -- by how far g lies below the bound of the codes
    inner : (r g : ℕ) → W.bound ≤ g + r → Memᴰ g R.generators → (l : List ℕ) → Over R l → length l ≤ b.depth
        → Has R Same after (g ∷ l)
    unfolding Greater
    inner zero g q m l o h = absurd (omega (arith, W.below g m))
    inner (suc r) g q m l o h =
        let n = cp l o h in
        let p : List ℕ = list_at b.nodes n.0 in
        let op : Over R p = over R i.grown n.0 n.1 in
        has_same after (g ∷ p) (g ∷ l) (W.act_same g n.3) (omega (arith, n.2))
        (⊎_elim (λ (a : length p < b.depth). kept (g ∷ p) (m, op) a)
        (λ (a : b.depth ≤ length p).
        tried g n.0 m n.1 (omega (arith, layered_deep R b i f n.0 n.1)) (λ h x. inner r h (omega arith)))
        (lt_or (length p) b.depth))

    complete_walked : HasAll R Same (suc b.depth) (walked R most b).nodes
    unfolding after
    complete_walked [] o h = kept [] o (omega arith)
    complete_walked (g ∷ l) o h = inner W.bound g (omega arith) o.0 l o.1 (omega arith)

  -- one depth keeps completeness, whether it comes to its end or not
  pub complete_deeper : (most : ℕ) (b : Build) → Layered R b → b.saturated ≡ false → AllFit R (suc b.depth)
      → KnownIsPresent R Same (deeper R most b).depth (deeper R most b).nodes → HasAll R Same b.depth b.nodes
      → HasAll R Same (deeper R most b).depth (deeper R most b).nodes
  complete_deeper most b i f af K cp =
      ⊎_elim
      (λ (e : (deeper R most b).saturated ≡ true).
      rw (deeper_nodes R most b, (deeper_depth R most b).1 e) (λ l o h. has_prefix (walked_within R most b i f).prefix l (cp l o h)))
      (λ (e : (deeper R most b).saturated ≡ false).
      let d = (deeper_depth R most b).0 e in
      rw (deeper_nodes R most b, d)
      (complete_walked most b i f af (sym (deeper_saturated R most b) ∙ e) (rw (deeper_nodes R most b, d) at K) cp))
      (bool (deeper R most b).saturated)

  -- ---- a width

  pub begin_complete : HasAll R Same 0 (root ∷ [])
  begin_complete [] o h = (0, le_refl 1, le_refl 0, W.same_refl R.one)
  begin_complete (g ∷ l) o h = absurd (omega arith)

  depth_rises : (E m : ℕ) (b : Build) → b.depth ≤ (depths R E b m).depth
  unfolding depths
  depth_rises E zero b = le_refl b.depth
  depth_rises E (suc m) b =
      let d = deeper_depth R E b in
      pick_ind (λ (r : Build). b.depth ≤ r.depth) (ended b) (λ e. le_refl b.depth)
      (λ e. ⊎_elim (λ (z : (deeper R E b).saturated ≡ true). omega (arith, d.1 z, depth_rises E m (deeper R E b)))
      (λ (z : (deeper R E b).saturated ≡ false). omega (arith, d.0 z, depth_rises E m (deeper R E b))) (bool (deeper R E b).saturated))

  -- hypothesis K of a width makes it complete
  abbrev Enough : Build → Type 0
  Enough b = Grown R b.nodes → KnownIsPresent R Same b.depth b.nodes → HasAll R Same b.depth b.nodes

  depths_complete : (G E m : ℕ) (b : Build) → AllFit R G → Layered R b → (b.saturated ≡ false → b.depth + m ≤ G)
      → HasAll R Same b.depth b.nodes → Enough (depths R E b m)
  unfolding depths
  depths_complete G E zero b af i q cp = λ gr K. cp
  depths_complete G E (suc m) b af i q cp =
      let d : Build = deeper R E b in
      pick_ind Enough (ended b) (λ e gr K. cp)
      (λ e gr K.
      let f : b.saturated ≡ false = (or-false b.saturated (eqb b.last (length b.nodes)) e).0 in
      depths_complete G E m d af (deeper_layered R E b i f) (λ z. omega (arith, q f, (deeper_depth R E b).0 z))
      (complete_deeper E b i f (λ g l h o n. af g l h o (omega (arith, q f)))
      (present_before d.depth (depths R E d m).depth (depths_prefix R E m d) gr (depth_rises E m d) K) cp) gr K)

  -- where the last depth added nothing, every list, however long, has its node
  pub complete_closed : (b : Build) → Layered R b → b.last ≡ length b.nodes → HasAll R Same b.depth b.nodes
      → (l : List ℕ) → Over R l → Has R Same b.nodes l
  complete_closed b i e cp [] o = cp [] o (omega arith)
  complete_closed b i e cp (g ∷ l) o =
      let r = complete_closed b i e cp l o.1 in
      let p : List ℕ = list_at b.nodes r.0 in
      let low : length p < b.depth = i.before r.0 (omega (arith, r.1)) in
      has_same b.nodes (g ∷ p) (g ∷ l) (W.act_same g r.3) (omega (arith, r.2)) (cp (g ∷ p) (o.0, over R i.grown r.0 r.1) low)

  no_generator : (gs : List ℕ) → is_nil gs ≡ true → (g : ℕ) → Memᴰ g gs → ⊥
  no_generator [] e g m = Memᴰ.not-nil m
  no_generator (x ∷ xs) e g m = clash e refl

  module _ (G E : ℕ) (af : AllFit R G) (K : KnownIsPresent R Same (walk R G E).depth (walk R G E).nodes) where
    -- every list of the basis within the completed depth has its node
    pub complete : HasAll R Same (walk R G E).depth (walk R G E).nodes
    unfolding walk
    complete = by (walk_shape R G E).layered.grown K
      where
        by : Enough (walk R G E)
        by =
            pick_ind Enough (is_nil R.generators) (λ e gr k. begin_complete)
            (λ e. depths_complete G E G begin af (begin_layered R) (λ z. omega arith) begin_complete)

    -- at a width that is not saturated, every list of the basis within the gate limit has
    pub complete_unsaturated : (walk R G E).saturated ≡ false → HasAll R Same G (walk R G E).nodes
    complete_unsaturated f l o h = by (w.why f) l o h
      where
        w : Shape R G E (walk R G E)
        w = walk_shape R G E

        by : ((walk R G E).depth ≡ G) ⊎ ((walk R G E).last ≡ length (walk R G E).nodes) ⊎ (is_nil R.generators ≡ true)
            → HasAll R Same G (walk R G E).nodes
        by (inl e) l o h = complete l o (omega arith)
        by (inr (inl e)) l o h = complete_closed (walk R G E) w.layered e complete l o
        by (inr (inr e)) [] o h = complete [] o (omega arith)
        by (inr (inr e)) (g ∷ l) o h = absurd (no_generator R.generators e g o.0)
