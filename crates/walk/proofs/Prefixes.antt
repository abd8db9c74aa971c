-- The nodes of a walk are the first nodes of every walk with no smaller limits: both make the same steps until the
-- smaller one stops. No law on what the walk is handed is used. Assumes nothing.
use mathlib.Core.Path.{◌≡◌, refl, sym, ap, subst}
use mathlib.Core.Logic.{◌⊎◌, inl, inr}
use mathlib.Core.Bool.{Bool, true, false, ◌||◌}
use mathlib.Core.List.{List, [], ◌∷◌}
use Prim.Native.Nat.{ℕ, zero, suc, ◌+◌, ◌-◌, ◌≤◌}
use native.Mathlib.Omega.{arith}
use borrow.Author.Tests.{ltb-true, lt-ltb}
use lib.Dec.{ltb}
use lib.ListN.{length}
use Rattle.ints.specs.Lists.{pick}
use Rattle.ints.proofs.Bools.{clash}
use Rattle.exact.proofs.Values.{pick_ind}
use Rattle.walk.specs.Walk.{Rules, State, Build, skipped, child, try, try_all, layer, opened, walked, settled, deeper, ended, depths, begin, is_nil, walk}
use Rattle.walk.proofs.Grown.{Prefix}
use Rattle.walk.proofs.Sequences.{prefix_refl, prefix_snoc, prefix_trans}
use Rattle.walk.proofs.Candidates.{grown_by, filled, try_later, layer_later, try_saturated}
use Rattle.walk.proofs.Layers.{settled_nodes, deeper_nodes, deeper_depth}

-- the walk with the smaller entry limit has come just as far, or is saturated and its nodes are the first of the
-- other's
abbrev Ahead : State → State → Type 0
Ahead s t = (s ≡ t) ⊎ ((s.saturated ≡ true) × Prefix s.nodes t.nodes)

module _ (R : Rules) where
  module _ (E E' : ℕ) (le : E ≤ E') where
    fork : (s t : State) (b c c' : Bool) → (c ≡ true → c' ≡ true) → Prefix s.nodes t.nodes
        → Ahead (pick b s (pick c t (filled s))) (pick b s (pick c' t (filled s)))
    fork s t true c c' h x = inl refl
    fork s t false true true h x = inl refl
    fork s t false true false h x = clash (h refl) refl
    fork s t false false true h x = inr (refl, x)
    fork s t false false false h x = inl refl

    try_ahead : (s t : State) (k g : ℕ) → Ahead s t → Ahead (try R E s k g) (try R E' t k g)
    unfolding try
    try_ahead s t k g (inl e) =
        subst (λ (z : State). Ahead (try R E s k g) (try R E' z k g)) e
        (fork s (grown_by R s k g) (s.saturated || skipped R s.nodes k g) (ltb (length s.nodes) E) (ltb (length s.nodes) E')
        (λ h. lt-ltb (length s.nodes) E' (omega (arith, ltb-true (length s.nodes) E h))) (prefix_snoc s.nodes (child R s.nodes k g)))
    try_ahead s t k g (inr p) =
        subst (λ (z : State). Ahead z (try R E' t k g)) (sym (try_saturated R E s k g p.0))
        (inr (p.0, prefix_trans p.1 (try_later R E' t k g).prefix))

    try_all_ahead : (s t : State) (k : ℕ) (gs : List ℕ) → Ahead s t → Ahead (try_all R E s k gs) (try_all R E' t k gs)
    unfolding try_all
    try_all_ahead s t k [] r = r
    try_all_ahead s t k (g ∷ gs) r = try_all_ahead (try R E s k g) (try R E' t k g) k gs (try_ahead s t k g r)

    layer_ahead : (s t : State) (k m : ℕ) → Ahead s t → Ahead (layer R E s k m) (layer R E' t k m)
    unfolding layer
    layer_ahead s t k zero r = r
    layer_ahead s t k (suc m) r =
        layer_ahead (try_all R E s k R.generators) (try_all R E' t k R.generators) (suc k) m (try_all_ahead s t k R.generators r)

    -- one depth: the same width after it, or the smaller one is saturated and its nodes are the first of the other's
    pub deeper_ahead : (b : Build)
        → (deeper R E b ≡ deeper R E' b) ⊎ (((deeper R E b).saturated ≡ true) × Prefix (deeper R E b).nodes (deeper R E' b).nodes)
    unfolding deeper
    deeper_ahead b = by (walked R E b) (walked R E' b) (layer_ahead (opened b) (opened b) b.last (length b.nodes - b.last) (inl refl))
      where
        by : (s t : State) → Ahead s t
            → (settled b s ≡ settled b t) ⊎ (((settled b s).saturated ≡ true) × Prefix (settled b s).nodes (settled b t).nodes)
        by s t (inl e) = inl (ap (settled b) e)
        by s t (inr p) = inr (rw p.0, rw (settled_nodes b s, settled_nodes b t) p.1)

  -- the depths only append
  deeper_prefix : (E : ℕ) (b : Build) → Prefix b.nodes (deeper R E b).nodes
  deeper_prefix E b = rw (deeper_nodes R E b) (layer_later R E (opened b) b.last (length b.nodes - b.last)).prefix

  pub depths_prefix : (E : ℕ) (m : ℕ) (b : Build) → Prefix b.nodes (depths R E b m).nodes
  unfolding depths
  depths_prefix E zero b = prefix_refl b.nodes
  depths_prefix E (suc m) b =
      pick_ind (λ (r : Build). Prefix b.nodes r.nodes) (ended b) (λ e. prefix_refl b.nodes)
      (λ e. prefix_trans (deeper_prefix E b) (depths_prefix E m (deeper R E b)))

  -- a saturated width stays
  depths_saturated : (E : ℕ) (m : ℕ) (b : Build) → b.saturated ≡ true → depths R E b m ≡ b
  unfolding depths
  depths_saturated E zero b e = refl
  depths_saturated E (suc m) b e = rw e

  depths_ahead : (E E' : ℕ) → E ≤ E' → (m m' : ℕ) → m ≤ m' → (b : Build) → Prefix (depths R E b m).nodes (depths R E' b m').nodes
  unfolding depths
  depths_ahead E E' le zero m' l b = depths_prefix E' m' b
  depths_ahead E E' le (suc m) zero l b = absurd (omega arith)
  depths_ahead E E' le (suc m) (suc m') l b = both (ended b) (by (deeper_ahead E E' le b) (depths_ahead E E' le m m' (omega arith) (deeper R E b)))
    where
      both : (t : Bool) → Prefix (depths R E (deeper R E b) m).nodes (depths R E' (deeper R E' b) m').nodes
          → Prefix (pick t b (depths R E (deeper R E b) m)).nodes (pick t b (depths R E' (deeper R E' b) m')).nodes
      both true x = prefix_refl b.nodes
      both false x = x

      by : (deeper R E b ≡ deeper R E' b) ⊎ (((deeper R E b).saturated ≡ true) × Prefix (deeper R E b).nodes (deeper R E' b).nodes)
          → Prefix (depths R E (deeper R E b) m).nodes (depths R E' (deeper R E b) m').nodes
          → Prefix (depths R E (deeper R E b) m).nodes (depths R E' (deeper R E' b) m').nodes
      by (inl e) x = subst (λ (c : Build). Prefix (depths R E (deeper R E b) m).nodes (depths R E' c m').nodes) e x
      by (inr p) x = rw (depths_saturated E m (deeper R E b) p.0) (prefix_trans p.1 (depths_prefix E' m' (deeper R E' b)))

  pub walk_prefix : (G G' E E' : ℕ) → G ≤ G' → E ≤ E' → Prefix (walk R G E).nodes (walk R G' E').nodes
  unfolding walk
  walk_prefix G G' E E' g e = both (is_nil R.generators) (depths R E begin G) (depths R E' begin G') (depths_ahead E E' e G G' g begin)
    where
      both : (t : Bool) (r r' : Build) → Prefix r.nodes r'.nodes → Prefix (pick t begin r).nodes (pick t begin r').nodes
      both true r r' x = prefix_refl begin.nodes
      both false r r' x = x

  -- ---- the completed depth as the gate limit

  -- as many depths more as were completed, and the width is not saturated
  depths_completed : (E m : ℕ) (b : Build) → b.saturated ≡ false
      → ((k : ℕ) × (b.depth + k ≡ (depths R E b m).depth) × ((depths R E b k).saturated ≡ false))
  unfolding depths
  depths_completed E zero b e = (0, omega arith, e)
  depths_completed E (suc m) b e = by (ended b) (deeper R E b).saturated refl refl (λ f. depths_completed E m (deeper R E b) f)
    where
      by : (x y : Bool) → ended b ≡ x → (deeper R E b).saturated ≡ y
          → ((deeper R E b).saturated ≡ false
          → ((k : ℕ) × ((deeper R E b).depth + k ≡ (depths R E (deeper R E b) m).depth) × ((depths R E (deeper R E b) k).saturated ≡ false)))
          → ((k : ℕ) × (b.depth + k ≡ (pick x b (depths R E (deeper R E b) m)).depth) × ((depths R E b k).saturated ≡ false))
      by true y p q rest = (0, omega arith, e)
      by false true p q rest =
          let z = ap (λ (c : Build). c.depth) (depths_saturated E m (deeper R E b) q) in
          (0, omega (arith, z, (deeper_depth R E b).1 q), e)
      by false false p q rest =
          let (k, i, j) = rest q in
          (suc k, omega (arith, i, (deeper_depth R E b).0 q), rw p j)

  -- a walk with its completed depth as the gate limit is not saturated
  pub completed_unsaturated : (G E : ℕ) → (walk R (walk R G E).depth E).saturated ≡ false
  unfolding walk depths
  completed_unsaturated G E = by (is_nil R.generators) (depths_completed E G begin refl)
    where
      by : (t : Bool) → (((k : ℕ) × (begin.depth + k ≡ (depths R E begin G).depth) × ((depths R E begin k).saturated ≡ false)))
          → (pick t begin (depths R E begin (pick t begin (depths R E begin G)).depth)).saturated ≡ false
      by true x = refl
      by false (k, i, j) = let z : k ≡ (depths R E begin G).depth = omega (arith, i) in rw (sym z) j
