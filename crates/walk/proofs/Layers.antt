-- Depths: what holds while a depth is walked, and what one depth keeps of a width: its layers, its count, and that it
-- is saturated only at the entry limit. No law on what the walk is handed is used. Assumes nothing.
use mathlib.Core.Path.{◌≡◌, refl, sym, ap, ◌∙◌}
use mathlib.Core.Logic.{◌⊎◌, inl, inr, ⊎_elim}
use mathlib.Core.Bool.{true, false}
use mathlib.Core.List.{List, Memᴰ}
use Prim.Native.Nat.{ℕ, zero, suc, ◌+◌, ◌-◌, ◌≤◌, ◌<◌}
use native.Mathlib.Nat.{le_refl}
use native.Mathlib.Omega.{arith}
use borrow.Author.Tests.{eqb-true}
use lib.Dec.{eqb}
use lib.ListN.{length}
use Rattle.ints.proofs.Bools.{clash}
use Rattle.exact.proofs.Values.{pick_ind}
use Rattle.walk.specs.Walk.{Rules, Node, State, Build, root, list_at, child, try, opened, walked, settled, deeper, ended, depths, begin, is_nil, walk}
use Rattle.walk.proofs.Grown.{Prefix, ParentsTo, Grown, alone, more, Layered, Shape}
use Rattle.walk.proofs.Sequences.{or-false, or_cases, bool, lt_or, length_snoc, all_snoc, prefix_refl, prefix_snoc, prefix_trans, prefix_at, prefix_length}
use Rattle.walk.proofs.Candidates.{try_cases, layer_keeps}

pub settled_nodes : (b : Build) (s : State) → (settled b s).nodes ≡ s.nodes
settled_nodes b s = pick_ind (λ (c : Build). c.nodes ≡ s.nodes) s.saturated (λ e. refl) (λ e. refl)

module _ (R : Rules) where
  module _ (most : ℕ) where
    -- while depth d + 1 is walked, from the nodes ns on, at node k
    pub record WithinDepth (ns : List Node) (d k : ℕ) (s : State) : Type 0 where
      pub grown : Grown R s.nodes
      pub parents : ParentsTo k s.nodes
      pub prefix : Prefix ns s.nodes
      pub new : (j : ℕ) → j < length s.nodes → length ns ≤ j → length (list_at s.nodes j) ≡ suc d
      pub count : length ns ≤ most → length s.nodes ≤ most
      pub full : s.saturated ≡ true → most ≤ length s.nodes

    within_try : (ns : List Node) (d : ℕ) (s : State) (k g : ℕ) → k < length ns → length (list_at ns k) ≡ d → Memᴰ g R.generators
        → WithinDepth ns d k s → WithinDepth ns d k (try R most s k g)
    within_try ns d s k g l e m i =
        let ms : List Node = s.nodes in
        let c : Node = child R ms k g in
        let q : k < length ms = omega (arith, prefix_length i.prefix) in
        let r : length (list_at ms k) ≡ d = ap (λ (z : Node). length z.list) (prefix_at i.prefix k root l) ∙ e in
        try_cases R most (λ t. WithinDepth ns d k t) s k g i
        (λ f a h. record {
          grown = more k g i.grown q i.parents m a;
          parents = all_snoc ms c root (λ j n. 0 < j → n.parent ≤ k) i.parents (λ p. le_refl k);
          prefix = prefix_trans i.prefix (prefix_snoc ms c);
          new = all_snoc ms c root (λ j n. length ns ≤ j → length n.list ≡ suc d) i.new (λ p. ap suc r);
          count = λ z. omega (arith, length_snoc ms c);
          full = λ z. clash z refl;
        })
        (λ h. record { grown = i.grown; parents = i.parents; prefix = i.prefix; new = i.new; count = i.count; full = λ z. h })

    -- after the depth, from a width that is not saturated
    pub walked_within : (b : Build) → Layered R b → b.saturated ≡ false → WithinDepth b.nodes b.depth (length b.nodes) (walked R most b)
    walked_within b i f =
        let ns : List Node = b.nodes in
        layer_keeps R most (λ k t. WithinDepth ns b.depth k t) b.last (length ns - b.last) (length ns) (omega (arith, i.start))
        (λ k t g a l m p. within_try ns b.depth t k g l (i.within f k l a) m p)
        (λ k t p. record {
          grown = p.grown;
          parents = λ j q r. omega (arith, p.parents j q r);
          prefix = p.prefix;
          new = p.new;
          count = p.count;
          full = p.full;
        })
        (opened b)
        (record {
          grown = i.grown;
          parents = i.parents f;
          prefix = prefix_refl ns;
          new = λ j q r. absurd (omega arith);
          count = λ z. z;
          full = λ z. clash z f;
        })

  -- ---- after a depth

  -- of a width that is not saturated no node is deeper than the completed depth
  pub layered_deep : (b : Build) → Layered R b → b.saturated ≡ false → (j : ℕ) → j < length b.nodes → length (list_at b.nodes j) ≤ b.depth
  layered_deep b i f j l =
      ⊎_elim (λ (a : j < b.last). omega (arith, i.before j a)) (λ (a : b.last ≤ j). omega (arith, i.within f j l a)) (lt_or j b.last)

  -- the nodes after the depth: those before it as they were, and the new ones one deeper
  pub walked_deep : (most : ℕ) (b : Build) → Layered R b → b.saturated ≡ false
      → (j : ℕ) → j < length (walked R most b).nodes → length (list_at (walked R most b).nodes j) ≤ suc b.depth
  walked_deep most b i f j l =
      let p = walked_within most b i f in
      ⊎_elim
      (λ (a : j < length b.nodes). omega (arith, layered_deep b i f j a, ap (λ (z : Node). length z.list) (prefix_at p.prefix j root a)))
      (λ (a : length b.nodes ≤ j). omega (arith, p.new j l a)) (lt_or j (length b.nodes))

  pub deeper_nodes : (most : ℕ) (b : Build) → (deeper R most b).nodes ≡ (walked R most b).nodes
  unfolding deeper
  deeper_nodes most b = settled_nodes b (walked R most b)

  pub deeper_saturated : (most : ℕ) (b : Build) → (deeper R most b).saturated ≡ (walked R most b).saturated
  unfolding deeper
  deeper_saturated most b =
      let t = (walked R most b).saturated in
      pick_ind (λ (c : Build). c.saturated ≡ t) t (λ e. sym e) (λ e. sym e)

  -- the completed depth is one more where the depth came to its end, and stays where it was cut off (SPECIFICATION 6.9)
  pub deeper_depth : (most : ℕ) (b : Build)
      → ((deeper R most b).saturated ≡ false → (deeper R most b).depth ≡ suc b.depth)
      × ((deeper R most b).saturated ≡ true → (deeper R most b).depth ≡ b.depth)
  unfolding deeper
  deeper_depth most b =
      pick_ind (λ (c : Build). (c.saturated ≡ false → c.depth ≡ suc b.depth) × (c.saturated ≡ true → c.depth ≡ b.depth))
      (walked R most b).saturated (λ e. ((λ z. clash refl z), (λ z. refl))) (λ e. ((λ z. refl), (λ z. clash z refl)))

  -- one depth keeps the layers
  pub deeper_layered : (most : ℕ) (b : Build) → Layered R b → b.saturated ≡ false → Layered R (deeper R most b)
  unfolding deeper
  deeper_layered most b i f =
      let s : State = walked R most b in
      let p = walked_within most b i f in
      let old : (j : ℕ) → j < length b.nodes → length (list_at s.nodes j) ≡ length (list_at b.nodes j)
      = λ j l. ap (λ (z : Node). length z.list) (prefix_at p.prefix j root l) in
      pick_ind (Layered R) s.saturated
      (λ e. record {
        grown = p.grown;
        start = omega (arith, i.start, prefix_length p.prefix);
        before = λ j l. omega (arith, i.before j l, old j (omega (arith, i.start)));
        within = λ z. clash refl z;
        parents = λ z. clash refl z;
        deep = walked_deep most b i f;
      })
      (λ e. record {
        grown = p.grown;
        start = prefix_length p.prefix;
        before = λ j l. omega (arith, layered_deep b i f j l, old j l);
        within = λ z. p.new;
        parents = λ z. p.parents;
        deep = λ j l. omega (arith, walked_deep most b i f j l);
      })

  -- the count stays within the entry limit, and the width is saturated only there
  pub deeper_count : (most : ℕ) (b : Build) → Layered R b → b.saturated ≡ false → length b.nodes ≤ most → length (deeper R most b).nodes ≤ most
  deeper_count most b i f l = rw (deeper_nodes most b) ((walked_within most b i f).count l)

  pub deeper_full : (most : ℕ) (b : Build) → Layered R b → b.saturated ≡ false → (deeper R most b).saturated ≡ true
      → most ≤ length (deeper R most b).nodes
  deeper_full most b i f e = rw (deeper_nodes most b) ((walked_within most b i f).full (sym (deeper_saturated most b) ∙ e))

  pub begin_layered : Layered R begin
  begin_layered = record {
    grown = alone;
    start = omega arith;
    before = λ j l. absurd (omega arith);
    within = λ z j l p. let e : j ≡ 0 = omega arith in rw e refl;
    parents = λ z j l p. absurd (omega arith);
    deep = λ j l. let e : j ≡ 0 = omega arith in rw e (omega arith);
  }

  -- ---- a width

  -- what the beginning has and each depth of an unended width keeps, the width has; m is the number of depths that are
  -- left
  depths_keep : (most : ℕ) (P : ℕ → Build → Type 0) → ((m : ℕ) (b : Build) → ended b ≡ false → P (suc m) b → P m (deeper R most b))
      → (m : ℕ) (b : Build) → P m b → (k : ℕ) × P k (depths R most b m) × ((k ≡ 0) ⊎ (ended (depths R most b m) ≡ true))
  unfolding depths
  depths_keep most P f zero b p = (0, p, inl refl)
  depths_keep most P f (suc m) b p =
      pick_ind (λ (r : Build). (k : ℕ) × P k r × ((k ≡ 0) ⊎ (ended r ≡ true))) (ended b) (λ e. (suc m, p, inr e))
      (λ e. depths_keep most P f m (deeper R most b) (f m b e p))

  -- between depths, with m left
  record Going (G E m : ℕ) (b : Build) : Type 0 where
    layered : Layered R b
    left : b.saturated ≡ false → b.depth + m ≡ G
    cut : b.saturated ≡ true → b.depth < G
    count : 0 < E → length b.nodes ≤ E
    full : b.saturated ≡ true → E ≤ length b.nodes

  going_next : (G E m : ℕ) (b : Build) → ended b ≡ false → Going G E (suc m) b → Going G E m (deeper R E b)
  going_next G E m b e i =
      let f : b.saturated ≡ false = (or-false b.saturated (eqb b.last (length b.nodes)) e).0 in
      let d = deeper_depth E b in
      record {
        layered = deeper_layered E b i.layered f;
        left = λ z. omega (arith, i.left f, d.0 z);
        cut = λ z. omega (arith, i.left f, d.1 z);
        count = λ z. deeper_count E b i.layered f (i.count z);
        full = deeper_full E b i.layered f;
      }

  going_shape : (G E k : ℕ) (b : Build) → Going G E k b → (k ≡ 0) ⊎ (ended b ≡ true) → Shape R G E b
  going_shape G E k b i w = record {
    layered = i.layered;
    depth = ⊎_elim (λ (z : b.saturated ≡ true). omega (arith, i.cut z)) (λ (z : b.saturated ≡ false). omega (arith, i.left z)) (bool b.saturated);
    count = i.count;
    full = i.full;
    limit = λ j l. ⊎_elim (λ (z : b.saturated ≡ true). omega (arith, i.layered.deep j l, i.cut z))
        (λ (z : b.saturated ≡ false). omega (arith, layered_deep b i.layered z j l, i.left z)) (bool b.saturated);
    why = λ z. ⊎_elim (λ (e : k ≡ 0). inl (omega (arith, i.left z)))
        (λ (e : ended b ≡ true). inr (inl (⊎_elim (λ (y : b.saturated ≡ true). clash y z)
        (λ (y : eqb b.last (length b.nodes) ≡ true). eqb-true b.last (length b.nodes) y)
        (or_cases b.saturated (eqb b.last (length b.nodes)) e)))) w;
  }

  pub walk_shape : (G E : ℕ) → Shape R G E (walk R G E)
  unfolding walk
  walk_shape G E =
      pick_ind (Shape R G E) (is_nil R.generators)
      (λ e. record {
        layered = begin_layered;
        depth = omega arith;
        count = λ z. z;
        full = λ z. clash z refl;
        limit = λ j l. let z : j ≡ 0 = omega arith in rw z (omega arith);
        why = λ z. inr (inr e);
      })
      (λ e. let r = depths_keep E (Going G E) (going_next G E) G begin
      (record { layered = begin_layered; left = λ z. omega arith; cut = λ z. clash z refl; count = λ z. z; full = λ z. clash z refl }) in
      going_shape G E r.0 (depths R E begin G) r.1 r.2)
