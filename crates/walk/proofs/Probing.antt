-- A probe: what it comes to, whatever the part holds; and that in a part that was filled it finds the lowest node,
-- whatever the fingerprints are. Assumes nothing.
use mathlib.Core.Path.{◌≡◌, refl, sym, ap, ◌∙◌, subst}
use mathlib.Core.Bool.{Bool, true, false, not, ◌&&◌}
use mathlib.Core.List.{List}
use Prim.Native.Nat.{ℕ, zero, suc, ◌+◌, ◌≤◌, ◌<◌}
use native.Mathlib.Omega.{arith}
use native.Mathlib.Decide.{ℕ_discrete, dec_lt}
use lib.Dec.{eqb, ltb}
use lib.ListN.{length, get_or}
use borrow.Author.Tests.{eqb-true, eqb-false, eq-eqb, ltb-true, ltb-false, lt-ltb, le-ltb}
use Rattle.ints.specs.Lists.{pick}
use Rattle.ints.proofs.Bools.{clash, and_left, and_right}
use Rattle.circuit.specs.Codes.{mark}
use Rattle.walk.specs.Lookup.{Lookup, found, none, lowest_from}
use Rattle.walk.specs.Index.{leads, probe_of, probed, filled}
use Rattle.walk.specs.IndexLaws.{NodeFrom, at_step, ComesTo, ComesToNone, Probes}
use Rattle.walk.proofs.Lookups.{looks_up}
use Rattle.walk.proofs.Inserting.{Holds, Stands, filled_holds}

module _ (index fps : List ℕ) (count from f : ℕ) where
  -- ---- what it is to lead to a node

  leads_node : (v : ℕ) → NodeFrom fps count from f v → leads fps count from f v ≡ true
  leads_node v w = rw (le-ltb v from w.not_before, lt-ltb v count w.below, eq-eqb (get_or fps v 0) f w.has)

  node_of : (v : ℕ) → leads fps count from f v ≡ true → NodeFrom fps count from f v
  node_of v e =
      let r = and_right (not (ltb v from)) (ltb v count && eqb (get_or fps v 0) f) e in
      record {
        not_before = by (ltb v from) refl (and_left (not (ltb v from)) (ltb v count && eqb (get_or fps v 0) f) e);
        below = ltb-true v count (and_left (ltb v count) (eqb (get_or fps v 0) f) r);
        has = eqb-true (get_or fps v 0) f (and_right (ltb v count) (eqb (get_or fps v 0) f) r);
      }
    where
      by : (b : Bool) → ltb v from ≡ b → not b ≡ true → from ≤ v
      by true p q = clash q refl
      by false p q = ltb-false v from p

  -- ---- a probe from step j on

  -- no place from step j to step s is empty
  abbrev Full : ℕ → ℕ → Type 0
  Full j s = (i : ℕ) → j ≤ i → i ≤ s → at_step index f i ≡ mark → ⊥

  record Hits (j node : ℕ) : Type 0 where
    step : ℕ
    later : j ≤ step
    near : step < length index
    stands : at_step index f step ≡ node
    leads_to : NodeFrom fps count from f node
    full : Full j step
    none_before : (i : ℕ) → j ≤ i → i < step → NodeFrom fps count from f (at_step index f i) → ⊥

  record Misses (j : ℕ) : Type 0 where
    none_leads : (s : ℕ) → j ≤ s → s < length index → Full j s → NodeFrom fps count from f (at_step index f s) → ⊥

  abbrev Says : ℕ → Lookup → Type 0
  Says j (found node) = Hits j node
  Says j none = Misses j

  says : (m j : ℕ) → j + m ≡ length index → Says j (probe_of index fps count from f j m)
  unfolding probe_of
  says zero j e = record { none_leads = λ s h l. absurd (omega arith) }
  says (suc m) j e = by (eqb (at_step index f j) mark) (leads fps count from f (at_step index f j)) refl refl (says m (suc j) (omega arith))
    where
      by : (x y : Bool) → eqb (at_step index f j) mark ≡ x → leads fps count from f (at_step index f j) ≡ y → Says (suc j) (probe_of index fps count from f (suc j) m)
          → Says j (pick x none (pick y (found (at_step index f j)) (probe_of index fps count from f (suc j) m)))
      by true y p q r = record { none_leads = λ s h l full. absurd (full j (omega arith) h (eqb-true (at_step index f j) mark p)) }
      by false true p q r = record {
        step = j;
        later = omega arith;
        near = omega arith;
        stands = refl;
        leads_to = node_of (at_step index f j) q;
        full = λ i a b. only_here i (omega arith);
        none_before = λ i a b. absurd (omega arith);
      }
        where
          only_here : (i : ℕ) → i ≡ j → at_step index f i ≡ mark → ⊥
          only_here i z = subst (λ (k : ℕ). at_step index f k ≡ mark → ⊥) (sym z) (eqb-false (at_step index f j) mark p)
      by false false p q r = on (probe_of index fps count from f (suc j) m) r
        where
          here : at_step index f j ≡ mark → ⊥
          here = eqb-false (at_step index f j) mark p

          leads_not : NodeFrom fps count from f (at_step index f j) → ⊥
          leads_not w = clash (leads_node (at_step index f j) w) q

          on : (r : Lookup) → Says (suc j) r → Says j r
          on (found node) h = record {
            step = h.step;
            later = omega (arith, h.later);
            near = h.near;
            stands = h.stands;
            leads_to = h.leads_to;
            full = λ i a b. full i a b (ℕ_discrete i j);
            none_before = λ i a b. before i a b (ℕ_discrete i j);
          }
            where
              full : (i : ℕ) → j ≤ i → i ≤ h.step → Dec (i ≡ j) → at_step index f i ≡ mark → ⊥
              full i a b (yes z) = subst (λ (k : ℕ). at_step index f k ≡ mark → ⊥) (sym z) here
              full i a b (no z) = h.full i (omega arith) b

              before : (i : ℕ) → j ≤ i → i < h.step → Dec (i ≡ j) → NodeFrom fps count from f (at_step index f i) → ⊥
              before i a b (yes z) = subst (λ (k : ℕ). NodeFrom fps count from f (at_step index f k) → ⊥) (sym z) leads_not
              before i a b (no z) = h.none_before i (omega arith) b
          on none h = record { none_leads = λ s a b c. go s a b c (ℕ_discrete s j) }
            where
              go : (s : ℕ) → j ≤ s → s < length index → Full j s → Dec (s ≡ j) → NodeFrom fps count from f (at_step index f s) → ⊥
              go s a b c (yes z) = subst (λ (k : ℕ). NodeFrom fps count from f (at_step index f k) → ⊥) (sym z) leads_not
              go s a b c (no z) = h.none_leads s (omega arith) b (λ i u v. c i (omega arith) v)

  -- ---- a whole probe, said of places

  abbrev Comes : Lookup → Type 0
  Comes (found node) = ComesTo index fps count from f node
  Comes none = ComesToNone index fps count from f

  pub probe_comes : Comes (probed index fps count from f)
  unfolding probed
  probe_comes = whole (probe_of index fps count from f 0 _) (says _ 0 (omega arith))
    where
      whole : (r : Lookup) → Says 0 r → Comes r
      whole (found node) h = record {
        step = h.step;
        near = h.near;
        stands = h.stands;
        leads_to = h.leads_to;
        full = λ i a. h.full i (omega arith) a;
        none_before = λ i a. h.none_before i (omega arith) a;
      }
      whole none h = record { none_leads = λ i a full. h.none_leads i (omega arith) a (λ k u v. full k v) }

  -- only one of the answers is true
  only : (r s : Lookup) → Comes r → Comes s → r ≡ s
  only (found a) (found b) u v = at (ℕ_discrete u.step v.step)
    where
      at : Dec (u.step ≡ v.step) → found a ≡ found b
      at (yes e) = ap found (sym u.stands ∙ ap (at_step index f) e ∙ v.stands)
      at (no ne) = absurd (by (dec_lt u.step v.step))
        where
          by : Dec (u.step < v.step) → ⊥
          by (yes l) = v.none_before u.step l (subst (NodeFrom fps count from f) (sym u.stands) u.leads_to)
          by (no l) = u.none_before v.step (omega arith) (subst (NodeFrom fps count from f) (sym v.stands) v.leads_to)
  only (found a) none u v = absurd (v.none_leads u.step u.near u.full (subst (NodeFrom fps count from f) (sym u.stands) u.leads_to))
  only none (found b) u v = absurd (u.none_leads v.step v.near v.full (subst (NodeFrom fps count from f) (sym v.stands) v.leads_to))
  only none none u v = refl

  pub probes : Probes index fps count from f
  probes = record {
    is_found = λ node. (λ e. subst Comes e probe_comes, λ w. only (probed index fps count from f) (found node) probe_comes w);
    is_none = (λ e. subst Comes e probe_comes, λ w. only (probed index fps count from f) none probe_comes w);
  }

  -- ---- in a filled part: the lowest node

  module _ (w : Holds fps index count) where
    scans : (r : Lookup) → Comes r → r ≡ lowest_from fps count from f
    scans (found v) h =
        let o = h.leads_to in
        sym (((looks_up fps count from f).is_found v).1 record {
          has = o.has;
          below = o.below;
          not_before = o.not_before;
          none_before = λ m a b e.
              let r = w.earlier v m h.step b o.below (e ∙ sym o.has) (ap (λ (g : ℕ). at_step index g h.step) o.has ∙ h.stands) in
              let q : m ≡ at_step index f r.0 = sym (ap (λ (g : ℕ). at_step index g r.0) (sym o.has) ∙ r.2) in
              h.none_before r.0 r.1 (subst (NodeFrom fps count from f) q record { not_before = a; below = omega (arith, o.below); has = e });
        })
    scans none h =
        sym ((looks_up fps count from f).is_none.1 record {
          none_has = λ m a b e.
              let s = w.stands m b in
              let q : (i : ℕ) → at_step index f i ≡ at_step index (get_or fps m 0) i = λ i. ap (λ (g : ℕ). at_step index g i) (sym e) in
              h.none_leads s.0 s.1.near (λ i v z. full m s.0 s.1 b i v (ℕ_discrete i s.0) (sym (q i) ∙ z))
              (subst (NodeFrom fps count from f) (sym (q s.0 ∙ s.1.here)) record { not_before = a; below = b; has = e });
        })
      where
        full : (m j : ℕ) → Stands fps index m j → m < count → (i : ℕ) → i ≤ j → Dec (i ≡ j) → at_step index (get_or fps m 0) i ≡ mark → ⊥
        full m j s b i v (yes z) e =
            let y : m ≡ mark = sym s.here ∙ ap (at_step index (get_or fps m 0)) (sym z) ∙ e in
            omega (arith, w.few)
        full m j s b i v (no z) e = s.full i (omega arith) e

    held_scans : probed index fps count from f ≡ lowest_from fps count from f
    held_scans = scans (probed index fps count from f) probe_comes

-- so a part filled from fingerprints, equal ones among them, leads to the node that the scan finds
pub filled_scans : (fps : List ℕ) (size count from f : ℕ) → count ≤ size → count ≤ mark
    → probed (filled fps size count) fps count from f ≡ lowest_from fps count from f
filled_scans fps size count from f h l = held_scans (filled fps size count) fps count from f (filled_holds fps size count h l)
