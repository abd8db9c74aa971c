-- What a part holds that was filled from fingerprints, equal ones among them: each node stands along the probe of its
-- fingerprint with no empty place before it, and after every lower node that has the same fingerprint. Assumes nothing.
use mathlib.Core.Path.{◌≡◌, refl, sym, ap, ◌∙◌, subst}
use mathlib.Core.Logic.{◌⊎◌, inl, inr, ⊎_elim}
use mathlib.Core.Bool.{Bool, true, false}
use mathlib.Core.List.{List}
use Prim.Native.Nat.{ℕ, zero, suc, ◌+◌, ◌≤◌, ◌<◌}
use native.Mathlib.Omega.{arith}
use native.Mathlib.Decide.{ℕ_discrete, dec_lt}
use lib.Dec.{eqb}
use lib.ListN.{length, get_or, set, replicate, length-set, length-replicate, get_or-replicate}
use lib.Seq.{get_or-set_same, get_or-set_other}
use borrow.Author.Tests.{eqb-true, eqb-false}
use Rattle.ints.specs.Lists.{pick}
use Rattle.circuit.specs.Codes.{mark}
use Rattle.walk.specs.Lookup.{Lookup, found, none}
use Rattle.walk.specs.Index.{place_of, free_of, put_at, inserted, filled}
use Rattle.walk.specs.IndexLaws.{at_step}
use Rattle.walk.proofs.Rounds.{place_below, place_met}
use Rattle.walk.proofs.Empties.{empties, empties_all, empties_set, empties_some}

-- ---- the first empty place of a probe

-- the place of step i is empty, and none before it from step j on
pub record First (index : List ℕ) (f j i : ℕ) : Type 0 where
  pub not_before : j ≤ i
  pub empty : get_or index (place_of (length index) f i) 0 ≡ mark
  pub full : (a : ℕ) → j ≤ a → a < i → get_or index (place_of (length index) f a) 0 ≡ mark → ⊥

-- where a place within the next m steps is empty, the first is found
pub free_found : (index : List ℕ) (f m j e : ℕ) → j ≤ e → e < j + m → get_or index (place_of (length index) f e) 0 ≡ mark
    → (i : ℕ) × (i ≤ e) × First index f j i × (free_of index f j m ≡ found (place_of (length index) f i))
unfolding free_of
free_found index f zero j e l h q = absurd (omega arith)
free_found index f (suc m) j e l h q = by (eqb (get_or index (place_of (length index) f j) 0) mark) refl (λ ne. free_found index f m (suc j) e (further ne) (omega arith) q)
  where
    further : (get_or index (place_of (length index) f j) 0 ≡ mark → ⊥) → suc j ≤ e
    further ne = at (ℕ_discrete j e)
      where
        at : Dec (j ≡ e) → suc j ≤ e
        at (yes z) = absurd (ne (subst (λ (a : ℕ). get_or index (place_of (length index) f a) 0 ≡ mark) (sym z) q))
        at (no z) = omega arith

    by : (b : Bool) → eqb (get_or index (place_of (length index) f j) 0) mark ≡ b
        → ((get_or index (place_of (length index) f j) 0 ≡ mark → ⊥)
        → (i : ℕ) × (i ≤ e) × First index f (suc j) i × (free_of index f (suc j) m ≡ found (place_of (length index) f i)))
        → (i : ℕ) × (i ≤ e) × First index f j i × (pick b (found (place_of (length index) f j)) (free_of index f (suc j) m) ≡ found (place_of (length index) f i))
    by true t rest = (
      j,
      l,
      record { not_before = omega arith; empty = eqb-true (get_or index (place_of (length index) f j) 0) mark t; full = λ a u v. absurd (omega arith) },
      refl,
    )
    by false t rest =
        let ne = eqb-false (get_or index (place_of (length index) f j) 0) mark t in
        let r = rest ne in
        (r.0, r.1, record { not_before = omega (arith, r.2.not_before); empty = r.2.empty; full = λ a u v. passed ne r.2 a u v (ℕ_discrete a j) }, r.3)
      where
        passed : (get_or index (place_of (length index) f j) 0 ≡ mark → ⊥) → {i : ℕ} → First index f (suc j) i
            → (a : ℕ) → j ≤ a → a < i → Dec (a ≡ j) → get_or index (place_of (length index) f a) 0 ≡ mark → ⊥
        passed ne w a u v (yes z) = subst (λ (b : ℕ). get_or index (place_of (length index) f b) 0 ≡ mark → ⊥) (sym z) ne
        passed ne w a u v (no z) = w.full a (omega arith) v

-- ---- what a filled part holds

module _ (fps : List ℕ) where
  -- what stands at step j of the probe of node v's fingerprint
  abbrev step_of : List ℕ → ℕ → ℕ → ℕ
  step_of index v j = at_step index (get_or fps v 0) j

  -- node v stands at step j of its probe, and no place before is empty
  pub record Stands (index : List ℕ) (v j : ℕ) : Type 0 where
    pub near : j < length index
    pub here : step_of index v j ≡ v
    pub full : (i : ℕ) → i < j → step_of index v i ≡ mark → ⊥

  -- the nodes below count are in the part
  pub record Holds (index : List ℕ) (count : ℕ) : Type 0 where
    pub few : count ≤ mark
    pub nodes : (p : ℕ) → p < length index → (get_or index p 0 ≡ mark) ⊎ (get_or index p 0 < count)
    pub stands : (v : ℕ) → v < count → (j : ℕ) × Stands index v j
    pub earlier : (w v j : ℕ) → v < w → w < count → get_or fps v 0 ≡ get_or fps w 0 → step_of index w j ≡ w → (i : ℕ) × (i < j) × (step_of index w i ≡ v)
    pub room : empties index + count ≡ length index

  -- ---- a cleared part

  pub cleared : (size : ℕ) → Holds (replicate size mark) 0
  cleared size = record {
    few = omega arith;
    nodes = λ p h. inl (get_or-replicate size p mark 0 (omega (arith, length-replicate size mark)));
    stands = λ v h. absurd (omega arith);
    earlier = λ w v j l h. absurd (omega arith);
    room = rw (empties_all size, length-replicate) (omega arith);
  }

  -- ---- one node more

  module _ (index : List ℕ) (k : ℕ) (w : Holds index k) (more : k < mark) (space : k < length index) where
    abbrev f : ℕ
    f = get_or fps k 0

    -- an empty place lies along the probe, so the node goes to the first of them
    gap : (p : ℕ) × (p < length index) × (get_or index p 0 ≡ mark)
    gap = empties_some index (omega (arith, w.room))

    met : (j : ℕ) × (j < length index) × (place_of (length index) f j ≡ gap.0)
    met = place_met (length index) f gap.0 gap.1

    at_gap : get_or index (place_of (length index) f met.0) 0 ≡ mark
    at_gap = ap (λ (p : ℕ). get_or index p 0) met.2 ∙ gap.2

    free : (i : ℕ) × (i ≤ met.0) × First index f 0 i × (free_of index f 0 (length index) ≡ found (place_of (length index) f i))
    free = free_found index f (length index) 0 met.0 (omega arith) (omega (arith, met.1)) at_gap

    abbrev place : ℕ
    place = place_of (length index) f free.0

    place_in : place < length index
    place_in = place_below (length index) f free.0 (omega arith)

    abbrev new : List ℕ
    new = set index place k

    new_long : length new ≡ length index
    new_long = length-set index place k

    inserted_is : inserted index f k ≡ new
    unfolding inserted
    inserted_is = ap (put_at index k) free.3

    new_at : get_or new place 0 ≡ k
    new_at = get_or-set_same index place k 0 place_in

    new_other : (p : ℕ) → (p ≡ place → ⊥) → get_or new p 0 ≡ get_or index p 0
    new_other p ne = get_or-set_other index place p k 0 ne

    -- a place that is not empty keeps what it holds
    stays : (p : ℕ) → (get_or index p 0 ≡ mark → ⊥) → get_or new p 0 ≡ get_or index p 0
    stays p ne = new_other p (λ e. ne (ap (λ (q : ℕ). get_or index q 0) e ∙ free.2.empty))

    -- an empty place after it was one before it
    still_empty : (p : ℕ) → get_or new p 0 ≡ mark → get_or index p 0 ≡ mark
    still_empty p e = by (ℕ_discrete p place)
      where
        by : Dec (p ≡ place) → get_or index p 0 ≡ mark
        by (yes z) = ap (λ (q : ℕ). get_or index q 0) z ∙ free.2.empty
        by (no z) = sym (new_other p z) ∙ e

    -- a lower node stood where it stands
    stood : (p v : ℕ) → v < k → get_or new p 0 ≡ v → get_or index p 0 ≡ v
    stood p v l e = by (ℕ_discrete p place)
      where
        by : Dec (p ≡ place) → get_or index p 0 ≡ v
        by (yes z) =
            let q : k ≡ v = sym new_at ∙ ap (λ (a : ℕ). get_or new a 0) (sym z) ∙ e in
            absurd (omega arith)
        by (no z) = sym (new_other p z) ∙ e

    not_mark : (v p : ℕ) → v < k → get_or index p 0 ≡ v → get_or index p 0 ≡ mark → ⊥
    not_mark v p l e q = let z : v ≡ mark = sym e ∙ q in omega arith

    -- steps of the new part are steps of the old one: the length is the same
    step_new : (v j : ℕ) → step_of new v j ≡ get_or new (place_of (length index) (get_or fps v 0) j) 0
    step_new v j = ap (λ (s : ℕ). get_or new (place_of s (get_or fps v 0) j) 0) new_long

    -- no place before a node's own is empty: so the place of the new node is not among them
    before : (v j i : ℕ) → v < k → get_or fps v 0 ≡ f → Stands index v j → get_or index (place_of (length index) f i) 0 ≡ mark → j < i
    before v j i l e s q = by (dec_lt j i)
      where
        eq : get_or index (place_of (length index) (get_or fps v 0) i) 0 ≡ mark
        eq = ap (λ (g : ℕ). get_or index (place_of (length index) g i) 0) e ∙ q

        by : Dec (j < i) → j < i
        by (yes z) = z
        by (no z) = absurd (at (ℕ_discrete i j))
          where
            at : Dec (i ≡ j) → ⊥
            at (yes y) = not_mark v (place_of (length index) (get_or fps v 0) j) l s.here (subst (λ (a : ℕ). get_or index (place_of (length index) (get_or fps v 0) a) 0 ≡ mark) y eq)
            at (no y) = s.full i (omega arith) eq

    stands_new : (v : ℕ) → v < suc k → (j : ℕ) × Stands new v j
    stands_new v h = by (ℕ_discrete v k)
      where
        by : Dec (v ≡ k) → (j : ℕ) × Stands new v j
        by (yes z) =
            subst (λ (u : ℕ). (j : ℕ) × Stands new u j) (sym z) (
              free.0,
              record {
                near = omega (arith, new_long, free.1, met.1);
                here = step_new k free.0 ∙ new_at;
                full = λ i l e. free.2.full i (omega arith) l (still_empty (place_of (length index) f i) (sym (step_new k i) ∙ e));
              },
            )
        by (no z) =
            let s = w.stands v (omega arith) in (
              s.0,
              record {
                near = omega (arith, new_long, s.1.near);
                here = step_new v s.0 ∙ stays (place_of (length index) (get_or fps v 0) s.0) (not_mark v _ (omega arith) s.1.here) ∙ s.1.here;
                full = λ i l e. s.1.full i l (still_empty (place_of (length index) (get_or fps v 0) i) (sym (step_new v i) ∙ e));
              },
            )

    earlier_new : (u v j : ℕ) → v < u → u < suc k → get_or fps v 0 ≡ get_or fps u 0 → step_of new u j ≡ u → (i : ℕ) × (i < j) × (step_of new u i ≡ v)
    earlier_new u v j l h e q = by (ℕ_discrete u k)
      where
        by : Dec (u ≡ k) → (i : ℕ) × (i < j) × (step_of new u i ≡ v)
        by (yes z) =
            let vk : v < k = omega arith in
            let s = w.stands v vk in
            let ev : get_or fps v 0 ≡ f = e ∙ ap (λ (a : ℕ). get_or fps a 0) z in
            -- the place of step j held nothing
            let was : get_or index (place_of (length index) f j) 0 ≡ mark = empty_there z in
            let kept : get_or new (place_of (length index) (get_or fps v 0) s.0) 0 ≡ v = stays _ (not_mark v _ vk s.1.here) ∙ s.1.here in
            (s.0, before v s.0 j vk ev s.1 was, step_new u s.0 ∙ ap (λ (g : ℕ). get_or new (place_of (length index) g s.0) 0) (sym e) ∙ kept)
          where
            empty_there : u ≡ k → get_or index (place_of (length index) f j) 0 ≡ mark
            empty_there z = on (ℕ_discrete (place_of (length index) f j) place)
              where
                is_k : get_or new (place_of (length index) f j) 0 ≡ k
                is_k = ap (λ (a : ℕ). get_or new (place_of (length index) (get_or fps a 0) j) 0) (sym z) ∙ sym (step_new u j) ∙ q ∙ z

                on : Dec (place_of (length index) f j ≡ place) → get_or index (place_of (length index) f j) 0 ≡ mark
                on (yes y) = ap (λ (a : ℕ). get_or index a 0) y ∙ free.2.empty
                on (no y) =
                    let r : get_or index (place_of (length index) f j) 0 ≡ k = sym (new_other (place_of (length index) f j) y) ∙ is_k in
                    ⊎_elim (λ t. t) (λ t. absurd (omega arith)) (w.nodes (place_of (length index) f j) (place_below (length index) f j (omega arith)))
        by (no z) =
            let uk : u < k = omega arith in
            let r = w.earlier u v j l uk e (stood (place_of (length index) (get_or fps u 0) j) u uk (sym (step_new u j) ∙ q)) in
            (r.0, r.1, step_new u r.0 ∙ stays _ (not_mark v _ (omega arith) r.2) ∙ r.2)

    holds_more : Holds new (suc k)
    holds_more = record {
      few = more;
      nodes = λ p h. by p h (ℕ_discrete p place);
      stands = stands_new;
      earlier = earlier_new;
      room = omega (arith, new_long, w.room, empties_set index place k place_in free.2.empty (λ z. absurd (omega arith)));
    }
      where
        by : (p : ℕ) → p < length new → Dec (p ≡ place) → (get_or new p 0 ≡ mark) ⊎ (get_or new p 0 < suc k)
        by p h (yes z) = inr (omega (arith, ap (λ (a : ℕ). get_or new a 0) z, new_at))
        by p h (no z) =
            ⊎_elim (λ (t : get_or index p 0 ≡ mark). inl (new_other p z ∙ t)) (λ (t : get_or index p 0 < k). inr (omega (arith, new_other p z)))
            (w.nodes p (omega (arith, new_long)))

    pub holds_inserted : Holds (inserted index (get_or fps k 0) k) (suc k)
    holds_inserted = subst (λ (i : List ℕ). Holds i (suc k)) (sym inserted_is) holds_more

  -- ---- a filled part

  pub filled_length : (size count : ℕ) → length (filled fps size count) ≡ size
  unfolding filled inserted
  filled_length size zero = length-replicate size mark
  filled_length size (suc count) =
      let index : List ℕ = filled fps size count in
      put_length index (free_of index (get_or fps count 0) 0 (length index)) ∙ filled_length size count
    where
      put_length : (index : List ℕ) (r : Lookup) → length (put_at index count r) ≡ length index
      put_length index (found p) = length-set index p count
      put_length index none = refl

  pub filled_holds : (size count : ℕ) → count ≤ size → count ≤ mark → Holds (filled fps size count) count
  unfolding filled
  filled_holds size zero h l = cleared size
  filled_holds size (suc count) h l =
      let w = filled_holds size count (omega arith) (omega arith) in
      let s : count < length (filled fps size count) = omega (arith, filled_length size count) in
      holds_inserted (filled fps size count) count w (omega arith) s

-- only the fingerprints of the nodes put in count: so a build that puts each node in as it is appended leaves what a
-- fill leaves
pub filled_cong : (fps gps : List ℕ) (size count : ℕ) → ((v : ℕ) → v < count → get_or fps v 0 ≡ get_or gps v 0) → filled fps size count ≡ filled gps size count
unfolding filled
filled_cong fps gps size zero h = refl
filled_cong fps gps size (suc count) h =
    ap (λ (f : ℕ). inserted (filled fps size count) f count) (h count (omega arith))
    ∙ ap (λ (i : List ℕ). inserted i (get_or gps count 0) count) (filled_cong fps gps size count (λ v l. h v (omega arith)))
