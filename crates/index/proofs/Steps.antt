-- The loops of a probe and of an insertion, step by step: what is left from step j on is the whole; and the loop of a
-- fill, node by node. Assumes nothing.
use mathlib.Core.Path.{◌≡◌, refl, sym, ap, ◌∙◌}
use mathlib.Core.Bool.{true, false}
use mathlib.Core.List.{List}
use Prim.Native.Nat.{ℕ, suc, ◌+◌, ◌-◌, ◌%◌, ◌≤◌, ◌<◌}
use native.Mathlib.Numerals.{add-one}
use native.Mathlib.Nat.{sub-zero}
use native.Mathlib.Omega.{arith}
use lib.Dec.{eqb}
use lib.ListN.{length, get_or, set, replicate, length-replicate}
use borrow.Author.Tests.{eq-eqb, ne_eqb}
use Rattle.ints.specs.Lists.{pick}
use Rattle.circuit.specs.Codes.{mark}
use Rattle.walk.specs.Lookup.{Lookup, found, none}
use Rattle.walk.specs.Index.{place_of, free_of, put_at, inserted, filled, leads, probe_of, probed}
use Rattle.walk.proofs.Rounds.{place_next, place_below}

-- ---- the place of a step

step_below : (size f j : ℕ) {place : ℕ} → place ≡ place_of size f j → j < size → place < size
step_below size f j e h = omega (arith, e, place_below size f j (omega arith))

-- the place after it is that of the next step
step_more : (size f j : ℕ) {place next : ℕ} → place ≡ place_of size f j → next ≡ (place + 1) % size → next ≡ place_of size f (j + 1)
step_more size f j e q = q ∙ ap (λ (x : ℕ). (x + 1) % size) e ∙ place_next size f j

-- ---- a probe

-- what is left of it from step j on
unfoldable pub probe_from : List ℕ → List ℕ → ℕ → ℕ → ℕ → ℕ → Lookup
probe_from index fps count from f j = probe_of index fps count from f j (length index - j)

-- the loop has come to step j
pub record ProbeAt (index fps : List ℕ) (count from f j place : ℕ) : Type 0 where
  pub at : place ≡ place_of (length index) f j
  pub rest : probe_from index fps count from f j ≡ probed index fps count from f

pub probes_none : (index fps : List ℕ) (count from f : ℕ) → length index ≡ 0 → none ≡ probed index fps count from f
unfolding probe_of probed
probes_none index fps count from f e = rw e

pub probes_start : (index fps : List ℕ) (count from f : ℕ) {place : ℕ} → place ≡ place_of (length index) f 0 → ProbeAt index fps count from f 0 place
unfolding probe_from probed
probes_start index fps count from f e = record { at = e; rest = ap (probe_of index fps count from f 0) (sub-zero (length index)) }

module _ {index fps : List ℕ} {count from f j place : ℕ} (w : ProbeAt index fps count from f j place) where
  pub probes_end : length index ≤ j → none ≡ probed index fps count from f
  unfolding probe_from probe_of
  probes_end h =
      let e : length index - j ≡ 0 = omega arith in
      let q : none ≡ probe_from index fps count from f j = rw e in
      q ∙ w.rest

  module _ (h : j < length index) where
    abbrev node : ℕ
    node = get_or index place 0

    step : probe_from index fps count from f j ≡ pick (eqb node mark) none (pick (leads fps count from f node) (found node) (probe_from index fps count from f (j + 1)))
    unfolding probe_from probe_of
    step =
        let e : length index - j ≡ suc (length index - (j + 1)) = omega arith in
        rw (w.at, e, add-one)

    pub probes_below : place < length index
    probes_below = step_below (length index) f j w.at h

    pub probes_empty : node ≡ mark → none ≡ probed index fps count from f
    probes_empty e = sym (step ∙ rw (eq-eqb node mark e)) ∙ w.rest

    pub probes_here : (node ≡ mark → ⊥) → leads fps count from f node ≡ true → found node ≡ probed index fps count from f
    probes_here ne e = sym (step ∙ rw (ne_eqb node mark ne, e)) ∙ w.rest

    pub probes_on : {next : ℕ} → (node ≡ mark → ⊥) → leads fps count from f node ≡ false → next ≡ (place + 1) % length index
        → ProbeAt index fps count from f (j + 1) next
    probes_on ne e q = record { at = step_more (length index) f j w.at q; rest = sym (step ∙ rw (ne_eqb node mark ne, e)) ∙ w.rest }

-- ---- an insertion

-- what is left of it from step j on
unfoldable pub insert_from : List ℕ → ℕ → ℕ → ℕ → List ℕ
insert_from index f node j = put_at index node (free_of index f j (length index - j))

-- the loop has come to step j, and the part is as it was
pub record InsertAt (old : List ℕ) (f node j place : ℕ) (new : List ℕ) : Type 0 where
  pub as_it_was : new ≡ old
  pub at : place ≡ place_of (length old) f j
  pub rest : insert_from old f node j ≡ inserted old f node

pub inserts_none : (old : List ℕ) (f node : ℕ) → length old ≡ 0 → old ≡ inserted old f node
unfolding free_of inserted
inserts_none old f node e = rw e

pub inserts_start : (old : List ℕ) (f node : ℕ) {place : ℕ} → place ≡ place_of (length old) f 0 → InsertAt old f node 0 place old
unfolding insert_from inserted
inserts_start old f node e = record {
  as_it_was = refl;
  at = e;
  rest = ap (λ (m : ℕ). put_at old node (free_of old f 0 m)) (sub-zero (length old));
}

module _ {old new : List ℕ} {f node j place : ℕ} (w : InsertAt old f node j place new) where
  pub inserts_end : length old ≤ j → new ≡ inserted old f node
  unfolding insert_from free_of
  inserts_end h =
      let e : length old - j ≡ 0 = omega arith in
      let q : old ≡ insert_from old f node j = rw e in
      w.as_it_was ∙ q ∙ w.rest

  module _ (h : j < length old) where
    free_step : free_of old f j (length old - j) ≡ pick (eqb (get_or new place 0) mark) (found place) (free_of old f (j + 1) (length old - (j + 1)))
    unfolding free_of
    free_step =
        let e : length old - j ≡ suc (length old - (j + 1)) = omega arith in
        rw (w.as_it_was, w.at, e, add-one)

    pub inserts_below : place < length old
    inserts_below = step_below (length old) f j w.at h

    pub inserts_inside : place < length new
    inserts_inside = omega (arith, ap length w.as_it_was, inserts_below)

    pub inserts_here : get_or new place 0 ≡ mark → set new place node ≡ inserted old f node
    unfolding insert_from
    inserts_here e =
        let q : free_of old f j (length old - j) ≡ found place = free_step ∙ rw (eq-eqb (get_or new place 0) mark e) in
        ap (λ (x : List ℕ). set x place node) w.as_it_was ∙ sym (ap (put_at old node) q) ∙ w.rest

    pub inserts_on : {next : ℕ} → (get_or new place 0 ≡ mark → ⊥) → next ≡ (place + 1) % length old → InsertAt old f node (j + 1) next new
    unfolding insert_from
    inserts_on ne q =
        let s : free_of old f j (length old - j) ≡ free_of old f (j + 1) (length old - (j + 1)) = free_step ∙ rw (ne_eqb (get_or new place 0) mark ne) in
        record { as_it_was = w.as_it_was; at = step_more (length old) f j w.at q; rest = sym (ap (put_at old node) s) ∙ w.rest }

-- ---- a fill

pub fill_start : (fps old : List ℕ) {new : List ℕ} → new ≡ replicate (length old) mark → new ≡ filled fps (length new) 0
unfolding filled
fill_start fps old {new} e = e ∙ ap (λ (n : ℕ). replicate n mark) (sym (ap length e ∙ length-replicate (length old) mark))

pub fill_more : (fps : List ℕ) (size i : ℕ) {index new : List ℕ} → index ≡ filled fps size i → new ≡ inserted index (get_or fps i 0) i
    → new ≡ filled fps size (i + 1)
unfolding filled
fill_more fps size i {index} {new} p q = q ∙ ap (λ (x : List ℕ). inserted x (get_or fps i 0) i) p ∙ rw add-one
