-- Laws of the look-up: its steps, and what is found, said of nodes. Assumes nothing.
use mathlib.Core.Path.{◌≡◌, refl, sym, ap, ◌∙◌, subst}
use mathlib.Core.Bool.{Bool, true, false, ◌||◌}
use mathlib.Core.List.{List}
use Prim.Native.Nat.{ℕ, zero, suc, ◌+◌, ◌-◌, ◌%◌, ◌≤◌, ◌<◌}
use native.Mathlib.Numerals.{add-one}
use native.Mathlib.Omega.{arith}
use native.Mathlib.Decide.{ℕ_discrete}
use lib.Dec.{eqb}
use lib.ListN.{get_or}
use borrow.Author.Tests.{eq-eqb, ne_eqb, eqb-true, eqb-false}
use Rattle.ints.specs.Lists.{pick}
use Rattle.ints.proofs.Bools.{neither}
use Rattle.walk.specs.Lookup.{Lookup, found, none, lowest_of, lowest_from}
use Rattle.walk.specs.Meaning.{LowestNode, Nowhere, LooksUp}

-- ---- one node of the scan

module _ (fps : List ℕ) (count i f : ℕ) where
  step : i < count → lowest_from fps count i f ≡ pick (eqb (get_or fps i 0) f) (found i) (lowest_from fps count (i + 1) f)
  unfolding lowest_from
  step h =
      let e : count - i ≡ suc (count - (i + 1)) = omega arith in
      rw (e, add-one)

  pub lookup_here : i < count → get_or fps i 0 ≡ f → found i ≡ lowest_from fps count i f
  lookup_here h e = sym (step h ∙ rw (eq-eqb (get_or fps i 0) f e))

  pub lookup_on : i < count → (get_or fps i 0 ≡ f → ⊥) → lowest_from fps count i f ≡ lowest_from fps count (i + 1) f
  lookup_on h e = step h ∙ rw (ne_eqb (get_or fps i 0) f e)

  pub lookup_end : count ≤ i → none ≡ lowest_from fps count i f
  unfolding lowest_from
  lookup_end h =
      let e : count - i ≡ 0 = omega arith in
      rw e

-- ---- nodes that are passed over together

-- the nodes from the start to below i, and whether one of them has the fingerprint: if none has, the look-up may begin
-- at i
pub record Passed (fps : List ℕ) (from end f i : ℕ) (found : Bool) : Type 0 where
  pub within : i ≤ end
  pub none_has : (count : ℕ) → end ≤ count → found ≡ false → lowest_from fps count i f ≡ lowest_from fps count from f

pub passed_none : (fps : List ℕ) (from end f : ℕ) → from ≤ end → Passed fps from end f from false
passed_none fps from end f h = record { within = h; none_has = λ count p e. refl }

-- one node more: the lower 32 bits were compared
pub passed_more : {fps : List ℕ} {from end f i a b : ℕ} {found : Bool} → Passed fps from end f i found → i < end → a ≡ get_or fps i 0 % 4294967296
    → b ≡ f % 4294967296 → Passed fps from end f (i + 1) (found || eqb a b)
passed_more {fps} {from} {end} {f} {i} {a} {b} {found} w h p q = record {
  within = omega arith;
  none_has = λ count l e.
      let n = neither found (eqb a b) e in
      sym (lookup_on fps count i f (omega arith) (λ z. eqb-false a b n.1 (p ∙ ap (λ (v : ℕ). v % 4294967296) z ∙ sym q))) ∙ w.none_has count l n.0;
}

-- ---- what the definition says of nodes

module _ (fps : List ℕ) (count from f : ℕ) where
  abbrev Says : Lookup → Type 0
  Says (found node) = LowestNode fps count from f node
  Says none = Nowhere fps count from f

  -- none of the nodes from the start to below i has the fingerprint
  abbrev NoneTo : ℕ → Type 0
  NoneTo i = (m : ℕ) → from ≤ m → m < i → get_or fps m 0 ≡ f → ⊥

  says_of : (i m : ℕ) → count - i ≡ m → from ≤ i → NoneTo i → Says (lowest_of fps f i m)
  says_of i zero e h no-earlier = record { none_has = λ m p q. no-earlier m p (omega arith) }
  says_of i (suc m) e h no-earlier =
      by (eqb (get_or fps i 0) f) refl (λ miss. says_of (suc i) m (omega arith) (omega arith) (one_more miss))
    where
      one_more : (get_or fps i 0 ≡ f → ⊥) → NoneTo (suc i)
      one_more miss k p q = at (ℕ_discrete k i)
        where
          at : Dec (k ≡ i) → get_or fps k 0 ≡ f → ⊥
          at (yes e') = subst (λ (z : ℕ). get_or fps z 0 ≡ f → ⊥) (sym e') miss
          at (no ne) = no-earlier k p (omega arith)

      by : (b : Bool) → eqb (get_or fps i 0) f ≡ b → ((get_or fps i 0 ≡ f → ⊥) → Says (lowest_of fps f (suc i) m)) → Says (pick b (found i) (lowest_of fps f (suc i) m))
      by true t further = record { has = eqb-true (get_or fps i 0) f t; below = omega arith; not_before = h; none_before = no-earlier }
      by false t further = further (eqb-false (get_or fps i 0) f t)

  says : Says (lowest_from fps count from f)
  unfolding lowest_from
  says = says_of from (count - from) refl (omega arith) (λ m p q. absurd (omega arith))

  -- only one of the answers is true
  only : (r s : Lookup) → Says r → Says s → r ≡ s
  only (found a) (found b) u v = same (ℕ_discrete a b)
    where
      same : Dec (a ≡ b) → found a ≡ found b
      same (yes e) = ap found e
      same (no ne) = absurd (by (ℕ_discrete (a - b) 0))
        where
          by : Dec (a - b ≡ 0) → ⊥
          by (yes e) = v.none_before a u.not_before (omega arith) u.has
          by (no e) = u.none_before b v.not_before (omega arith) v.has
  only (found a) none u v = absurd (v.none_has a u.not_before u.below u.has)
  only none (found b) u v = absurd (u.none_has b v.not_before v.below v.has)
  only none none u v = refl

  pub looks_up : LooksUp fps count from f
  looks_up = record {
    is_found = λ node. (λ e. subst Says e says, λ w. only (lowest_from fps count from f) (found node) says w);
    is_none = (λ e. subst Says e says, λ w. only (lowest_from fps count from f) none says w);
  }
