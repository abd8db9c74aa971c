-- Laws of chains: node by node, and what a chain says of the way along the parents. Assumes nothing.
use mathlib.Core.Path.{◌≡◌, refl, sym, ap, ◌∙◌, subst}
use mathlib.Core.Bool.{Bool, true, false, ◌&&◌}
use mathlib.Core.List.{List, [], ◌∷◌, ◌++◌}
use Prim.Native.Nat.{ℕ, zero, suc, ◌+◌, ◌-◌, ◌≤◌, ◌<◌}
use native.Mathlib.Omega.{arith}
use lib.Dec.{eqb, ltb}
use lib.ListN.{length, get_or, length-append, get_or-append}
use lib.Seq.{ext_get_or, get_or_at}
use borrow.Author.Tests.{lt-ltb, ltb-true, ltb-false, eqb-true, eqb-false}
use Rattle.ints.specs.Lists.{pick, all}
use Rattle.ints.proofs.Bools.{clash, and_left, and_right, all_at}
use Rattle.circuit.specs.Codes.{valid_for, mark}
use Rattle.walk.specs.Chains.{marked, Chain, good, bad, then, linked, chain_of}
use Rattle.walk.specs.Meaning.{Trail, Fault, not_below, not_valid, too_many, no_parent_mark_lem, no_code_mark_lem, Gates, Chained}

-- ---- tests over a list

all_snoc : (f : ℕ → Bool) (l : List ℕ) (g : ℕ) → all f l ≡ true → f g ≡ true → all f (l ++ (g ∷ [])) ≡ true
unfolding all
all_snoc f [] g h k = rw k
all_snoc f (x ∷ l) g h k = rw (and_left (f x) (all f l) h) (all_snoc f l g (and_right (f x) (all f l) h) k)

-- ---- ways along the parents

module _ (parents : List ℕ) where
  -- no way goes on past node 0
  pub walk_within : (node i j m : ℕ) → Trail parents node i m → Trail parents node j 0 → i ≤ j
  walk_within node zero j m u v = omega arith
  walk_within node (suc i) zero m u v = absurd (omega (arith, u.0, v))
  walk_within node (suc i) (suc j) m u v = let h = walk_within (get_or parents node 0) i j m u.1 v.1 in omega arith

  walk_before : (node i j m : ℕ) → Trail parents node i m → 0 < m → Trail parents node j 0 → i < j
  walk_before node zero zero m u p v = absurd (omega (arith, u, v))
  walk_before node zero (suc j) m u p v = omega arith
  walk_before node (suc i) zero m u p v = absurd (omega (arith, u.0, v))
  walk_before node (suc i) (suc j) m u p v = let h = walk_before (get_or parents node 0) i j m u.1 p v.1 in omega arith

  -- the node after i gates
  abbrev ancestor : ℕ → ℕ → ℕ
  ancestor node zero = node
  ancestor node (suc i) = ancestor (get_or parents node 0) i

  walk_to : (node i j m : ℕ) → Trail parents node j m → i ≤ j → Trail parents node i (ancestor node i)
  walk_to node zero j m w h = refl
  walk_to node (suc i) zero m w h = absurd (omega arith)
  walk_to node (suc i) (suc j) m w h = (w.0, walk_to (get_or parents node 0) i j m w.1 (omega arith))

-- ---- the marks of node 0

module _ (parents codes : List ℕ) where
  parent_marked : marked parents codes ≡ true → get_or parents 0 0 ≡ mark
  unfolding marked
  parent_marked e = eqb-true (get_or parents 0 0) mark (and_left (eqb (get_or parents 0 0) mark) _ e)

  code_marked : marked parents codes ≡ true → get_or codes 0 0 ≡ mark
  unfolding marked
  code_marked e = eqb-true (get_or codes 0 0) mark (and_right (eqb (get_or parents 0 0) mark) _ e)

-- a way to node 0, which lacks one of them
pub unmarked : {n basis limit : ℕ} {parents codes : List ℕ} {node : ℕ} (i : ℕ) → Trail parents node i 0 → marked parents codes ≡ false
    → Fault n basis limit parents codes node
unfolding marked
unmarked {n} {basis} {limit} {parents} {codes} {node} i w = by (eqb (get_or parents 0 0) mark) refl
  where
    by : (b : Bool) → eqb (get_or parents 0 0) mark ≡ b → b && eqb (get_or codes 0 0) mark ≡ false → Fault n basis limit parents codes node
    by false e h = no_parent_mark_lem i w (eqb-false (get_or parents 0 0) mark e)
    by true e h = no_code_mark_lem i w (eqb-false (get_or codes 0 0) mark h)

-- ---- a chain, node by node

module _ (n basis : ℕ) (parents codes : List ℕ) where
  abbrev chain : ℕ → ℕ → Chain
  chain left node = chain_of n basis parents codes left node

  -- the test of a node that is not the root
  abbrev fine : ℕ → Bool
  fine node = ltb (get_or parents node 0) node && valid_for n basis (get_or codes node 0)

  linked_at : (rest : Chain) (node : ℕ) → 0 < node → linked n basis parents codes rest node ≡ pick (fine node) (then rest (get_or codes node 0)) bad
  linked_at rest zero p = absurd (omega arith)
  linked_at rest (suc node) p = refl

  never_good : (b : Bool) (g : ℕ) → pick b (then bad g) bad ≡ bad
  never_good true g = refl
  never_good false g = refl

  chain_spent : (node : ℕ) → 0 < node → chain_of n basis parents codes 0 node ≡ bad
  unfolding chain_of
  chain_spent node p = linked_at bad node p ∙ never_good (fine node) (get_or codes node 0)

  chain_step : (left node : ℕ) → 0 < node → chain_of n basis parents codes (suc left) node ≡ pick (fine node) (then (chain left (get_or parents node 0)) (get_or codes node 0)) bad
  unfolding chain_of
  chain_step left node p = linked_at (chain left (get_or parents node 0)) node p

  -- ---- what a chain says of the way

  abbrev Says : ℕ → ℕ → Chain → Type 0
  Says limit node (good l) = Gates n basis limit parents codes node l
  Says limit node bad = Fault n basis limit parents codes node

  pub says_root : (limit : ℕ) (b : Bool) → marked parents codes ≡ b → Says limit 0 (pick b (good []) bad)
  unfolding all
  says_root limit true e = record {
    valid = refl;
    short = omega arith;
    ends = refl;
    parent_mark = parent_marked parents codes e;
    code_mark = code_marked parents codes e;
    falls = none_above;
    gate = λ i m h. absurd (omega arith);
  }
    where
      none_above : (i m : ℕ) → Trail parents 0 i m → 0 < m → get_or parents m 0 < m
      none_above zero m w p = absurd (omega (arith, w))
      none_above (suc i) m w p = absurd (omega (arith, w.0))
  says_root limit false e = unmarked 0 refl e

  -- a fault of the parent's chain is one of the node's
  fault_on : (left node : ℕ) → 0 < node → Fault n basis left parents codes (get_or parents node 0) → Fault n basis (suc left) parents codes node
  fault_on left node p (not_below i m w q h) = not_below (suc i) m (p, w) q h
  fault_on left node p (not_valid i m w q h) = not_valid (suc i) m (p, w) q h
  fault_on left node p (too_many i m w h) = too_many (suc i) m (p, w) (omega arith)
  fault_on left node p (no_parent_mark_lem i w h) = no_parent_mark_lem (suc i) (p, w) h
  fault_on left node p (no_code_mark_lem i w h) = no_code_mark_lem (suc i) (p, w) h

  module _ (left node : ℕ) (p : 0 < node) (below : get_or parents node 0 < node) (ok : valid_for n basis (get_or codes node 0) ≡ true) where
    gates_on : (l : List ℕ) → Gates n basis left parents codes (get_or parents node 0) l → Gates n basis (suc left) parents codes node (l ++ (get_or codes node 0 ∷ []))
    gates_on l w =
        let g : ℕ = get_or codes node 0 in
        let size : length (l ++ (g ∷ [])) ≡ suc (length l) = length-append l (g ∷ []) ∙ omega arith in
        record {
          valid = all_snoc (valid_for n basis) l g w.valid ok;
          short = omega (arith, w.short);
          ends = subst (λ (k : ℕ). Trail parents node k 0) (sym size) (p, w.ends);
          parent_mark = w.parent_mark;
          code_mark = w.code_mark;
          falls = falls_on;
          gate = λ i m h v. ap (λ (k : ℕ). get_or (l ++ (g ∷ [])) (k - suc i) 0) size ∙ gate_on i m (omega arith) v;
        }
      where
        falls_on : (i m : ℕ) → Trail parents node i m → 0 < m → get_or parents m 0 < m
        falls_on zero m v q = subst (λ (k : ℕ). get_or parents k 0 < k) v below
        falls_on (suc i) m v q = w.falls i m v.1 q

        gate_on : (i m : ℕ) → i < suc (length l) → Trail parents node i m → get_or (l ++ (get_or codes node 0 ∷ [])) (suc (length l) - suc i) 0 ≡ get_or codes m 0
        gate_on zero m h v = get_or_at l (get_or codes node 0) [] 0 (suc (length l) - 1) (omega arith) ∙ ap (λ (k : ℕ). get_or codes k 0) v
        gate_on (suc i) m h v =
            let e : suc (length l) - suc (suc i) ≡ length l - suc i = omega arith in
            rw e (get_or-append l (get_or codes node 0 ∷ []) 0 (length l - suc i) (omega arith) ∙ w.gate i m (omega arith) v.1)

    says_on : (k : Chain) → Says left (get_or parents node 0) k → Says (suc left) node (then k (get_or codes node 0))
    says_on (good l) w = gates_on l w
    says_on bad w = fault_on left node p w

  says_link : (left node : ℕ) → 0 < node → (k : Chain) → Says left (get_or parents node 0) k → (b t : Bool) → ltb (get_or parents node 0) node ≡ b → valid_for n basis (get_or codes node 0) ≡ t → Says (suc left) node (pick (b && t) (then k (get_or codes node 0)) bad)
  says_link left node p k w true true e f = says_on left node p (ltb-true (get_or parents node 0) node e) f k w
  says_link left node p k w true false e f = not_valid 0 node refl p f
  says_link left node p k w false t e f = not_below 0 node refl p (ltb-false (get_or parents node 0) node e)

  says_0 : (node : ℕ) → Says 0 node (chain 0 node)
  unfolding chain_of
  says_0 zero = says_root 0 (marked parents codes) refl
  says_0 (suc node) = subst (λ (k : Chain). Says 0 (suc node) k) (sym (chain_spent (suc node) (omega arith))) (too_many 1 (get_or parents (suc node) 0) (omega arith, refl) (omega arith))

  says : (limit node : ℕ) → Says limit node (chain limit node)
  unfolding chain_of
  says zero node = says_0 node
  says (suc left) zero = says_root (suc left) (marked parents codes) refl
  says (suc left) (suc node) =
      says_link left (suc node) (omega arith) (chain left (get_or parents (suc node) 0)) (says left (get_or parents (suc node) 0)) (ltb (get_or parents (suc node) 0) (suc node)) (valid_for n basis (get_or codes (suc node) 0)) refl refl

  -- ---- only one of the answers is true

  module _ (limit node : ℕ) where
    sound : (l : List ℕ) → Gates n basis limit parents codes node l → Fault n basis limit parents codes node → ⊥
    sound l w (not_below i m v p h) = let k = w.falls i m v p in omega arith
    sound l w (not_valid i m v p h) =
        let k : i < length l = walk_before parents node i (length l) m v p w.ends in
        clash (sym (ap (valid_for n basis) (w.gate i m k v)) ∙ all_at (valid_for n basis) l (length l - suc i) w.valid (omega arith)) h
    sound l w (too_many i m v h) = let k = walk_within parents node i (length l) m v w.ends in omega (arith, w.short)
    sound l w (no_parent_mark_lem i v h) = h w.parent_mark
    sound l w (no_code_mark_lem i v h) = h w.code_mark

    same_list : (l l' : List ℕ) → Gates n basis limit parents codes node l → Gates n basis limit parents codes node l' → l ≡ l'
    same_list l l' u v = ext_get_or 0 l l' size at
      where
        size : length l ≡ length l'
        size = omega (arith, walk_within parents node (length l) (length l') 0 u.ends v.ends, walk_within parents node (length l') (length l) 0 v.ends u.ends)

        at : (i : ℕ) → i < length l → get_or l i 0 ≡ get_or l' i 0
        at i h =
            let k : ℕ = length l - suc i in
            let w = walk_to parents node k (length l) 0 u.ends (omega arith) in
            let e : length l - suc k ≡ i = omega arith in
            let f : length l' - suc k ≡ i = omega (arith, size) in
            rw e at (u.gate k (ancestor parents node k) (omega arith) w) ∙ sym (rw f at (v.gate k (ancestor parents node k) (omega (arith, size)) w))

    only : (r s : Chain) → Says limit node r → Says limit node s → r ≡ s
    only (good l) (good l') u v = ap good (same_list l l' u v)
    only (good l) bad u v = absurd (sound l u v)
    only bad (good l) u v = absurd (sound l v u)
    only bad bad u v = refl

    pub bad_by : Fault n basis limit parents codes node → chain_of n basis parents codes limit node ≡ bad
    bad_by f = only (chain limit node) bad (says limit node) f

    pub good_by : {l : List ℕ} → Gates n basis limit parents codes node l → chain_of n basis parents codes limit node ≡ good l
    good_by {l} w = only (chain limit node) (good l) (says limit node) w

    pub gates_of : {l : List ℕ} → chain_of n basis parents codes limit node ≡ good l → Gates n basis limit parents codes node l
    gates_of e = subst (λ (k : Chain). Says limit node k) e (says limit node)

    pub fault_of : chain_of n basis parents codes limit node ≡ bad → Fault n basis limit parents codes node
    fault_of e = subst (λ (k : Chain). Says limit node k) e (says limit node)

  -- ---- a node above a good chain

  pub chain_more : (limit node : ℕ) → 0 < limit → 0 < node → get_or parents node 0 < node → valid_for n basis (get_or codes node 0) ≡ true → chain_of n basis parents codes limit node ≡ then (chain_of n basis parents codes (limit - 1) (get_or parents node 0)) (get_or codes node 0)
  chain_more limit node q p below ok =
      let e : limit ≡ suc (limit - 1) = omega arith in
      ap (λ (k : ℕ). chain k node) e ∙ chain_step (limit - 1) node p ∙ rw (lt-ltb (get_or parents node 0) node below, ok)

  -- the last gate of a good chain and the chain of its parent
  pub record LastGate (limit node : ℕ) (l : List ℕ) : Type 0 where
    pub below : get_or parents node 0 < node
    pub rest : List ℕ
    pub split : l ≡ rest ++ (get_or codes node 0 ∷ [])
    pub before : chain_of n basis parents codes (limit - 1) (get_or parents node 0) ≡ good rest

  module _ (limit node : ℕ) {l : List ℕ} (e : chain_of n basis parents codes limit node ≡ good l) where
    pub longer : 0 < node → 0 < length l
    longer p = by (length l) refl
      where
        by : (m : ℕ) → length l ≡ m → 0 < m
        by zero z = absurd (omega (arith, subst (λ (k : ℕ). Trail parents node k 0) z (gates_of limit node e).ends))
        by (suc m) z = omega arith

    above_root : 0 < length l → 0 < node
    above_root h = by (length l) refl
      where
        by : (m : ℕ) → length l ≡ m → 0 < node
        by zero z = absurd (omega arith)
        by (suc m) z = (subst (λ (k : ℕ). Trail parents node k 0) z (gates_of limit node e).ends).0

    pub link : 0 < length l → LastGate limit node l
    link h =
        let w = gates_of limit node e in
        let p = above_root h in
        let below = w.falls 0 node refl p in
        let ok = sym (ap (valid_for n basis) (w.gate 0 node h refl)) ∙ all_at (valid_for n basis) l (length l - 1) w.valid (omega arith) in
        by below (chain (limit - 1) (get_or parents node 0)) refl (sym (chain_more limit node (omega (arith, w.short)) p below ok) ∙ e)
      where
        by : get_or parents node 0 < node → (k : Chain) → chain (limit - 1) (get_or parents node 0) ≡ k → then k (get_or codes node 0) ≡ good l → LastGate limit node l
        by below (good r) f g = record { below = below; rest = r; split = cc; before = f }
        by below bad f g = let z : ◌≡◌ {A = ℕ} 0 1 = cc in absurd (omega arith)

    -- the parent's chain is good with the same gate limit too
    pub parent_good : 0 < length l → (k : LastGate limit node l) → chain limit (get_or parents node 0) ≡ good k.rest
    parent_good h k =
        let w = gates_of (limit - 1) (get_or parents node 0) k.before in
        good_by limit (get_or parents node 0) (record { valid = w.valid; short = omega (arith, w.short); ends = w.ends; parent_mark = w.parent_mark; code_mark = w.code_mark; falls = w.falls; gate = w.gate })

  pub chained : (limit node : ℕ) → Chained n basis limit parents codes node
  chained limit node = record {
    is_bad_lem = (fault_of limit node, bad_by limit node);
    is_good_lem = λ l. (gates_of limit node, good_by limit node);
  }
