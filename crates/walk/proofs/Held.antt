-- Arrays that hold the nodes of a walk: what a place holds, and the chain of a node. Assumes nothing.
use mathlib.Core.Path.{◌≡◌, sym, ap, ◌∙◌}
use mathlib.Core.Bool.{true}
use mathlib.Core.List.{List, [], ◌∷◌, ◌++◌, reverse, reverse-cons}
use Prim.Native.Nat.{ℕ, zero, suc, ◌-◌, ◌≤◌, ◌<◌}
use native.Mathlib.Omega.{arith}
use borrow.Author.Tests.{eq-eqb}
use lib.Dec.{eqb}
use lib.ListN.{length, get_or}
use Rattle.ints.proofs.Bools.{and_both}
use Rattle.circuit.specs.Codes.{valid_for, mark}
use Rattle.generators.proofs.Generated.{lists}
use Rattle.walk.specs.Walk.{Node, root, gate, list_at}
use Rattle.walk.proofs.Grown.{parent_at}
use Rattle.walk.specs.Modes.{Mode}
use Rattle.walk.specs.AtWidth.{at_width}
use Rattle.walk.specs.Chains.{Chain, good, then, marked, chain_of}
use Rattle.walk.proofs.Grown.{Grown, Link}
use Rattle.walk.proofs.Nodes.{first, link}
use Rattle.walk.proofs.Chaining.{chain_more}

-- the first places of two arrays hold the parents and the gates of the nodes; what other places hold plays no part
pub record HoldsChains (ns : List Node) (u c : List ℕ) : Type 0 where
  pub parents : (j : ℕ) → j < length ns → get_or u j 0 ≡ parent_at ns j
  pub codes : (j : ℕ) → j < length ns → get_or c j 0 ≡ gate (get_or ns j root)

module _ (mode : Mode) (n basis : ℕ) (small : n ≤ 5) {ns : List Node} (grown : Grown (at_width mode n basis) ns) {u c : List ℕ} (h : HoldsChains ns u c) where
  marks : 0 < length ns → marked u c ≡ true
  unfolding marked
  marks l =
      let e = (first (at_width mode n basis) grown).1 in
      and_both (eqb (get_or u 0 0) mark) (eqb (get_or c 0 0) mark)
      (eq-eqb (get_or u 0 0) mark (h.parents 0 l ∙ ap (λ (v : Node). v.parent) e))
      (eq-eqb (get_or c 0 0) mark (h.codes 0 l ∙ ap (λ (v : Node). get_or v.list 0 mark) e))

  chain_root : (limit : ℕ) → 0 < length ns → chain_of n basis u c limit 0 ≡ good []
  unfolding chain_of
  chain_root zero l = rw (marks l)
  chain_root (suc limit) l = rw (marks l)

  abbrev Is : ℕ → ℕ → Type 0
  Is limit j = j < length ns → length (list_at ns j) ≤ limit → chain_of n basis u c limit j ≡ good (reverse (list_at ns j))

  chain_none : (j : ℕ) → Is 0 j
  chain_none zero l s = chain_root 0 l ∙ ap (λ (v : Node). good (reverse v.list)) (sym (first (at_width mode n basis) grown).1)
  chain_none (suc j) l s =
      let i : Link (at_width mode n basis) ns (suc j) (get_or ns (suc j) root) = link (at_width mode n basis) grown (suc j) l (omega arith) in
      absurd (omega (arith, ap length i.is))

  chain_next : (limit j : ℕ) → ((i : ℕ) → Is limit i) → Is (suc limit) j
  chain_next limit zero before l s = chain_root (suc limit) l ∙ ap (λ (v : Node). good (reverse v.list)) (sym (first (at_width mode n basis) grown).1)
  chain_next limit (suc j) before l s =
      let i : Link (at_width mode n basis) ns (suc j) (get_or ns (suc j) root) = link (at_width mode n basis) grown (suc j) l (omega arith) in
      let up : get_or u (suc j) 0 ≡ parent_at ns (suc j) = h.parents (suc j) l in
      let e : get_or c (suc j) 0 ≡ i.code = h.codes (suc j) l ∙ ap (λ (z : List ℕ). get_or z 0 mark) i.is in
      let below : get_or u (suc j) 0 < suc j = omega (arith, i.below) in
      let ok : valid_for n basis (get_or c (suc j) 0) ≡ true = ap (valid_for n basis) e ∙ (lists n basis (omega arith)).sound i.code i.generator in
      let one : suc limit - 1 ≡ limit = omega arith in
      let rest : chain_of n basis u c (suc limit - 1) (get_or u (suc j) 0) ≡ good (reverse (list_at ns (parent_at ns (suc j))))
      = ap (λ (z : ℕ). chain_of n basis u c z (get_or u (suc j) 0)) one ∙ ap (chain_of n basis u c limit) up
      ∙ before (parent_at ns (suc j)) (omega (arith, i.below)) (omega (arith, ap length i.is)) in
      chain_more n basis u c (suc limit) (suc j) (omega arith) (omega arith) below ok
      ∙ ap (λ (z : Chain). then z (get_or c (suc j) 0)) rest
      ∙ ap (λ (z : ℕ). good (reverse (list_at ns (parent_at ns (suc j))) ++ (z ∷ []))) e
      ∙ ap good (sym (reverse-cons i.code (list_at ns (parent_at ns (suc j)))))
      ∙ ap (λ (z : List ℕ). good (reverse z)) (sym i.is)

  -- the chain of a node, by the arrays, is its list, oldest gate first
  pub chain_is : (limit j : ℕ) → Is limit j
  chain_is zero j = chain_none j
  chain_is (suc limit) j = chain_next limit j (λ i. chain_is limit i)
