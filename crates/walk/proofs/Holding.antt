-- Arrays that hold the nodes of a walk, in any mode: a node's chain is its list, so no chain is bad, and a look-up that
-- finds the scan's node finds for a matrix the lowest node that answers it. Assumes nothing.
use mathlib.Core.Path.{◌≡◌, refl, sym, ap, ◌∙◌}
use mathlib.Core.Bool.{Bool, true, false}
use mathlib.Core.List.{List, [], reverse}
use mathlib.Core.Option.{some}
use Prim.Native.Nat.{ℕ, ◌≤◌, ◌<◌}
use native.Mathlib.Omega.{arith}
use native.Mathlib.Decide.{dec_lt}
use borrow.Author.Tests.{lt-ltb, le-ltb}
use lib.Dec.{ltb}
use lib.ListN.{length, get_or, length-reverse}
use Rattle.ints.specs.Lists.{pick}
use Rattle.ints.proofs.Bools.{clash, and_left, and_right, and_both}
use Rattle.exact.specs.Matrix.{Exact, Lowest, PowerOf}
use Rattle.exact.specs.Lists.{product}
use Rattle.exact.specs.Phase.{up_to_phase}
use Rattle.exact.specs.Fingerprint.{fingerprint}
use Rattle.walk.specs.Walk.{Rules, Node, root, gate, list_at, any, prod}
use Rattle.walk.specs.Modes.{Mode}
use Rattle.walk.specs.AtWidth.{same_print, print_of, parent_of, at_width}
use Rattle.walk.specs.Chains.{Chain, good, bad}
use Rattle.walk.specs.Finds.{WidthLimits, Part, node, none, chain_at, find_of, is_node}
use Rattle.walk.specs.Meaning.{Passed, not_equal, FoundBy, BadFound, AsScan, HasPrint}
use Rattle.walk.proofs.Grown.{Grown}
use Rattle.walk.proofs.Nodewise.{lowest, answers_to, answer, oldest_first}
use Rattle.walk.proofs.Sequences.{any_true, any_at}
use Rattle.walk.proofs.Nodes.{fit}
use Rattle.walk.proofs.Answers.{lowest_passes, lowest_least, found}
use Rattle.walk.proofs.Exactly.{laws, query_lowest, print_same, same_print_lem, print_is, product_is}
use Rattle.walk.proofs.Rechecks.{steps_fit_lem}
use Rattle.walk.proofs.Chaining.{gates_of, bad_by, good_by}
use Rattle.walk.proofs.Held.{chain_is}
use Rattle.walk.proofs.Meaning.{at_below, scan_means}

-- the first places of three arrays hold the nodes; what other places hold plays no part
pub record Holding (n : ℕ) (ns : List Node) (f u c : List ℕ) : Type 0 where
  pub prints : (j : ℕ) → j < length ns → get_or f j 0 ≡ print_of n (get_or ns j root)
  pub parents : (j : ℕ) → j < length ns → get_or u j 0 ≡ parent_of (get_or ns j root)
  pub codes : (j : ℕ) → j < length ns → get_or c j 0 ≡ gate (get_or ns j root)

-- the list of a good chain
abbrev list_of : Chain → List ℕ
list_of (good l) = l
list_of bad = []

-- a chain is good or bad
abbrev is_bad : Chain → ℕ
is_bad (good l) = 0
is_bad bad = 1

module _ (mode : Mode) (limits : WidthLimits) (small : limits.width ≤ 5) where
  abbrev n : ℕ
  n = limits.width

  abbrev R : Rules
  R = at_width mode n limits.basis

  module _ {ns : List Node} (grown : Grown R ns) (short : (j : ℕ) → j < length ns → length (list_at ns j) ≤ limits.gates)
      (part : Part) (all : part.count ≡ length ns) (h : Holding n ns part.fingerprints part.parents part.codes) where
    -- a node's chain is its list
    pub held_chain : (j : ℕ) → j < length ns → chain_at limits part j ≡ good (reverse (list_at ns j))
    held_chain j l = chain_is mode n limits.basis small grown (record { parents = h.parents; codes = h.codes }) limits.gates j l (short j l)

    -- whatever the index holds, no chain that is met is bad
    pub not_bad : (x : Exact) → BadFound limits part x → ⊥
    not_bad x f =
        let l : f.node < length ns = omega (arith, at_below limits part x f.leads, all) in
        absurd (omega (arith, ap is_bad (sym (held_chain f.node l) ∙ bad_by _ _ _ _ _ f.node f.fault)))

    module _ (x : Exact) where
      abbrev test : Node → Bool
      test = answers_to R x

      -- the tests of a node, of its list as callers have it
      equal_is : (j : ℕ) → up_to_phase n (product n (reverse (list_at ns j))) x ≡ up_to_phase n (prod R (list_at ns j)) x
      equal_is j = ap (λ (y : Exact). up_to_phase n y x) (product_is mode n limits.basis small (list_at ns j))

      prints_is : (j : ℕ) → j < length ns → get_or part.fingerprints j 0 ≡ fingerprint n (prod R (list_at ns j))
      prints_is j l = h.prints j l ∙ print_is mode n limits.basis (get_or ns j root)

      -- a node with the fingerprint that does not answer is passed
      passes : (j : ℕ) → test (get_or ns j root) ≡ false → HasPrint limits part x j → Passed limits part x j
      passes j e p =
          let l : j < length ns = omega (arith, p.below, all) in
          let s = same_print_lem n (prod R (list_at ns j)) x (sym (prints_is j l) ∙ p.has) in
          not_equal (reverse (list_at ns j)) (gates_of _ _ _ _ _ j (held_chain j l)) (by (up_to_phase n (product n (reverse (list_at ns j))) x) refl s)
        where
          by : (t : Bool) → up_to_phase n (product n (reverse (list_at ns j))) x ≡ t → same_print n (prod R (list_at ns j)) x ≡ true
              → up_to_phase n (product n (reverse (list_at ns j))) x ≡ false
          by false q s = q
          by true q s = clash (and_both (same_print n (prod R (list_at ns j)) x) (up_to_phase n (prod R (list_at ns j)) x) s (sym (equal_is j) ∙ q)) e

      not_test : (j : ℕ) → (test (get_or ns j root) ≡ true → ⊥) → test (get_or ns j root) ≡ false
      not_test j q = by (test (get_or ns j root)) refl
        where
          by : (t : Bool) → test (get_or ns j root) ≡ t → test (get_or ns j root) ≡ false
          by false e = e
          by true e = absurd (q e)

      -- whatever the index holds, a list that is found is the one that the nodes answer: no other node is equal up to
      -- phase
      pub given_held : Lowest n x → (j : ℕ) (l : List ℕ) → FoundBy limits part x j l → oldest_first (answer R ns x) ≡ some l
      given_held low j l f =
          let h : j < length ns = omega (arith, at_below limits part x f.leads, all) in
          let e : reverse (list_at ns j) ≡ l = ap list_of (sym (held_chain j h) ∙ good_by _ _ _ _ _ j f.gates) in
          let q : up_to_phase n (prod R (list_at ns j)) x ≡ true = sym (equal_is j) ∙ ap (λ (m : List ℕ). up_to_phase n (product n m) x) e ∙ f.equal in
          let W = laws mode n limits.basis small in
          ap oldest_first (found R (PowerOf n) W x (query_lowest mode n limits.basis small low) grown j h (W.equal_same (prod R (list_at ns j)) x q))
          ∙ ap some e

      abbrev k : ℕ
      k = lowest test ns

      module _ (same : AsScan limits part x) where
        there : k < length ns → find_of limits part x ≡ node k (length (list_at ns k))
        there l =
            let t = lowest_passes test root ns l in
            let e = and_right (same_print n (prod R (list_at ns k)) x) (up_to_phase n (prod R (list_at ns k)) x) t in
            let p = and_left (same_print n (prod R (list_at ns k)) x) (up_to_phase n (prod R (list_at ns k)) x) t in
            ((scan_means limits part x same).is_node_lem k (length (list_at ns k))).1 (
              reverse (list_at ns k),
              record {
                print = record { below = omega (arith, l, all); has = prints_is k l ∙ print_same n (prod R (list_at ns k)) x p };
                passed = λ m q w. passes m (not_test m (λ u. absurd (omega (arith, q, lowest_least test root ns m (omega (arith, q, l)) u)))) w;
              },
              gates_of _ _ _ _ _ k (held_chain k l),
              steps_fit_lem n mode limits.basis small (list_at ns k) (fit R grown k l),
              equal_is k ∙ e,
              sym (length-reverse (list_at ns k)),
            )

        nowhere : length ns ≤ k → find_of limits part x ≡ none
        nowhere g =
            (scan_means limits part x same).is_none.1
            (λ m w. passes m (not_test m (λ u. absurd (omega (arith, g, w.below, all, lowest_least test root ns m (omega (arith, w.below, all)) u)))) w)

        -- the lowest node that answers
        pub held_find : find_of limits part x ≡ pick (ltb k (length ns)) (node k (length (list_at ns k))) none
        held_find = by (dec_lt k (length ns))
          where
            by : Dec (k < length ns) → find_of limits part x ≡ pick (ltb k (length ns)) (node k (length (list_at ns k))) none
            by (yes l) = rw (lt-ltb k (length ns) l) (there l)
            by (no g) = let q : length ns ≤ k = omega arith in rw (le-ltb k (length ns) q) (nowhere q)

        -- a node is found exactly where some node answers
        pub found_any : is_node (find_of limits part x) ≡ any test ns
        found_any = by (dec_lt k (length ns))
          where
            by : Dec (k < length ns) → is_node (find_of limits part x) ≡ any test ns
            by (yes l) = ap is_node (there l) ∙ sym (any_at test root ns k l (lowest_passes test root ns l))
            by (no g) = ap is_node (nowhere (omega arith)) ∙ sym (none_of (any test ns) refl)
              where
                none_of : (t : Bool) → any test ns ≡ t → any test ns ≡ false
                none_of false e = e
                none_of true e = let r = any_true test root ns e in absurd (omega (arith, g, r.1, lowest_least test root ns r.0 r.1 r.2))
