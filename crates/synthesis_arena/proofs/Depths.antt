-- Laws of a node's depth: in each case of the code, and as the definition has it. Assumes nothing.
use mathlib.Core.Path.{◌≡◌, refl, sym, ap, ◌∙◌}
use mathlib.Core.Bool.{true, false}
use mathlib.Core.List.{List, [], ◌∷◌}
use Rattle.std.specs.Prelude.{Result, Ok, Err, IsErr}
use Prim.Native.Nat.{ℕ, ◌+◌, ◌-◌, ◌≤◌, ◌<◌}
use native.Mathlib.Omega.{arith}
use lib.ListN.{length, get_or, length-append}
use Rattle.circuit.specs.Codes.{valid_for}
use Rattle.exact.specs.Answers.{given, refused}
use Rattle.synthesis_arena.specs.Chains.{depth_of, one_more_of, told_depth, Depths}
use Rattle.walk.specs.Chains.{marked, Chain, good, bad, then, chain_of}
use Rattle.walk.specs.Meaning.{Fault, not_below, not_valid, too_many}
use Rattle.walk.proofs.Chaining.{walk_within, unmarked, says_root, bad_by, good_by, gates_of, chain_more, link, longer, parent_good}
use Rattle.synthesis_arena.specs.declared.BadChain.{BadChain}

-- an error is the one refusal
pub told_err : (r : Result ℕ BadChain) → IsErr r → refused 13 0 ≡ told_depth r
told_err (Ok m) h = cc
told_err (Err b) h = refl

module _ (n basis : ℕ) (parents codes : List ℕ) where
  abbrev chain : ℕ → ℕ → Chain
  chain left node = chain_of n basis parents codes left node

  module _ (limit node : ℕ) {l : List ℕ} (e : chain_of n basis parents codes limit node ≡ good l) where
    root_depth : node ≡ 0 → depth_of (chain limit node) ≡ given 0
    root_depth z =
        let h = walk_within parents node (length l) 0 0 (gates_of n basis parents codes limit node e).ends z in
        ap depth_of e ∙ ap given (omega arith)

    one_more : 0 < node → depth_of (chain limit node) ≡ one_more_of (depth_of (chain limit (get_or parents node 0)))
    one_more p =
        let k = link n basis parents codes limit node e (longer n basis parents codes limit node e p) in
        ap depth_of e ∙ ap given (ap length k.split ∙ length-append k.rest (get_or codes node 0 ∷ []) ∙ omega arith)
        ∙ sym (ap (λ (x : Chain). one_more_of (depth_of x)) (parent_good n basis parents codes limit node e (longer n basis parents codes limit node e p) k))

  pub depths : (limit node : ℕ) → Depths n basis limit parents codes node
  depths limit node = record { root_depth = λ l e. root_depth limit node e; one_more = λ l e. one_more limit node e }

  -- ---- the depth, in each case of the code

  module _ (limit node : ℕ) where
    refused_by : Fault n basis limit parents codes node → refused 13 0 ≡ depth_of (chain limit node)
    refused_by f = sym (ap depth_of (bad_by n basis parents codes limit node f))

    pub depth_unmarked : node ≡ 0 → marked parents codes ≡ false → refused 13 0 ≡ depth_of (chain_of n basis parents codes limit node)
    depth_unmarked z t = refused_by (unmarked 0 z t)

    pub depth_root : node ≡ 0 → marked parents codes ≡ true → given 0 ≡ depth_of (chain_of n basis parents codes limit node)
    depth_root z t = sym (ap depth_of (ap (λ (k : ℕ). chain limit k) z ∙ good_by n basis parents codes limit 0 (says_root n basis parents codes limit true t)))

    module _ (p : 0 < node) where
      pub depth_spent : limit ≡ 0 → refused 13 0 ≡ depth_of (chain_of n basis parents codes limit node)
      depth_spent z = refused_by (too_many 1 (get_or parents node 0) (p, refl) (omega arith))

      pub depth_not_below : node ≤ get_or parents node 0 → refused 13 0 ≡ depth_of (chain_of n basis parents codes limit node)
      depth_not_below h = refused_by (not_below 0 node refl p h)

      pub depth_not_valid : valid_for n basis (get_or codes node 0) ≡ false → refused 13 0 ≡ depth_of (chain_of n basis parents codes limit node)
      depth_not_valid t = refused_by (not_valid 0 node refl p t)

      module _ (q : 0 < limit) (below : get_or parents node 0 < node) (ok : valid_for n basis (get_or codes node 0) ≡ true) where
        pub depth_more : {m : ℕ} → given m ≡ depth_of (chain_of n basis parents codes (limit - 1) (get_or parents node 0)) → given (m + 1) ≡ depth_of (chain_of n basis parents codes limit node)
        depth_more {m = m} h = by (chain (limit - 1) (get_or parents node 0)) h ∙ sym (ap depth_of (chain_more n basis parents codes limit node q p below ok))
          where
            by : (k : Chain) → given m ≡ depth_of k → given (m + 1) ≡ depth_of (then k (get_or codes node 0))
            by (good l) f = let z : m ≡ length l = cc in ap given (omega (arith, z, length-append l (get_or codes node 0 ∷ [])))
            by bad f = let z : ◌≡◌ {A = ℕ} 0 1 = cc in absurd (omega arith)

        pub depth_bad : refused 13 0 ≡ depth_of (chain_of n basis parents codes (limit - 1) (get_or parents node 0)) → refused 13 0 ≡ depth_of (chain_of n basis parents codes limit node)
        depth_bad h = by (chain (limit - 1) (get_or parents node 0)) h ∙ sym (ap depth_of (chain_more n basis parents codes limit node q p below ok))
          where
            by : (k : Chain) → refused 13 0 ≡ depth_of k → refused 13 0 ≡ depth_of (then k (get_or codes node 0))
            by (good l) f = let z : ◌≡◌ {A = ℕ} 0 1 = cc in absurd (omega arith)
            by bad f = refl

    -- a depth is that of a good chain, within the gate limit
    pub record Deep (m : ℕ) : Type 0 where
      pub list : List ℕ
      pub is : chain_of n basis parents codes limit node ≡ good list
      pub size : m ≡ length list
      pub within : m ≤ limit

    deep_given : {m : ℕ} (k : Chain) → chain limit node ≡ k → given m ≡ depth_of k → Deep m
    deep_given {m} (good l) e f =
        let z : m ≡ length l = cc in
        record { list = l; is = e; size = z; within = omega (arith, (gates_of n basis parents codes limit node e).short) }
    deep_given bad e f = let z : ◌≡◌ {A = ℕ} 0 1 = cc in absurd (omega arith)

    pub deep : {m : ℕ} → given m ≡ depth_of (chain_of n basis parents codes limit node) → Deep m
    deep h = deep_given (chain limit node) refl h

    pub not_deep : refused 13 0 ≡ depth_of (chain_of n basis parents codes limit node) → chain_of n basis parents codes limit node ≡ bad
    not_deep h = by (chain limit node) refl h
      where
        by : (k : Chain) → chain limit node ≡ k → refused 13 0 ≡ depth_of k → k ≡ bad
        by (good l) f g = let z : ◌≡◌ {A = ℕ} 0 1 = cc in absurd (omega arith)
        by bad f g = refl
