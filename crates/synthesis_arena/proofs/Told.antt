-- What a caller learns from an answer. Assumes nothing.
use mathlib.Core.Path.{◌≡◌, refl, sym, ap, ◌∙◌}
use mathlib.Core.List.{List, ◌++◌}
use Rattle.std.specs.Prelude.{Option, Some, None, Result, Ok, Err}
use Prim.Native.Nat.{ℕ}
use native.Mathlib.Omega.{arith}
use lib.ListN.{length, take, drop}
use lib.Seq.{take_at, drop_at}
use Rattle.synthesis_arena.specs.Lookup.{told_found}
use Rattle.walk.specs.Lookup.{lowest_from}
use Rattle.walk.specs.Meaning.{LowestNode, Nowhere, Gates}
use Rattle.synthesis_arena.specs.Chains.{told_circuit}
use Rattle.walk.specs.Answers.{given, refused, Outcome, outcome, written}
use Rattle.walk.specs.Chains.{Chain, good, bad, chain_of}
use Rattle.synthesis_arena.specs.declared.BadChain.{BadChain}
use Rattle.walk.proofs.Lookups.{looks_up}
use Rattle.walk.proofs.Chaining.{gates_of}

-- ---- of `node_for`

module _ (fps : List ℕ) (count from f : ℕ) {r : Option ℕ} (told : told_found r ≡ lowest_from fps count from f) where
  pub found_lowest : {node : ℕ} → r ≡ Some node → LowestNode fps count from f node
  found_lowest {node} e = ((looks_up fps count from f).is_found node).0 (sym told ∙ ap told_found e)

  pub found_nowhere : r ≡ None → Nowhere fps count from f
  found_nowhere e = (looks_up fps count from f).is_none.0 (sym told ∙ ap told_found e)

-- ---- of `circuit`

module _ (n basis : ℕ) (parents codes : List ℕ) (limit node : ℕ) (old new : List ℕ) where
  -- the chain is good, and its list fills the first places
  pub record ChainRead (m : ℕ) : Type 0 where
    pub list : List ℕ
    pub is : chain_of n basis parents codes limit node ≡ good list
    pub size : m ≡ length list
    pub gates : Gates n basis limit parents codes node list
    pub first : take m new ≡ list
    pub later : drop m new ≡ drop m old

  -- the chain is bad, and all places are as they were
  pub record Refused : Type 0 where
    pub is_bad_lem : chain_of n basis parents codes limit node ≡ bad
    pub same : new ≡ old

  module _ {r : Result ℕ BadChain} (told : outcome (told_circuit r) new ≡ written old (chain_of n basis parents codes limit node)) where
    pub circuit_read : {m : ℕ} → r ≡ Ok m → ChainRead m
    circuit_read {m} e = by (chain_of n basis parents codes limit node) refl (sym (ap (λ (x : Result ℕ BadChain). outcome (told_circuit x) new) e) ∙ told)
      where
        by : (k : Chain) → chain_of n basis parents codes limit node ≡ k → outcome (given m) new ≡ written old k → ChainRead m
        by (good l) f h =
            let a = ap (λ (o : Outcome). o.reply) h in
            let z : m ≡ length l = cc in
            let b : new ≡ l ++ drop (length l) old = ap (λ (o : Outcome). o.list) h in
            record {
              list = l;
              is = f;
              size = z;
              gates = gates_of n basis parents codes limit node f;
              first = ap (take m) b ∙ take_at l (drop (length l) old) m (sym z);
              later = ap (drop m) b ∙ drop_at l (drop (length l) old) m (sym z) ∙ ap (λ (i : ℕ). drop i old) (sym z);
            }
        by bad f h = let a = ap (λ (o : Outcome). o.reply) h in let z : ◌≡◌ {A = ℕ} 0 1 = cc in absurd (omega arith)

    pub circuit_refused : {b : BadChain} → r ≡ Err b → Refused
    circuit_refused e = by (chain_of n basis parents codes limit node) refl (sym (ap (λ (x : Result ℕ BadChain). outcome (told_circuit x) new) e) ∙ told)
      where
        by : (k : Chain) → chain_of n basis parents codes limit node ≡ k → outcome (refused 13 0) new ≡ written old k → Refused
        by (good l) f h = let a = ap (λ (o : Outcome). o.reply) h in let z : ◌≡◌ {A = ℕ} 0 1 = cc in absurd (omega arith)
        by bad f h = record { is_bad_lem = f; same = ap (λ (o : Outcome). o.list) h }
