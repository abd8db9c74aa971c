-- What one node is to the matrix asked, by what its chain's list and the recheck told. Assumes nothing.
use mathlib.Core.Path.{◌≡◌, refl, sym, ap, ◌∙◌}
use mathlib.Core.Bool.{true, false}
use mathlib.Core.List.{List, ◌++◌}
use Rattle.std.specs.Prelude.{Option, Result, Ok, Err, IsErr}
use Prim.Native.Nat.{ℕ, ◌≤◌}
use native.Mathlib.Omega.{arith}
use lib.ListN.{length, take, drop, length-take}
use Rattle.ints.specs.Lists.{all}
use Rattle.circuit.specs.Codes.{valid}
use Rattle.exact.specs.Matrix.{Exact}
use Rattle.walk.specs.Chains.{Chain, good, chain_of}
use Rattle.synthesis_arena.specs.declared.BadChain.{BadChain}
use Rattle.synthesis_arena.proofs.Told.{circuit_read, circuit_refused}
use Rattle.walk.specs.Finds.{rechecked, node, none, by_chain}
use Rattle.walk.specs.Answers.{given, outcome, written}
use Rattle.walk.specs.Answers as a
use Rattle.node_answer.specs.Answers.{told_find, copied, NodeFound}
use Rattle.circuit.proofs.Coded.{basis_valid}

module _ (n basis : ℕ) (parents codes : List ℕ) (limit k : ℕ) where
  abbrev chain : ℕ → Chain
  chain = chain_of n basis parents codes limit

  -- the first m places hold the list of the node's chain
  pub record ReadList (new : List ℕ) (m : ℕ) : Type 0 where
    pub is : chain_of n basis parents codes limit k ≡ good (take m new)
    pub short : m ≤ limit
    pub size : length (take m new) ≡ m
    pub within : m ≤ length new
    pub all_valid : all (valid n) (take m new) ≡ true

  module _ (old : List ℕ) {new : List ℕ} where
    pub listed : {m : ℕ} → outcome (given m) new ≡ written old (chain_of n basis parents codes limit k) → ReadList new m
    listed {m} told =
        let w = circuit_read n basis parents codes limit k old new {r = Ok m} told refl in
        let z : length (take m new) ≡ m = ap length w.first ∙ sym w.size in
        record {
          is = w.is ∙ ap good (sym w.first);
          short = omega (arith, w.size, w.gates.short);
          size = z;
          within = omega (arith, z, length-take m new);
          all_valid = ap (all (valid n)) w.first ∙ basis_valid n basis w.list w.gates.valid;
        }

    pub node_bad : (b : BadChain) → outcome (a.refused 13 0) new ≡ written old (chain_of n basis parents codes limit k) → (x : Exact) (list : List ℕ) (r : Result (Option (ℕ × ℕ)) BadChain)
        → IsErr r → NodeFound n x chain k (told_find r) list
    node_bad b told x list (Ok _) h = cc
    node_bad b told x list (Err _) h = record {
      is = sym (ap (by_chain n x k none) (circuit_refused n basis parents codes limit k old new {r = Err b} told refl).is_bad_lem);
      copies = λ out. refl;
    }

  module _ (x : Exact) {new : List ℕ} {m : ℕ} (w : ReadList new m) where
    pub node_none : rechecked n (take m new) x ≡ false → NodeFound n x chain k none new
    node_none e = record { is = rw (w.is, e); copies = λ out. refl }

    pub node_found : rechecked n (take m new) x ≡ true → NodeFound n x chain k (node k m) new
    node_found e = record { is = rw (w.is, e) (ap (node k) (sym w.size)); copies = at }
      where
        at : (out : List ℕ) → copied (node k m) new out ≡ written out (chain k)
        at out = rw w.is (ap (λ (j : ℕ). outcome (given j) (take m new ++ drop j out)) (sym w.size))
