-- A node's matrix, by the arms of the code that reads its list and applies the gates. Assumes nothing.
use mathlib.Core.Path.{◌≡◌, refl, sym, ap, ◌∙◌, subst}
use mathlib.Core.Bool.{Bool, true, false}
use mathlib.Core.List.{List, []}
use Rattle.std.specs.Prelude.{Ok, Err}
use Prim.Native.Nat.{ℕ}
use lib.ListN.{take}
use lib.IntN.{ℤ}
use Rattle.ints.specs.Lists.{all}
use Rattle.ints.proofs.Bools.{clash}
use Rattle.circuit.specs.Codes.{valid}
use Rattle.circuit.proofs.Coded.{basis_valid}
use Rattle.exact.specs.Lists.{product}
use Rattle.exact.specs.Fits.{Steps, all_fit, unfit_at, steps}
use Rattle.exact.specs.Answers.{given, by_steps, list_answer}
use Rattle.exact.proofs.Answered.{is_given, number, list_refused}
use Rattle.places.specs.Held.{Holds}
use Rattle.lists.specs.Walk.{Ended}
use Rattle.walk.specs.Chains.{Chain, good, bad, chain_of}
use Rattle.synthesis_arena.specs.declared.WidthLimits.{WidthLimits}
use Rattle.synthesis_arena.proofs.Told.{ChainRead}
use Rattle.node_matrix.specs.Matrices.{Readable}

abbrev list_of : Chain → List ℕ
list_of (good l) = l
list_of bad = []

abbrev is_good : Chain → Bool
is_good (good l) = true
is_good bad = false

-- the exponent that a list is answered by is its product's
exponent_is : (n : ℕ) (codes : List ℕ) {k : ℕ} → given k ≡ list_answer n codes → k ≡ (product n codes).k
unfolding list_answer
exponent_is n codes {k} e = by (steps n codes) e
  where
    by : (s : Steps) → given k ≡ by_steps (product n codes).k s → k ≡ (product n codes).k
    by all_fit q = ap number q
    by (unfit_at i) q = clash refl (ap is_given q)

abbrev ok : Steps → Bool
ok all_fit = true
ok (unfit_at i) = false

module _ {lim : WidthLimits} {u c : List ℕ} {node : ℕ} (h : Readable lim u c node) where
  pub chain_not_bad : chain_of lim.width lim.basis u c 64 node ≡ bad → ⊥
  chain_not_bad e = clash (ap is_good h.chain) (ap is_good e)

  module _ {old new : List ℕ} {m : ℕ} (r : ChainRead lim.width lim.basis u c 64 node old new m) where
    pub read_is : take m new ≡ h.list
    read_is = r.first ∙ ap list_of (sym r.is ∙ h.chain)

    pub read_valid : all (valid lim.width) (take m new) ≡ true
    read_valid = subst (λ (z : List ℕ). all (valid lim.width) z ≡ true) (sym r.first) (basis_valid lim.width lim.basis r.list r.gates.valid)

    pub read_fits : {l : List ℤ} {k : ℕ} → Ended lim.width (take m new) l (Ok k) → Holds lim.width k l (product lim.width h.list)
    read_fits {l} {k} w =
        let e = subst (λ (z : List ℕ). Ended lim.width z l (Ok k)) read_is w in
        subst (λ (z : ℕ). Holds lim.width z l (product lim.width h.list)) (sym (exponent_is lim.width h.list e.answer)) e.end

    pub read_not_unfit : {l : List ℤ} {i : ℕ} → Ended lim.width (take m new) l (Err i) → ⊥
    read_not_unfit {l} {i} w =
        let e = subst (λ (z : List ℕ). Ended lim.width z l (Err i)) read_is w in
        clash (ap ok h.all_fit_lem) (ap ok (list_refused lim.width h.list (sym e.answer)))
