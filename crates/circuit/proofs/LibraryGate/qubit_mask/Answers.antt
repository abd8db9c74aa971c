-- `qubit_mask` meets its contract: the sets of the used operands, joined. Assumes nothing.
use mathlib.Core.Path.{◌≡◌, sym, ap, ◌∙◌}
use mathlib.Core.List.{[], ◌∷◌}
use Prim.Native.Nat.{ℕ}
use native.Mathlib.Omega.{arith}
use lib.Bits.{or_zero_r}
use lib.ListN.{take}
use Rattle.kinds.specs.Kinds.{arity}
use Rattle.kinds.specs.Told.{told_kind}
use Rattle.circuit.specs.Codes.{kind_of, first, second, third}
use Rattle.circuit.specs.Pairs.{qubits, mask_of}
use Rattle.kinds.proofs.ByNumber.{kind_used, arity_most}
use Rattle.kinds.proofs.Told.{told_is}
use Rattle.circuit.proofs.LibraryGate.qubit_mask.Goals as goal

-- so many operands are the gate's qubits
whole : (g m : ℕ) → arity (kind_of g) ≡ m → mask_of (qubits g) ≡ mask_of (take m (first g ∷ second g ∷ third g ∷ []))
unfolding qubits
whole g m e = ap (λ (k : ℕ). mask_of (take k (first g ∷ second g ∷ third g ∷ []))) e

pub returns-in_default : goal.returns-in_default
unfolding mask_of arity
returns-in_default c = sym (whole c.args.self.0 0 (ap arity (sym c.in_default.ensures)))

pub returns-in-1 : goal.returns-in-1
unfolding mask_of
returns-in-1 c =
    let w = rw or_zero_r at (whole c.args.self.0 1 (ap arity (sym c.in-Some.ensures) ∙ sym c.operands.ensures ∙ c.in-1.is)) in cc

pub returns-in-2 : goal.returns-in-2
unfolding mask_of
returns-in-2 c =
    let w = rw or_zero_r at (whole c.args.self.0 2 (ap arity (sym c.in-Some.ensures) ∙ sym c.operands.ensures ∙ c.in-2.is)) in cc

pub returns-in_default-operands : goal.returns-in_default-operands
unfolding mask_of
returns-in_default-operands c =
    let k = told_kind c.in-Some.kind in
    let r = c.operands.ensures in
    let e : arity k ≡ 3 = omega (arith, r, kind_used k (told_is c.in-Some.kind), (arity_most k).0) in
    let w = rw or_zero_r at (whole c.args.self.0 3 (ap arity (sym c.in-Some.ensures) ∙ e)) in cc
