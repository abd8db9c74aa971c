-- `is_placed` meets its contract: each arm has the tests of its count of operands. Assumes nothing.
use native.Mathlib.Omega.{arith}
use mathlib.Core.Path.{◌≡◌, refl, sym, ap, ◌∙◌}
use mathlib.Core.Bool.{Bool, true, false, ◌&&◌}
use Prim.Native.Nat.{ℕ, ◌≤◌}
use Rattle.kinds.specs.Kinds.{Kind, arity, sorted}
use Rattle.kinds.specs.Told.{told_kind}
use Rattle.kinds.proofs.ByNumber.{kind_used, arity_most, one_sorted}
use Rattle.kinds.proofs.Told.{told_is}
use Rattle.operands.specs.Operands.{placed, rises, ordered}
use Rattle.circuit.specs.Codes.{first, second, third, operands_fit}
use Rattle.circuit.proofs.LibraryGate.is_placed.Goals as goal

-- of a kind with m operands
counted : (k : Kind) (n g : ℕ) {m : ℕ} → arity k ≡ m
    → operands_fit n k g ≡ (placed n m (first g) (second g) (third g) && ordered (sorted k) (first g) (second g) (third g))
unfolding operands_fit
counted k n g e = ap (λ (j : ℕ). placed n j (first g) (second g) (third g) && ordered (sorted k) (first g) (second g) (third g)) e

alone : (b : Bool) → b ≡ (b && true)
alone true = refl
alone false = refl

-- one operand stands in no order
single : (k : Kind) (n g : ℕ) → arity k ≡ 1 → placed n 1 (first g) (second g) (third g) ≡ operands_fit n k g
unfolding rises
single k n g e =
    alone (placed n 1 (first g) (second g) (third g))
    ∙ ap (λ (s : ℕ). placed n 1 (first g) (second g) (third g) && ordered s (first g) (second g) (third g)) (sym (one_sorted k e))
    ∙ sym (counted k n g e)

in_order-kind : (k : Kind) {s : ℕ} → s ≡ sorted k → s ≤ 3
in_order-kind k e = omega (arith, e, (arity_most k).1)

pub in_order-requires : goal.in_order-requires
in_order-requires c = in_order-kind (told_kind c.args.kind) c.sorted.ensures

pub in_order-requires-then-operands_placed-2 : goal.in_order-requires-then-operands_placed-2
in_order-requires-then-operands_placed-2 c = in_order-kind (told_kind c.args.kind) c.sorted-then-operands_placed-2.ensures

pub returns-in-1 : goal.returns-in-1
returns-in-1 c =
    let k = told_kind c.args.kind in
    let g = c.args.self.0 in
    let q : c.operands_placed.result ≡ placed c.args.width 1 (first g) (second g) (third g) = cc in
    q ∙ single k c.args.width g (sym c.operands.ensures ∙ c.in-1.is)

pub returns-then-operands_placed : goal.returns-then-operands_placed
returns-then-operands_placed c =
    let k = told_kind c.args.kind in
    let g = c.args.self.0 in
    let q : placed c.args.width 2 (first g) (second g) (third g) ≡ true = cc in
    let r : c.in_order.result ≡ ordered (sorted k) (first g) (second g) (third g) = cc in
    r ∙ sym (counted k c.args.width g (sym c.operands.ensures ∙ c.in-2.is) ∙ ap (λ (b : Bool). b && ordered (sorted k) (first g) (second g) (third g)) q)

pub returns-else-operands_placed : goal.returns-else-operands_placed
returns-else-operands_placed c =
    let k = told_kind c.args.kind in
    let g = c.args.self.0 in
    let q : placed c.args.width 2 (first g) (second g) (third g) ≡ false = cc in
    c.if-operands_placed.false ∙ sym (counted k c.args.width g (sym c.operands.ensures ∙ c.in-2.is) ∙ ap (λ (b : Bool). b && ordered (sorted k) (first g) (second g) (third g)) q)

pub returns-then-operands_placed-2 : goal.returns-then-operands_placed-2
returns-then-operands_placed-2 c =
    let k = told_kind c.args.kind in
    let g = c.args.self.0 in
    let e : arity k ≡ 3 = omega (arith, c.operands.ensures, kind_used k (told_is c.args.kind), (arity_most k).0) in
    let q : placed c.args.width 3 (first g) (second g) (third g) ≡ true = cc in
    let r : c.in_order-then-operands_placed-2.result ≡ ordered (sorted k) (first g) (second g) (third g) = cc in
    r ∙ sym (counted k c.args.width g e ∙ ap (λ (b : Bool). b && ordered (sorted k) (first g) (second g) (third g)) q)

pub returns-else-operands_placed-2 : goal.returns-else-operands_placed-2
returns-else-operands_placed-2 c =
    let k = told_kind c.args.kind in
    let g = c.args.self.0 in
    let e : arity k ≡ 3 = omega (arith, c.operands.ensures, kind_used k (told_is c.args.kind), (arity_most k).0) in
    let q : placed c.args.width 3 (first g) (second g) (third g) ≡ false = cc in
    c.if-operands_placed-2.false ∙ sym (counted k c.args.width g e ∙ ap (λ (b : Bool). b && ordered (sorted k) (first g) (second g) (third g)) q)
