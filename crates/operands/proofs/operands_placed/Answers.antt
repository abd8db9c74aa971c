-- `operands_placed` meets its contract: at each count its comparisons are those of `placed`. Assumes nothing.
use mathlib.Core.Path.{◌≡◌, sym, ap, ◌∙◌}
use Prim.Native.Nat.{ℕ}
use native.Mathlib.Omega.{arith}
use Rattle.operands.specs.Operands.{placed}
use Rattle.operands.proofs.Placed.{one, two, three}
use Rattle.operands.proofs.operands_placed.Goals as goal

pub returns-in-1 : goal.returns-in-1
returns-in-1 c = let s = c.args in one s.n s.a s.b s.c ∙ ap (λ (m : ℕ). placed s.n m s.a s.b s.c) (sym c.in-1.is)

pub returns-in-2 : goal.returns-in-2
returns-in-2 c = let s = c.args in two s.n s.a s.b s.c ∙ ap (λ (m : ℕ). placed s.n m s.a s.b s.c) (sym c.in-2.is)

pub returns-in_default : goal.returns-in_default
returns-in_default c =
    let s = c.args in
    let e : 3 ≡ s.count = omega arith in
    three s.n s.a s.b s.c ∙ ap (λ (m : ℕ). placed s.n m s.a s.b s.c) e
