-- `in_order` meets its contract: fewer than two operands are in order, and the others by their tests. Assumes nothing.
use native.Mathlib.Omega.{arith}
use mathlib.Core.Path.{◌≡◌, refl, sym, ap, ◌∙◌}
use mathlib.Core.Bool.{Bool, true, ◌&&◌}
use Prim.Native.Nat.{ℕ, zero, suc, ◌<◌}
use lib.Dec.{ltb}
use Rattle.ints.proofs.Bools.{and-true}
use Rattle.operands.specs.Operands.{rises, ordered}
use Rattle.operands.proofs.in_order.Goals as goal

module _ (a b c : ℕ) where
  few : (m : ℕ) → m < 2 → true ≡ ordered m a b c
  unfolding rises
  few zero h = refl
  few (suc zero) h = refl
  few (suc (suc m)) h = absurd (omega arith)

  two : ordered 2 a b c ≡ ltb a b
  unfolding rises
  two = and-true (ltb a b)

  three : ordered 3 a b c ≡ ltb a b && ltb b c
  unfolding rises
  three = ap (λ (t : Bool). ltb a b && t) (and-true (ltb b c))

pub returns-in-0 : goal.returns-in-0
returns-in-0 c = let s = c.args in few s.a s.b s.c s.count (omega arith)

pub returns-in-2 : goal.returns-in-2
returns-in-2 c = let s = c.args in sym (two s.a s.b s.c) ∙ ap (λ (m : ℕ). ordered m s.a s.b s.c) (sym c.in-2.is)

pub returns-in_default : goal.returns-in_default
returns-in_default c =
    let s = c.args in
    let e : 3 ≡ s.count = omega arith in
    sym (three s.a s.b s.c) ∙ ap (λ (m : ℕ). ordered m s.a s.b s.c) e
