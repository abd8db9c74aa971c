-- `times_omega` meets its contract: after as many single turns as are counted it is the turn by that count. Assumes
-- nothing.
use mathlib.Core.Path.{◌≡◌, sym, ap, ◌∙◌, subst}
use Prim.Native.Nat.{ℕ, ◌+◌}
use native.Mathlib.Omega.{arith}
use Rattle.cyclotomic.specs.Zomega.{Zω, turn, Small}
use Rattle.cyclotomic.proofs.Turns.{turn_turn, turn_none}
use Rattle.cyclotomic.proofs.Squares.{small_turn}
use Rattle.cyclotomic.proofs.Cyclotomic.times_omega.Invariants.{Turning}
use Rattle.cyclotomic.proofs.Cyclotomic.times_omega.Goals as goal

one_more : {z₀ z w : Zω} {i : ℕ} → Turning z₀ z i → w ≡ turn 1 z → Turning z₀ w (i + 1)
one_more {z₀} {z} {i = i} t e = record {
  is = e ∙ ap (turn 1) t.is ∙ turn_turn 1 i z₀ ∙ (let q : 1 + i ≡ i + 1 = omega arith in ap (λ (j : ℕ). turn j z₀) q);
  small = subst Small (sym e) (small_turn 1 z t.small);
}

pub loop-init : goal.loop-init
loop-init c = record { is = sym (turn_none _); small = c.requires }

pub loop-preserved : goal.loop-preserved
loop-preserved c = one_more c.loop.invariant c.turned-z.ensures
