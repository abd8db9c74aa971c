-- `least_power` meets its contract: before each turn `least` is the least of the powers below `power`, step by step as
-- `least_up_to` has it.
use mathlib.Core.Path.{◌≡◌, refl, sym, ap, ◌∙◌, subst}
use Prim.Native.Nat.{ℕ, ◌+◌, ◌-◌}
use native.Mathlib.Omega.{arith}
use Rattle.cyclotomic.specs.Zomega.{less, turn, least_up_to, Small}
use Rattle.cyclotomic.proofs.Turns.{turn_turn}
use Rattle.cyclotomic.proofs.Squares.{small_turn}
use Rattle.phases.proofs.Pivots.{least_more}
use Rattle.phases.proofs.least_power.Goals as goal
use Rattle.phases.proofs.least_power.Goals.{then-less_than, else-less_than}

pub loop-power-init : goal.loop-power-init
unfolding least_up_to turn
loop-power-init c = (refl, refl, refl, c.requires)

pub loop-power-preserved : goal.loop-power-preserved
loop-power-preserved c =
    let l = c.loop-power in
    let z = c.args.z in
    let one : 1 + (l.power - 1) ≡ l.power = omega (arith, l.auto.power) in
    -- one turn more is the turn by the power
    let turned_is : c.turned-turned.result ≡ turn l.power z =
    c.turned-turned.ensures ∙ ap (turn 1) l.invariant.2 ∙ turn_turn 1 (l.power - 1) _ ∙ ap (λ (k : ℕ). turn k z) one in
    -- the turns compared are those of the powers
    let test : c.less_than.result ≡ less (turn l.power z) (turn l.least z) =
    rw (c.less_than.ensures, turned_is, l.invariant.1) in
    let m = least_more z l.power l.least c.less_than.result l.auto.power test l.invariant.0 in
    let e : l.power ≡ l.power + 1 - 1 = omega arith in (
      elim c.if-less_than.branch [ then-less_than w ↦ w.least-is ∙ rw w.if-less_than.true at m | else-less_than w ↦ w.least-is ∙ rw w.if-less_than.false at m ],
      elim c.if-less_than.branch [ then-less_than w ↦ rw (w.least-is, w.best-is) turned_is | else-less_than w ↦ rw (w.least-is, w.best-is) l.invariant.1 ],
      turned_is ∙ ap (λ (k : ℕ). turn k z) e,
      subst Small (sym c.turned-turned.ensures) (small_turn 1 _ l.invariant.3),
    )
