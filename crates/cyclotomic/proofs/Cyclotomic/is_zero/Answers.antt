-- `is_zero` meets its contract: the test against 0, coefficient by coefficient.
use mathlib.Core.Path.{◌≡◌, refl, ap, ◌∙◌}
use mathlib.Core.Bool.{Bool, true, false, ◌&&◌}
use lib.IntN.{pos}
use Rattle.cyclotomic.specs.Zomega.{Zω, zeroω, eqω, is_zero}
use Rattle.coefficients.specs.Coefficients.{eq_z}
use Rattle.cyclotomic.proofs.Answers.{eq_is}
use Rattle.cyclotomic.proofs.Cyclotomic.is_zero.Goals as goal

all_four : (p q r s : Bool) → p && (q && (r && s)) ≡ p && q && r && s
all_four true true r s = refl
all_four true false r s = refl
all_four false q r s = refl

as_zero : (x : Zω) → eqω x zeroω ≡ is_zero x
unfolding eqω zeroω is_zero
as_zero x = all_four (eq_z x.a (pos 0)) (eq_z x.b (pos 0)) (eq_z x.c (pos 0)) (eq_z x.d (pos 0))

pub returns : goal.returns
returns c = c.eq.ensures ∙ eq_is c.args.self c.zero.result ∙ ap (eqω c.args.self) c.zero.ensures ∙ as_zero c.args.self
