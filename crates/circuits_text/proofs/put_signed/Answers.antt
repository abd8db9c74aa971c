-- `put_signed` meets its contract: a 32-bit number's size has at most ten digits. Assumes nothing.
use mathlib.Core.List.{[], ◌∷◌, ◌++◌}
use mathlib.Core.Path.{◌≡◌, sym, ap, ◌∙◌}
use native.Mathlib.Omega.{arith}
use lib.IntN.{nat_abs}
use mir.Facts.{to_z-of_z}
use Rattle.circuits_text.specs.Writing.{decimal, signed}
use Rattle.circuits_text.proofs.Placing.{signed_below, signed_else, size_short, then_put, put_as}
use Rattle.circuits_text.proofs.put_signed.Goals as goal

pub put_digits-requires : goal.put_digits-requires
put_digits-requires c =
    let known : c.from-size.result ≡ nat_abs c.args.x =
    c.from-size.ensures ∙ (c.unsigned_abs.ensures.value ∙ ap nat_abs (to_z-of_z c.ranges.x)) in
    omega (arith, size_short c.args.x c.from-size.result c.ranges.x known)

pub returns-then-x-lt0-clause-written : goal.returns-then-x-lt0-clause-written
returns-then-x-lt0-clause-written c =
    let known : c.from-size.result ≡ nat_abs c.args.x =
    c.from-size.ensures ∙ (c.unsigned_abs.ensures.value ∙ ap nat_abs (to_z-of_z c.ranges.x)) in
    let is : (45 ∷ []) ++ decimal c.from-size.result ≡ signed c.args.x =
    rw known (sym (signed_below c.args.x (rw (to_z-of_z c.ranges.x) at c.if-x-lt0.true))) in
    put_as is (then_put c.put_byte-next.ensures c.put_digits.ensures)

pub returns-then-x-lt0-clause-most : goal.returns-then-x-lt0-clause-most
returns-then-x-lt0-clause-most c =
    let known : c.from-size.result ≡ nat_abs c.args.x =
    c.from-size.ensures ∙ (c.unsigned_abs.ensures.value ∙ ap nat_abs (to_z-of_z c.ranges.x)) in
    omega (arith, size_short c.args.x c.from-size.result c.ranges.x known)

pub put_digits-requires-2 : goal.put_digits-requires-2
put_digits-requires-2 c =
    let known : c.from-size.result ≡ nat_abs c.args.x =
    c.from-size.ensures ∙ (c.unsigned_abs.ensures.value ∙ ap nat_abs (to_z-of_z c.ranges.x)) in
    omega (arith, size_short c.args.x c.from-size.result c.ranges.x known)

pub returns-clause-written : goal.returns-clause-written
returns-clause-written c =
    let known : c.from-size.result ≡ nat_abs c.args.x =
    c.from-size.ensures ∙ (c.unsigned_abs.ensures.value ∙ ap nat_abs (to_z-of_z c.ranges.x)) in
    let is : decimal c.from-size.result ≡ signed c.args.x =
    rw known (sym (signed_else c.args.x (rw (to_z-of_z c.ranges.x) at c.if-x-lt0.false))) in
    put_as is c.put_digits-2.ensures

pub returns-clause-most : goal.returns-clause-most
returns-clause-most c =
    let known : c.from-size.result ≡ nat_abs c.args.x =
    c.from-size.ensures ∙ (c.unsigned_abs.ensures.value ∙ ap nat_abs (to_z-of_z c.ranges.x)) in
    omega (arith, size_short c.args.x c.from-size.result c.ranges.x known)
