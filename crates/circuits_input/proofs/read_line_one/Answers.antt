-- `read_line_one` meets its contract: four numbers are the limits. Assumes nothing.
use mathlib.Core.Path.{◌≡◌, sym, ap, ◌∙◌}
use native.Mathlib.Omega.{arith}
use lib.ListN.{length, take}
use lib.Seq.{length-take-le}
use Rattle.std.proofs.lemmas.Result.{err_from_is_err_and}
use Rattle.refusal.specs.declared.Refusal.TheVariants.{BrokenLine}
use Rattle.circuits_text.specs.Reading.{told_line}
use Rattle.circuits_text.proofs.Split.{line_fits}
use Rattle.circuits_input.specs.Input.{line_one, limits_by}
use Rattle.circuits_input.proofs.LineReads.{read_numbers, read_broken, no_limits, limits_are}
use Rattle.circuits_input.proofs.read_line_one.Goals as goal

pub returns-in_err-n : goal.returns-in_err-n
unfolding line_one
returns-in_err-n c =
    let p = err_from_is_err_and c.from_residual.result c.from_residual.ensures.1 in
    let v = rw c.in_err-n.ensures.ok_part at c.in_err-n.ensures.value in
    let b : c.in_err-n.field-0.0 ≡ BrokenLine = cc in
    rw (p.1, p.2, b)
    (read_broken limits_by (λ ns h. no_limits ns (λ e. absurd (omega (arith, h, e)))) c.numbers.ensures (ap told_line c.in_err-n.ensures.ok_part))

pub returns-then-n-ne-LIMITS : goal.returns-then-n-ne-LIMITS
unfolding line_one
returns-then-n-ne-LIMITS c =
    let n = c.in_ok-n.n in
    let now = c.numbers.new.list in
    let is = ap told_line c.in_ok-n.ensures.ok_part in
    let count : length (take n now) ≡ n = length-take-le n now (omega (arith, line_fits c.numbers.ensures is, c.numbers.auto.list)) in
    let other = no_limits (take n now) (λ e. c.if-n-ne-LIMITS.true (sym count ∙ e)) in
    sym other ∙ read_numbers limits_by c.numbers.ensures is

pub returns : goal.returns
unfolding line_one
returns c =
    let n = c.in_ok-n.n in
    let now = c.numbers.new.list in
    let is = ap told_line c.in_ok-n.ensures.ok_part in
    let count : length (take n now) ≡ n = length-take-le n now (omega (arith, line_fits c.numbers.ensures is, c.numbers.auto.list)) in
    limits_are n now c.if-n-ne-LIMITS.false count ∙ read_numbers limits_by c.numbers.ensures is
