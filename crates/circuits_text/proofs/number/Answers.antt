-- `number` meets its contract: the digits passed write v, and those left go on from it. Assumes nothing.
use mathlib.Core.Path.{sym, ap, ◌∙◌}
use native.Mathlib.Omega.{arith}
use borrow.Author.Tests.{eqb-true}
use Rattle.circuits_text.specs.Reading.{told_word}
use Rattle.circuits_text.proofs.Split.{number_on, no_digit, word_short, word_long, word_other, word_fits}
use Rattle.circuits_text.proofs.number.Goals as goal

pub returns-then-is_empty : goal.returns-then-is_empty
returns-then-is_empty c = sym (word_short _ (omega (arith, eqb-true _ 0 (sym c.if-is_empty.ensures))))

pub returns-then-word-gt-MOST_DIGITS : goal.returns-then-word-gt-MOST_DIGITS
returns-then-word-gt-MOST_DIGITS c = sym (word_long _ (omega arith) (omega arith))

pub returns-then-not-is_ascii_digit : goal.returns-then-not-is_ascii_digit
returns-then-not-is_ascii_digit c =
    let l = c.loop-b in
    sym (word_other l.invariant (no_digit _ l.v l.b-index c.loop-b-test.true (sym c.if-not-is_ascii_digit.ensures.value)))

pub loop-b-preserved : goal.loop-b-preserved
loop-b-preserved c =
    let e = c.if-not-is_ascii_digit.ensures.cases in
    rw c.from.ensures (number_on c.loop-b.invariant c.loop-b-test.true e.0 e.1)

pub returns : goal.returns
returns c = ap told_word c.ok.ensures.value ∙ word_fits c.loop-b.invariant c.loop-b-test.false c.try_from.result c.try_from.ensures
