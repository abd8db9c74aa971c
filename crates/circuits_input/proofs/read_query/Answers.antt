-- `read_query` meets its contract: the line's numbers, or that it is broken, decide. Assumes nothing.
use mathlib.Core.Path.{◌≡◌, sym, ap, ◌∙◌}
use native.Mathlib.Omega.{arith}
use borrow.Author.Rules.{rules}
use Prim.Native.Nat.{◌≤◌}
use lib.ListN.{length, take}
use lib.Seq.{length-take-le}
use Rattle.std.proofs.lemmas.Result.{err_from_is_err_and}
use Rattle.refusal.specs.declared.Refusal.TheVariants.{BrokenLine}
use Rattle.circuits_text.specs.Reading.{told_line}
use Rattle.circuits_text.proofs.Split.{line_fits}
use Rattle.circuits_input.specs.Input.{question_by, question_of}
use Rattle.circuits_input.proofs.LineReads.{read_numbers, read_broken, no_query, long_query, two_numbers, query_is}
use Rattle.circuits_input.proofs.read_query.Goals as goal

pub slice_bounds-is_query-end : goal.slice_bounds-is_query-end
slice_bounds-is_query-end c = omega (arith, line_fits c.numbers.ensures (ap told_line c.in_ok-n.ensures.ok_part), c.numbers.auto.list)

pub slice_bounds-is_query-end-2 : goal.slice_bounds-is_query-end-2
slice_bounds-is_query-end-2 c =
    sym (length-take-le c.in_ok-n.n c.numbers.new.list (omega (arith, line_fits c.numbers.ensures (ap told_line c.in_ok-n.ensures.ok_part), c.numbers.auto.list)))

pub returns-then-not-is_query : goal.returns-then-not-is_query
unfolding question_of
returns-then-not-is_query c =
    let ns = take c.in_ok-n.n c.numbers.new.list in
    record {
      is = sym (no_query ns (sym c.is_query.ensures ∙ c.if-not-is_query.true)) ∙ read_numbers question_by c.numbers.ensures (ap told_line c.in_ok-n.ensures.ok_part);
      start = search rules;
      within = search rules;
    }

pub returns : goal.returns
unfolding question_of
returns c =
    let n = c.in_ok-n.n in
    let now = c.numbers.new.list in
    let q = sym c.is_query.ensures ∙ c.if-not-is_query.false in
    let fits : n ≤ length now = omega (arith, line_fits c.numbers.ensures (ap told_line c.in_ok-n.ensures.ok_part), c.numbers.auto.list) in
    let l = length-take-le n now fits in
    record {
      is = query_is n now q l ∙ read_numbers question_by c.numbers.ensures (ap told_line c.in_ok-n.ensures.ok_part);
      start = omega (arith, two_numbers (take n now) q, l);
      within = fits;
    }

pub returns-in_err-n : goal.returns-in_err-n
unfolding question_of
returns-in_err-n c =
    let p = err_from_is_err_and c.from_residual.result c.from_residual.ensures.1 in
    let size = c.requires in
    let v = rw c.in_err-n.ensures.ok_part at c.in_err-n.ensures.value in
    let b : c.in_err-n.field-0.0 ≡ BrokenLine = cc in
    rw (p.1, p.2, b)
    (record {
      is = read_broken question_by (λ ns h. long_query ns (omega (arith, h, size))) c.numbers.ensures (ap told_line c.in_err-n.ensures.ok_part);
      start = search rules;
      within = search rules;
    })
