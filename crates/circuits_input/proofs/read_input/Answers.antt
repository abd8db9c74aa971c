-- `read_input` meets its contract: the input's length and its first line decide. Assumes nothing.
use mathlib.Core.Path.{refl, ap, ◌∙◌}
use native.Mathlib.Omega.{arith}
use Prim.Native.Nat.{◌+◌}
use lib.ListN.{drop}
use Rattle.std.proofs.lemmas.Result.{err_from_is_err_and}
use Rattle.circuits_input.specs.Input.{lines_of, with_later}
use Rattle.circuits_input.proofs.Inputs.{input_long, input_cut, input_first}
use Rattle.circuits_input.proofs.read_input.Goals as goal

pub returns-then-input-gt-INPUT_MOST : goal.returns-then-input-gt-INPUT_MOST
returns-then-input-gt-INPUT_MOST c = record { is = input_long c.args.input.now c.if-input-gt-INPUT_MOST.true; placed = refl }

pub returns-then-input-e : goal.returns-then-input-e
returns-then-input-e c = record {
  is = input_cut c.args.input.now (omega (arith, c.if-input-gt-INPUT_MOST.false)) (omega (arith, c.if-input-e.true, c.find-e.ensures.found));
  placed = refl;
}

pub returns-in_err-config : goal.returns-in_err-config
returns-in_err-config c =
    let p = err_from_is_err_and c.from_residual.result c.from_residual.ensures.1 in
    rw (p.1, p.2) (record {
      is = ap (with_later (lines_of (drop (c.find-e.result + 1) c.args.input.now))) c.in_err-config.ensures
          ∙ input_first c.args.input.now c.find-e.result (omega (arith, c.if-input-gt-INPUT_MOST.false)) (omega (arith, c.find-e.ensures.found)) (omega (arith, c.if-input-e.false));
      placed = refl;
    })

pub returns : goal.returns
returns c = record {
  is = ap (with_later (lines_of (drop (c.find-e.result + 1) c.args.input.now))) c.in_ok-config.ensures
      ∙ input_first c.args.input.now c.find-e.result (omega (arith, c.if-input-gt-INPUT_MOST.false)) (omega (arith, c.find-e.ensures.found)) (omega (arith, c.if-input-e.false));
  placed = (omega (arith, c.if-input-e.false), omega (arith, c.if-input-gt-INPUT_MOST.false));
}
