-- What the samples of walks state, computed. Assumes nothing.
use mathlib.Core.Path.{◌≡◌, refl}
use native.Mathlib.Omega.{arith}
use Rattle.ints.specs.Bits.{bit}
use Rattle.ints.specs.Lists.{range, each, all, elem, distinct}
use Rattle.cyclotomic.specs.Zomega.{zeroω, oneω, is_zero, turn, less, least_up_to, fits, eqω}
use Rattle.words.specs.Words.{word_product, rotated, word}
use Rattle.kinds.specs.Kinds.{kind_at, number, arity, sorted, is_kind, dual, of_tables}
use Rattle.operands.specs.Operands.{placed, rises}
use Rattle.circuit.specs.Codes.{valid, valid_for}
use Rattle.circuit.specs.Pairs.{inverse, qubits, disjoint}
use Rattle.generators.specs.Generators.{kept, generators}
use Rattle.exact.specs.Matrix.{lower}
use Rattle.exact.specs.Rows.{flip, column, gate_of}
use Rattle.exact.specs.Lists.{product}
use Rattle.exact.specs.Fits.{step_fits, all_fit, steps}
use Rattle.exact.specs.Phase.{pivot, phase_of, up_to_phase}
use Rattle.exact.specs.Fingerprint.{mix, fold, fingerprint}
use Rattle.walk.specs.Walk.{skipped, try, try_all, layer, deeper, depths, walk}
use Rattle.walk.proofs.Nodewise.{recheck, answer_by}
use Rattle.walk.specs.Modes.{keeping}
use Rattle.walk.specs.AtWidth.{same_print, ListOf}
use Rattle.walk.proofs.Fitting.{fitting}
use Rattle.samples.specs.Walks.{in_turn, WalkSamples}

-- from the law, not by computing
in_turn_lem : ListOf 1 33 (in_turn 14)
unfolding all valid_for valid placed rises elem distinct range kind_at arity sorted is_kind of_tables bit
in_turn_lem = refl

list_29 : steps 1 (in_turn 14) ≡ all_fit
list_29 = fitting.lists 1 33 (in_turn 14) in_turn_lem (omega arith)

pub samples : WalkSamples
unfolding of_tables answer_by recheck up_to_phase eqω product walk depths deeper layer try_all try skipped same_print fingerprint mix fold word_product rotated word pivot phase_of least_up_to less turn zeroω oneω is_zero gate_of column flip lower step_fits fits valid valid_for placed rises all elem distinct range each kept generators kind_at arity sorted is_kind number dual inverse qubits disjoint bit
samples = record {
  list_29 = (refl, list_29);
  candidates_29 = λ k g. fitting.candidates keeping 1 33 29 1000000 (omega arith) (omega arith) k g;
  clash_lost = refl;
  clash_kept = refl;
  worked_keeping = refl;
  worked = refl;
  worked_z = refl;
  worked_t = refl;
  one_entry = refl;
  two_entries = refl;
  no_depths = refl;
  no_generators = refl;
  only_x = refl;
  x_back = refl;
  prints_differ = refl;
  x_not_t = refl;
}
