-- `t_charge` meets its contract: the sum of the charges of the gates. Assumes nothing.
use borrow.Author.Rules.{rules}
use native.Mathlib.Omega.{arith}
use mathlib.Core.Path.{◌∙◌}
use Prim.Native.Nat.{ℕ, ◌^◌}
use Rattle.std.proofs.lemmas.Iterator.{YieldsList-from_slice, YieldsList-from_map}
use Rattle.std.proofs.lemmas.Iterator.Consumers.{sum_by_from_yields_List, fits_by_from_yields_list}
use Rattle.circuit.specs.Codes.{kind_of}
use Rattle.kinds.specs.Kinds.{kind_charge}
use Rattle.circuit.proofs.Charges.{charge_sum, charge_most}
use Rattle.circuit.proofs.t_charge.Goals as goal

pub returns : goal.returns
returns c =
    let codes = c.args.codes.now in
    sum_by_from_yields_List (λ (g : ℕ). kind_charge (kind_of g)) codes _ _ c.sum.ensures.ran
    (YieldsList-from_map _ (λ (g : ℕ). kind_charge (kind_of g)) (YieldsList-from_slice codes cc) c.map.ensures.closure (λ x r q k. search rules))
    ∙ charge_sum codes

pub sum-requires-clause-fits : goal.sum-requires-clause-fits
sum-requires-clause-fits c =
    let codes = c.args.codes.now in
    fits_by_from_yields_list (λ (g : ℕ). kind_charge (kind_of g)) codes _ (2 ^ 64)
    (YieldsList-from_map _ (λ (g : ℕ). kind_charge (kind_of g)) (YieldsList-from_slice codes cc) c.map.ensures.closure (λ x r q k. search rules))
    (omega (arith, charge_sum codes, charge_most codes))
