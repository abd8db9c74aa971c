-- `in_parts` meets its contract: the places divided by Q are the only size that the parts can have. Assumes nothing.
use mathlib.Core.Path.{refl, sym, ◌∙◌}
use borrow.Author.Tests.{eq-eqb, eqb-true}
use Rattle.std.proofs.Common.{◌/◌, count_ones}
use Rattle.murm_limits.specs.Told.{told_config}
use Rattle.murm_limits.proofs.Sizes.{left_over, not_one_bit, parts_of_one_bit}
use Rattle.murm_limits.proofs.in_parts.Goals as goal
use Rattle.murm_limits.proofs.in_parts.Goals.{then-q-size, else-q-size}

pub returns-then-is_power_of_two : goal.returns-then-is_power_of_two
returns-then-is_power_of_two c =
    let a = c.args in
    elim c.if-q-size.branch [
      | then-q-size w ↦ parts_of_one_bit (told_config a.config) a.places c.requires.0 refl w.if-q-size.true
          (eqb-true (count_ones (a.places / a.config.max_qubits)) 1 (sym w.is_power_of_two.ensures ∙ sym w.value-is ∙ c.if-is_power_of_two.true))
      | else-q-size w ↦ absurd (w.if-q-size.false (eqb-true _ _ (sym w.value-is ∙ c.if-is_power_of_two.true)))
    ]

pub returns-else-is_power_of_two : goal.returns-else-is_power_of_two
returns-else-is_power_of_two c =
    let a = c.args in
    elim c.if-q-size.branch [
      | then-q-size w ↦ c.if-is_power_of_two.false ∙ not_one_bit (told_config a.config) a.places c.requires.0
          (λ h. let e = eq-eqb (count_ones (a.places / a.config.max_qubits)) 1 h in cc)
      | else-q-size w ↦ c.if-is_power_of_two.false ∙ left_over (told_config a.config) a.places c.requires.0 w.if-q-size.false
    ]
