-- `limits` meets its contract: each test that was passed decides its row. Assumes nothing.
use mathlib.Core.Path.{sym, ap}
use mathlib.Core.Logic.{inl, inr}
use Rattle.refusal.specs.Told.{by_row}
use Rattle.murm_limits.specs.Told.{told_config}
use Rattle.murm_limits.proofs.Rows.{no_width, wide, no_entries, no_basis, not_supported, many_gates, many_entries, accepted}
use Rattle.murm_limits.proofs.limits.Goals as goal
use Rattle.murm_limits.proofs.limits.Goals.{then-is_empty-via-then-is_empty, then-is_empty-via-else-is_empty+then-not-is_supported}

pub returns-then-config-eq0 : goal.returns-then-config-eq0
returns-then-config-eq0 c =
    elim c.then-config-eq0.either [
      | inl e ↦ ap by_row (no_width (told_config c.args.config) e)
      | inr h ↦ ap by_row (wide (told_config c.args.config) h.0 h.1)
    ]

pub returns-then-config-eq0-2 : goal.returns-then-config-eq0-2
returns-then-config-eq0-2 c = ap by_row (no_entries (told_config c.args.config) c.if-config-eq0.false c.if-config-gt5.false c.if-config-eq0-2.true)

pub returns-then-is_empty : goal.returns-then-is_empty
returns-then-is_empty c =
    let l = told_config c.args.config in
    elim c.then-is_empty.branch [
      | then-is_empty-via-then-is_empty w ↦
          ap by_row (no_basis l c.if-config-eq0.false c.if-config-gt5.false c.if-config-eq0-2.false (sym w.if-is_empty.ensures))
      | then-is_empty-via-else-is_empty+then-not-is_supported w ↦
          ap by_row (not_supported l c.if-config-eq0.false c.if-config-gt5.false c.if-config-eq0-2.false (sym w.if-is_empty.ensures) (sym w.if-not-is_supported.ensures))
    ]

pub returns-then-config-gt64 : goal.returns-then-config-gt64
returns-then-config-gt64 c =
    let l = told_config c.args.config in
    let gates = many_gates l c.if-config-eq0.false c.if-config-gt5.false c.if-config-eq0-2.false (sym c.if-is_empty.ensures) (sym c.if-not-is_supported.ensures) in
    let entries = many_entries l c.if-config-eq0.false c.if-config-gt5.false c.if-config-eq0-2.false (sym c.if-is_empty.ensures) (sym c.if-not-is_supported.ensures) in
    elim c.then-config-gt64.either [
      | inl h ↦ ap by_row (gates h)
      | inr h ↦ ap by_row (entries h.0 h.1)
    ]

pub returns : goal.returns
returns c = ap by_row (accepted (told_config c.args.config) c.if-config-eq0.false c.if-config-gt5.false c.if-config-eq0-2.false (sym c.if-is_empty.ensures) (sym c.if-not-is_supported.ensures) c.if-config-gt64.false c.if-config-gt1000000.false)
