-- `put_width` meets its contract: the part's bounds hold. Assumes nothing.
use mathlib.Core.Path.{ap}
use native.Mathlib.Omega.{arith}
use Rattle.tables.specs.Tables.{Width}
use Rattle.murm_part.proofs.Parts.{part}
use Rattle.circuits_text.proofs.Placing.{put_as, then_put}
use Rattle.circuits_answers.specs.Told.{told_record}
use Rattle.circuits_parts.proofs.Widths.{width_as}
use Rattle.circuits_parts.proofs.put_width.Goals as goal

pub put_nodes-requires-clause-count_in_bounds : goal.put_nodes-requires-clause-count_in_bounds
put_nodes-requires-clause-count_in_bounds c =
    let a = c.args in
    let p = part (told_record a.table) a.width c.requires.printable.0 c.requires.width_nonzero.0 c.requires.width_nonzero.1 in
    let l = c.put_table_line-next in
    let counted = ap (λ (v : Width). v.count) c.width_table-row.ensures in
    (omega (arith, c.requires.max_entries_per_qubit_in_bounds, l.ensures.most, l.auto.out, p.few, counted), p.start, omega (arith, p.few, counted, p.entries))

pub put_nodes-requires-clause-count_in_bounds_2 : goal.put_nodes-requires-clause-count_in_bounds_2
put_nodes-requires-clause-count_in_bounds_2 c =
    let a = c.args in
    let p = part (told_record a.table) a.width c.requires.printable.0 c.requires.width_nonzero.0 c.requires.width_nonzero.1 in
    let counted = ap (λ (v : Width). v.count) c.width_table-row.ensures in
    (omega (arith, p.inside _ c.requires.printable.1, p.few, counted), omega (arith, p.inside _ c.requires.printable.2, p.few, counted))

pub returns-clause-text : goal.returns-clause-text
returns-clause-text c =
    let a = c.args in
    let p = part (told_record a.table) a.width c.requires.printable.0 c.requires.width_nonzero.0 c.requires.width_nonzero.1 in
    put_as (width_as (told_record a.table) a.table.parents.now a.table.codes.now a.width c.width_table-row.ensures (omega (arith, p.few))) (then_put c.put_table_line-next.ensures.text c.put_nodes.ensures.text)

pub returns-clause-most : goal.returns-clause-most
returns-clause-most c =
    let a = c.args in
    let p = part (told_record a.table) a.width c.requires.printable.0 c.requires.width_nonzero.0 c.requires.width_nonzero.1 in
    let counted = ap (λ (v : Width). v.count) c.width_table-row.ensures in
    omega (arith, c.put_table_line-next.ensures.most, c.put_nodes.ensures.most, p.few, counted)
