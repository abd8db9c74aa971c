-- `put_widths` meets its contract: one width after the other. Assumes nothing.
use Prim.Native.Nat.{◌+◌, ◌*◌}
use native.Mathlib.Omega.{arith}
use Rattle.circuits_lines.proofs.Each.{laid_none, laid_on}
use Rattle.circuits_answers.specs.Told.{told_record}
use Rattle.circuits_parts.proofs.Widths.{widths_none, widths_more, more_room}
use Rattle.circuits_parts.proofs.put_widths.Goals as goal

pub loop-w-init : goal.loop-w-init
loop-w-init c =
    let a = c.args in
    (omega arith, laid_none (widths_none (told_record a.table) a.table.parents.now a.table.codes.now) (omega arith))

pub loop-w-preserved : goal.loop-w-preserved
loop-w-preserved c =
    let s = c in
    let a = s.args in
    let l = c.loop-w in
    let d = c.put_width-p in
    let x = 33 * a.table.record.config.max_entries_per_qubit + 90 in
    let room = more_room l.w a.table.record.config.max_qubits x c.loop-w-test.true in (
      omega (arith, l.invariant.0, d.ensures.most, room.0),
      laid_on (widths_more (told_record a.table) a.table.parents.now a.table.codes.now l.w) l.invariant.1 d.ensures.text d.auto.out,
    )
