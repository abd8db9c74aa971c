-- `put_widths` meets its contract: one width after the other. Assumes nothing.
use Prim.Native.Nat.{◌+◌, ◌*◌, ◌≤◌}
use Rattle.circuits_lines.proofs.Each.{Laid}
use Rattle.circuits_answers.specs.Told.{told_record}
use Rattle.circuits_parts.specs.Texts.{width_texts}
use Rattle.circuits_parts.proofs.put_widths.Given as goal

abbrev pub invariant-loop-w : goal.invariant-loop-w
invariant-loop-w l =
    (l.p ≤ l.w * (33 * l.table.record.config.max_entries_per_qubit + 90)) × Laid (width_texts (told_record l.table) l.table.parents.now l.table.codes.now l.w) 0 l.p l.initial.out l.out
