-- `put_codes` meets its contract. Assumes nothing.
use Prim.Native.Nat.{◌+◌, ◌*◌, ◌≤◌}
use lib.ListN.{take}
use Rattle.circuits_lines.specs.Lines.{spaced_codes}
use Rattle.circuits_lines.proofs.Each.{Laid}
use Rattle.circuits_lines.proofs.put_codes.Given as goal

abbrev pub invariant-loop-code : goal.invariant-loop-code
invariant-loop-code l = (l.p ≤ l.at + 11 * l.code-index) × Laid (spaced_codes (take l.code-index l.codes)) l.at l.p l.initial.out l.out
