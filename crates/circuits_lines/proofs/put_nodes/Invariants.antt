-- `put_nodes` meets its contract. Assumes nothing.
use Prim.Native.Nat.{◌+◌, ◌*◌, ◌≤◌}
use lib.ListN.{drop}
use Rattle.circuits_lines.specs.Lines.{node_lines}
use Rattle.circuits_lines.proofs.Each.{Laid}
use Rattle.circuits_lines.proofs.put_nodes.Given as goal

abbrev pub invariant-loop-i : goal.invariant-loop-i
invariant-loop-i l = (l.p ≤ l.at + 33 * l.i) × Laid (node_lines (drop l.start l.parents) (drop l.start l.codes) l.i) l.at l.p l.initial.out l.out
