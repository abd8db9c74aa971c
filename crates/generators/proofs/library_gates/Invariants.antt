-- `generators::library_gates` meets its contract: each loop keeps that the codes of the kinds, or of the operands, that
-- it has passed are written from the place on at which it began. Assumes nothing.
use Rattle.circuit.specs.Codes.{code_of}
use Rattle.generators.specs.Generators.{kept, thirds, seconds, firsts}
use Rattle.generators.proofs.Fills.{Filled}
use Rattle.generators.proofs.library_gates.Given as goal

abbrev pub invariant-loop-kind : goal.invariant-loop-kind
invariant-loop-kind l = Filled (firsts l.width l.basis.0) l.initial.gates 0 l.kind l.at l.gates

abbrev pub invariant-loop-a : goal.invariant-loop-a
invariant-loop-a l = Filled (seconds l.width l.basis.0 l.kind) l.initial.gates l.initial.at l.a l.at l.gates

abbrev pub invariant-loop-b : goal.invariant-loop-b
invariant-loop-b l = Filled (thirds l.width l.basis.0 l.kind l.a) l.initial.gates l.initial.at l.b l.at l.gates

abbrev pub invariant-loop-c : goal.invariant-loop-c
invariant-loop-c l = Filled (λ i. kept l.width l.basis.0 (code_of l.kind l.a l.b i)) l.initial.gates l.initial.at l.c l.at l.gates
