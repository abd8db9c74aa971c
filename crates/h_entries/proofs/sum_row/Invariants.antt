-- `sum_row` meets its contract: what comes next is as it was, so sum and difference of each pair read fit.
use mathlib.Core.Bool.{true}
use Rattle.h_entries.specs.Sums.{Summed}
use Rattle.h_entries.proofs.sum_row.Given as goal

abbrev pub invariant-loop-i : goal.invariant-loop-i
invariant-loop-i l = Summed true l.initial.m l.m l.e l.f l.i
