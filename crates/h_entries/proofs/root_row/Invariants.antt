-- `root_row` meets its contract: what comes next is as it was, so √2 times each entry read fits.
use mathlib.Core.Bool.{false}
use Rattle.h_entries.specs.Sums.{Summed}
use Rattle.h_entries.proofs.root_row.Given as goal

abbrev pub invariant-loop-i : goal.invariant-loop-i
invariant-loop-i l = Summed false l.initial.m l.m l.e l.f l.i
