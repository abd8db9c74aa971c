-- `roots_fit` meets its contract: where every entry passed fits, so do they all, and one that does not is among them.
use mathlib.Core.Bool.{false}
use Rattle.h_entries.specs.Sums.{SumsFit}
use Rattle.h_entries.proofs.roots_fit.Given as goal

abbrev pub invariant-loop-i : goal.invariant-loop-i
invariant-loop-i l = SumsFit false l.m l.e l.f l.i
