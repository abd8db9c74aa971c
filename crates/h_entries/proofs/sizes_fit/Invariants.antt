-- `sizes_fit` meets its contract: `over` is false exactly while every pair of places passed has sizes whose sum is
-- within the limit.
use mathlib.Core.Bool.{not}
use Rattle.h_entries.specs.Sums.{SizesFit, Tells}
use Rattle.h_entries.proofs.sizes_fit.Given as goal

abbrev pub invariant-loop-i : goal.invariant-loop-i
invariant-loop-i l = Tells (SizesFit l.m l.p l.q l.i) (not l.over)
