-- `find_at` meets its contract: node after node, until one answers or has a bad chain.
use mathlib.Core.Path.{◌≡◌}
use lib.ListN.{length}
use Rattle.exact.specs.Matrix.{identity}
use Rattle.exact.specs.Places.{held}
use Rattle.places.specs.Held.{Holds}
use Rattle.synthesis_arena.specs.Limits.{told_limits}
use Rattle.index.specs.Told.{told_part}
use Rattle.width_answer.proofs.Widths.{SearchingAfter}
use Rattle.width_answer.proofs.find_at.Given as goal

abbrev pub invariant-loop-turn : goal.invariant-loop-turn
invariant-loop-turn l =
    SearchingAfter (told_limits l.limits) (told_part l.part) l.print (held l.limits.width l.exponent l.query) l.at l._turn × (length l.list ≡ length l.initial.list)
    × Holds l.limits.width 0 l.scratch identity
