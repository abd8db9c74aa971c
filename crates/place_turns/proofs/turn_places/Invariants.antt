-- `turn_places` meets its contract: after as many single turns as are counted the places are those of the turn by that
-- count. Assumes nothing.
use Rattle.place_turns.specs.Eights.{PlacesOf}
use Rattle.place_turns.proofs.turn_places.Given as goal

abbrev pub invariant-loop : goal.invariant-loop
invariant-loop l = PlacesOf l.counter l.t
