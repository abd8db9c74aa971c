-- `turn_places` meets its contract: after as many single turns as are counted the places are those of the turn by that
-- count. Assumes nothing.
use Rattle.place_turns.proofs.Eights.{places_none, places_more}
use Rattle.place_turns.proofs.turn_places.Goals as goal

pub loop-init : goal.loop-init
loop-init c = places_none

pub loop-preserved : goal.loop-preserved
loop-preserved c = places_more c.loop.invariant c.turned-t.ensures
