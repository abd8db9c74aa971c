-- `turned` meets its contract: one turn of the places. Assumes nothing.
use Rattle.place_turns.proofs.Eights.{places_turn}
use Rattle.place_turns.proofs.TurnPlaces.turned.Goals as goal

pub returns : goal.returns
returns c = places_turn _ _ c.requires c.opposite-opposite_d.ensures
