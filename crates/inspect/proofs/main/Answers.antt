-- `main` takes no more bytes than were read. The law's arguments are written out: otherwise antt would make the list.
-- Assumes nothing.
use Rattle.std.proofs.Common.{ℕ, sym}
use Rattle.std.proofs.lemmas.List.{length-replicate, length-take-le}
use Rattle.inspect.proofs.main.Goals as goal

pub slice_bounds-fill-end : goal.slice_bounds-fill-end
slice_bounds-fill-end c = sym (length-replicate {0} {A = ℕ} 1048577 0)

pub slice_bounds-input-end : goal.slice_bounds-input-end
slice_bounds-input-end c = c.in_ok-n.ensures.within

pub slice_bounds-answer-end : goal.slice_bounds-answer-end
slice_bounds-answer-end c = sym (length-take-le c.in_ok-n.n c.fill.new.places c.in_ok-n.ensures.within)
