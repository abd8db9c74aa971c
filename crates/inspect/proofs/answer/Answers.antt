-- `answer` lends its arrays whole. The law's arguments are written out: otherwise antt would make the list. Assumes
-- nothing.
use Rattle.std.proofs.Common.{ℕ, sym}
use Rattle.std.proofs.lemmas.List.{length-replicate}
use Rattle.inspect.proofs.answer.Goals as goal

pub slice_bounds-lines-end : goal.slice_bounds-lines-end
slice_bounds-lines-end g c = sym (length-replicate {0} {A = ℕ} 100000 0)

pub slice_bounds-lines-end-2 : goal.slice_bounds-lines-end-2
slice_bounds-lines-end-2 g c = sym (length-replicate {0} {A = ℕ} 100000 0)

pub slice_bounds-lines-end-3 : goal.slice_bounds-lines-end-3
slice_bounds-lines-end-3 g c = sym (length-replicate {0} {A = ℕ} 100000 0)

pub slice_bounds-lines-end-4 : goal.slice_bounds-lines-end-4
slice_bounds-lines-end-4 g c = sym (length-replicate {0} {A = ℕ} 524288 0)

pub slice_bounds-lines-end-5 : goal.slice_bounds-lines-end-5
slice_bounds-lines-end-5 g c = sym (length-replicate {0} {A = ℕ} 65536 0)
