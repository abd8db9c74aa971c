-- `start` meets its contract: the scan's arm leaves the part. Assumes nothing.
use mathlib.Core.Path.{sym, ap, ◌∙◌}
use mathlib.Core.List.{[]}
use Rattle.index.specs.declared.LookupBy.{LookupBy}
use Rattle.walk.specs.Index.{kept, filled}
use Rattle.index.specs.Told.{told_by}
use Rattle.index.proofs.start.Goals as goal

pub returns-in-Index : goal.returns-in-Index
unfolding filled
returns-in-Index c = record { started = c.clear.ensures.cleared ∙ sym (ap (λ (b : LookupBy). kept (told_by b) [] 0 c.args.index.now) c.in-Index.is) }
