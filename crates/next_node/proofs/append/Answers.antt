-- `append` meets its contract: a known candidate is skipped, another is put. Assumes nothing.
use mathlib.Core.Path.{sym, ◌∙◌}
use Rattle.width_arrays.proofs.Live.{keep}
use Rattle.next_node.proofs.Tries.{skip_known}
use Rattle.next_node.proofs.append.Goals as goal

pub returns-then-is_known-clause-appended : goal.returns-then-is_known-clause-appended
returns-then-is_known-clause-appended c = λ h e q y x.
    keep h _ (skip_known h _ _ y e q c.requires.room x ∙ sym c.is_known.ensures.known ∙ c.if-is_known.true)

pub returns-clause-appended : goal.returns-clause-appended
returns-clause-appended c = λ h e q y x.
    c.put_node.ensures.put _ h y (skip_known h _ _ y e q c.requires.room x ∙ sym c.is_known.ensures.known ∙ c.if-is_known.false)
