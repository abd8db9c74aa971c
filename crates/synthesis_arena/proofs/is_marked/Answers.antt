-- `is_marked` meets its contract: its two tests are the definition's two parts. Assumes nothing.
use borrow.Author.Tests.{eq-eqb, ne_eqb}
use Rattle.walk.specs.Chains.{marked}
use Rattle.synthesis_arena.proofs.is_marked.Goals as goal

pub returns-then-parents : goal.returns-then-parents
unfolding marked
returns-then-parents c = record { marked = rw (eq-eqb _ _ c.if-parents.true) }

pub returns-else-parents : goal.returns-else-parents
unfolding marked
returns-else-parents c = record { marked = rw (ne_eqb _ _ c.if-parents.false) }
