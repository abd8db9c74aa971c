-- `put_identity` meets its contract: places that are all 0 get the 1s. Assumes nothing.
use Rattle.identity.proofs.Filling.{zero_all, blank_all}
use Rattle.identity.proofs.put_identity.Goals as goal

pub put_ones-requires-clause-all_zero : goal.put_ones-requires-clause-all_zero
put_ones-requires-clause-all_zero c = zero_all _ c.requires.m_value

pub returns-clause-blank : goal.returns-clause-blank
returns-clause-blank c = blank_all _ c.requires.m_value c.put_ones.ensures.kept
