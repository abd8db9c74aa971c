-- `put_node` meets its contract: the width is full, or the node is put. Assumes nothing.
use Rattle.std.proofs.Common.{arith}
use Rattle.width_arrays.proofs.Live.{grow, fill}
use Rattle.width_arrays.proofs.put_node.Goals as goal

pub returns-then-count-entries : goal.returns-then-count-entries
returns-then-count-entries c = record { put = λ mode h y s. fill h _ s (omega (arith, c.if-count-entries.true)) }

pub returns : goal.returns
returns c = record { put = λ mode h y s. grow h _ _ y s (omega (arith, c.requires.room.few, c.if-count-entries.false)) c.keep_up.ensures.kept_up }
