-- `put_hex` meets its contract: the digits from i on are in their places. Assumes nothing.
use Rattle.circuits_text.proofs.Placing.{hex_on, hex_done}
use Rattle.circuits_text.proofs.put_hex.Goals as goal

pub loop-i-preserved : goal.loop-i-preserved
loop-i-preserved c = hex_on c.loop-i.invariant c.requires _ c.loop-i-test.true c.glyph.ensures

pub returns-clause-written : goal.returns-clause-written
returns-clause-written c = hex_done c.loop-i.invariant c.requires c.loop-i-test.false
