-- `same_bytes` meets its contract: it compares byte by byte. Assumes nothing.
use Rattle.std.proofs.Common.{sym, ◌∙◌}
use Rattle.circuits_text.proofs.Split.{same_pointwise}
use Rattle.circuits_text.proofs.same_bytes.Goals as goal

pub returns : goal.returns
returns c = c.eq.ensures ∙ sym (same_pointwise c.args.a.now c.args.b.now)
