-- `put_reply` meets its contract: the answer's case decides the text. Assumes nothing.
use Rattle.std.proofs.Common.{rules}
use Rattle.circuits_lines.specs.Lines.{none_line}
use Rattle.circuits_parts.proofs.put_reply.Goals as goal

pub returns-in-Ok-None-clause-text : goal.returns-in-Ok-None-clause-text
unfolding none_line
returns-in-Ok-None-clause-text c = search rules
