-- `node_for` meets its contract: the look-up from the node reached is the look-up from the start.
-- Assumes nothing.
use mathlib.Core.Path.{sym, ◌∙◌}
use Rattle.std.proofs.Common.{arith}
use Rattle.walk.proofs.Lookups.{lookup_here, lookup_on, lookup_end}
use Rattle.synthesis_arena.proofs.node_for.Goals as goal

pub returns-then-count-from : goal.returns-then-count-from
returns-then-count-from c = record { lowest = lookup_end _ _ _ _ c.if-count-from.true }

pub returns-then-fingerprints-i : goal.returns-then-fingerprints-i
returns-then-fingerprints-i c = record { lowest = lookup_here _ _ _ _ (omega (arith, c.loop-i-test.true)) c.if-fingerprints-i.true ∙ c.loop-i.invariant }

pub loop-i-preserved : goal.loop-i-preserved
loop-i-preserved c = sym (lookup_on _ _ _ _ (omega (arith, c.loop-i-test.true)) c.if-fingerprints-i.false) ∙ c.loop-i.invariant

pub returns : goal.returns
returns c = record { lowest = lookup_end _ _ _ _ (omega (arith, c.loop-i-test.false)) ∙ c.loop-i.invariant }
