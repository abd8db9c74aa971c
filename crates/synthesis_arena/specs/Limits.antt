-- The values of the struct of a width's limits. Assumes nothing.
use Rattle.walk.specs.Finds as finds
use Rattle.synthesis_arena.specs.declared.WidthLimits.{WidthLimits}

abbrev pub told_limits : WidthLimits → finds.WidthLimits
told_limits l = record { width = l.width; basis = l.basis; gates = l.gates; entries = l.entries }
