-- `unitary_fingerprint` meets its contract: width, exponent and the entries, each turned by the phase as it is read,
-- are mixed in and folded.
use Rattle.std.proofs.Common.{lt_of_le_of_lt, arith, lit<}
use Rattle.places.proofs.Placed.{small_at}
use Rattle.phases.proofs.Pivots.{phase_of_lem}
use Rattle.prints.proofs.Mixing.{print_is}
use Rattle.prints.proofs.unitary_fingerprint.Goals as goal

pub mix_entries-requires-clause-small_to : goal.mix_entries-requires-clause-small_to
mix_entries-requires-clause-small_to c =
    record { small = λ j h. small_at _ _ j c.requires.all_small (rw c.area.ensures at h) }

pub returns : goal.returns
returns c =
    rw (c.fold.ensures, c.mix_entries.ensures, c.head.ensures, c.area.ensures)
    (print_is c.args.n c.args.k _ _ (lt_of_le_of_lt c.requires.n_bound (lit< tt)) (omega arith)
    (phase_of_lem _ _ _ _ c.least_power-power.ensures c.pivot.ensures.entry))
