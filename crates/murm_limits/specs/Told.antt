-- The limits of the code as the record of the definitions, so that contracts speak of these alone (SPECIFICATION 12.8).
-- Assumes nothing.
use Rattle.tables.specs.Checks.{Limits}
use Rattle.murm_limits.specs.declared.MurmConfig.{MurmConfig}

-- the limits (SPECIFICATION 6.1)
abbrev pub told_config : MurmConfig → Limits
told_config m = record { qubits = m.max_qubits; gates = m.max_gates; entries = m.max_entries_per_qubit; basis = m.basis.0 }
