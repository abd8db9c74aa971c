-- The rows 1 to 4, one law for each way in which the limits are tested. Assumes nothing.
use mathlib.Core.Path.{◌≡◌}
use mathlib.Core.Bool.{true, false}
use Prim.Native.Nat.{◌≤◌, ◌<◌}
use borrow.Author.Tests.{lt-ltb, le-ltb, eq-eqb, ne_eqb}
use lib.Dec.{eqb}
use Rattle.circuit.specs.Sets.{subset, supported}
use Rattle.tables.specs.Checks.{Limits, first_row, limit_rows}

module _ (l : Limits) where
  pub no_width : l.qubits ≡ 0 → 1 ≡ first_row (limit_rows l)
  unfolding first_row
  no_width e = rw (eq-eqb l.qubits 0 e)

  module _ (some : l.qubits ≡ 0 → ⊥) where
    pub wide : 5 < l.qubits → 1 ≡ first_row (limit_rows l)
    unfolding first_row
    wide h = rw (ne_eqb l.qubits 0 some, lt-ltb 5 l.qubits h)

    module _ (few : l.qubits ≤ 5) where
      pub no_entries : l.entries ≡ 0 → 2 ≡ first_row (limit_rows l)
      unfolding first_row
      no_entries e = rw (ne_eqb l.qubits 0 some, le-ltb 5 l.qubits few, eq-eqb l.entries 0 e)

      module _ (entries : l.entries ≡ 0 → ⊥) where
        pub no_basis : eqb l.basis 0 ≡ true → 3 ≡ first_row (limit_rows l)
        unfolding first_row
        no_basis e = rw (ne_eqb l.qubits 0 some, le-ltb 5 l.qubits few, ne_eqb l.entries 0 entries, e)

        module _ (basis : eqb l.basis 0 ≡ false) where
          pub not_supported : subset l.basis supported ≡ false → 3 ≡ first_row (limit_rows l)
          unfolding first_row
          not_supported e = rw (ne_eqb l.qubits 0 some, le-ltb 5 l.qubits few, ne_eqb l.entries 0 entries, basis, e)

          module _ (known : subset l.basis supported ≡ true) where
            pub many_gates : 64 < l.gates → 4 ≡ first_row (limit_rows l)
            unfolding first_row
            many_gates h =
                rw (ne_eqb l.qubits 0 some, le-ltb 5 l.qubits few, ne_eqb l.entries 0 entries, basis, known, lt-ltb 64 l.gates h)

            module _ (gates : l.gates ≤ 64) where
              pub many_entries : 1000000 < l.entries → 4 ≡ first_row (limit_rows l)
              unfolding first_row
              many_entries h =
                  rw (
                    ne_eqb l.qubits 0 some,
                    le-ltb 5 l.qubits few,
                    ne_eqb l.entries 0 entries,
                    basis,
                    known,
                    le-ltb 64 l.gates gates,
                    lt-ltb 1000000 l.entries h,
                  )

              pub accepted : l.entries ≤ 1000000 → 0 ≡ first_row (limit_rows l)
              unfolding first_row
              accepted h =
                  rw (
                    ne_eqb l.qubits 0 some,
                    le-ltb 5 l.qubits few,
                    ne_eqb l.entries 0 entries,
                    basis,
                    known,
                    le-ltb 64 l.gates gates,
                    le-ltb 1000000 l.entries h,
                  )
