-- What limits are that no row refuses, and that arrays have room exactly where row 5 does not refuse. Assumes nothing.
use mathlib.Core.Path.{◌≡◌, refl}
use mathlib.Core.Logic.{inl, inr}
use mathlib.Core.Bool.{false, not, ◌||◌}
use Prim.Native.Nat.{ℕ, ◌≤◌, ◌<◌}
use native.Mathlib.Omega.{arith}
use borrow.Author.Tests.{eqb-true, eqb-false, ltb-false, le-ltb, not-false}
use lib.Dec.{eqb, ltb}
use lib.ListN.{length}
use Rattle.ints.proofs.Bools.{neither}
use Rattle.tables.specs.Checks.{first_row, Limits, limit_rows, Arrays, places_of, room_row}
use Rattle.tables.specs.Tables.{Table, record_row}
use Rattle.tables.proofs.Causes.{none_to}
use Rattle.tables.proofs.InWords.{limits_in_words}

-- the numbers of limits that are not refused
pub record Accepted (l : Limits) : Type 0 where
  pub some_width : 0 < l.qubits
  pub widths : l.qubits ≤ 5
  pub some : 0 < l.entries
  pub entries : l.entries ≤ 1000000
  pub gates : l.gates ≤ 64

-- a number that is not 0
pub above : (n : ℕ) → eqb n 0 ≡ false → 0 < n
above n e = let f = eqb-false n 0 e in omega (arith, f)

pub accepted : (l : Limits) → first_row (limit_rows l) ≡ 0 → Accepted l
accepted l e =
    let n = none_to (limits_in_words l) e in
    let no_width : l.qubits ≡ 0 → ⊥ = λ z. n.0 0 (inl z, refl) in
    let wide : 5 < l.qubits → ⊥ = λ z. n.0 0 (inr z, refl) in
    let no_entry : l.entries ≡ 0 → ⊥ = λ z. n.1.0 0 (z, refl) in
    let deep : 64 < l.gates → ⊥ = λ z. n.1.1.1.0 0 (inl z, refl) in
    let many : 1000000 < l.entries → ⊥ = λ z. n.1.1.1.0 0 (inr z, refl) in
    record {
      some_width = omega (arith, no_width);
      widths = omega (arith, wide);
      some = omega (arith, no_entry);
      entries = omega (arith, many);
      gates = omega (arith, deep);
    }

-- arrays that row 5 does not refuse have E places for each width
pub roomy : (l : Limits) (a : Arrays) → (room_row l a).holds ≡ false
    → (places_of l ≤ length a.prints) × (places_of l ≤ length a.parents) × (places_of l ≤ length a.codes)
roomy l a e =
    let p = neither (ltb (length a.prints) (places_of l)) (ltb (length a.parents) (places_of l) || ltb (length a.codes) (places_of l)) e in
    let q = neither (ltb (length a.parents) (places_of l)) (ltb (length a.codes) (places_of l)) p.1 in (
      ltb-false (length a.prints) (places_of l) p.0,
      ltb-false (length a.parents) (places_of l) q.0,
      ltb-false (length a.codes) (places_of l) q.1,
    )

-- and row 5 does not refuse arrays that have them
pub room_is : (l : Limits) (a : Arrays) → places_of l ≤ length a.prints → places_of l ≤ length a.parents → places_of l ≤ length a.codes
    → (room_row l a).holds ≡ false
room_is l a p q r =
    rw (le-ltb (length a.prints) (places_of l) p, le-ltb (length a.parents) (places_of l) q, le-ltb (length a.codes) (places_of l) r)

-- the limits of a record that is not refused
pub record_limits : (t : Table) → (record_row t).holds ≡ false → Accepted t.limits
record_limits t r = accepted t.limits (eqb-true (first_row (limit_rows t.limits)) 0 (not-false _ (neither (not (eqb (first_row (limit_rows t.limits)) 0)) _ r).0))
