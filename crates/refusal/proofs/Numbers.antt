-- The numbers of the refusals, and what a check's answer says of the first row that holds. Assumes nothing.
use mathlib.Core.Path.{◌≡◌, sym, ap}
use mathlib.Core.Bool.{false}
use Prim.Native.Nat.{ℕ, ◌<◌}
use native.Mathlib.Omega.{arith}
use borrow.Author.Tests.{ne_eqb}
use lib.Dec.{eqb}
use Rattle.refusal.specs.Told.{Reason, by_row, told_refusal, number_of}
use Rattle.refusal.specs.declared.Refusal.{Refusal}
use Rattle.refusal.specs.declared.Refusal.TheVariants as r

-- 0 is the number of none
pub some : (r : Refusal) → 0 < number_of r
some r.WidthLimit = omega arith
some r.NoEntries = omega arith
some r.Basis = omega arith
some r.TooLarge = omega arith
some r.ArrayTooShort = omega arith
some r.WidthTooLarge = omega arith
some (r.NotValid i) = omega arith
some (r.DoesNotFit i) = omega arith
some r.LengthNotExact = omega arith
some r.OutOfRange = omega arith
some r.NotLowest = omega arith
some r.ListTooShort = omega arith
some r.BadTable = omega arith
some r.BrokenLine = omega arith
some r.LongInput = omega arith
some r.NoSuchNode = omega arith
some r.BadIndex = omega arith

-- ---- a check, by the first row that holds

-- a check that passes: no row holds
pub passed : {row : ℕ} → by_row 0 ≡ by_row row → row ≡ 0
passed e = ap (λ (t : Reason). t.number) (sym e)

-- r is why: its number is the row's, and it has no position
pub record Refuses (r : Refusal) (row : ℕ) : Type 0 where
  pub told : told_refusal r ≡ by_row row
  pub some : 0 < row
  pub test : eqb row 0 ≡ false

pub refused : {r : Refusal} {row : ℕ} → told_refusal r ≡ by_row row → Refuses r row
refused {r} {row} e =
    let p : 0 < row = omega (arith, some r, ap (λ (t : Reason). t.number) e) in
    record { told = e; some = p; test = ne_eqb row 0 (λ z. absurd (omega (arith, p, z))) }
