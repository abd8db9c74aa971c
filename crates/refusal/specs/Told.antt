-- Each refusal by its number and its position, 0 where there is none (SPECIFICATION 9.1). Assumes nothing.
use Rattle.std.specs.Prelude.{ℕ, Result, Ok, Err}
use Rattle.refusal.specs.declared.Refusal.{Refusal}
use Rattle.refusal.specs.declared.Refusal.TheVariants as r

-- a number and a position
pub record Reason : Type 0 where
  pub number : ℕ
  pub position : ℕ

abbrev pub reason : ℕ → ℕ → Reason
reason number position = record { number = number; position = position }

abbrev pub told_refusal : Refusal → Reason
told_refusal r.WidthLimit = reason 1 0
told_refusal r.NoEntries = reason 2 0
told_refusal r.Basis = reason 3 0
told_refusal r.TooLarge = reason 4 0
told_refusal r.ArrayTooShort = reason 5 0
told_refusal r.WidthTooLarge = reason 6 0
told_refusal (r.NotValid i) = reason 7 i
told_refusal (r.DoesNotFit i) = reason 8 i
told_refusal r.LengthNotExact = reason 9 0
told_refusal r.OutOfRange = reason 10 0
told_refusal r.NotLowest = reason 11 0
told_refusal r.ListTooShort = reason 12 0
told_refusal r.BadTable = reason 13 0
told_refusal r.BrokenLine = reason 14 0
told_refusal r.LongInput = reason 15 0
told_refusal r.NoSuchNode = reason 16 0
told_refusal r.BadIndex = reason 17 0

-- the first row that holds is told by its number alone; 0 where none does
abbrev pub by_row : ℕ → Reason
by_row number = reason number 0

-- what a check comes to: it passes, or it refuses
abbrev pub told_check : Result (Unit {0}) Refusal → Reason
told_check (Ok v) = by_row 0
told_check (Err r) = told_refusal r

abbrev pub number_of : Refusal → ℕ
number_of r = (told_refusal r).number

abbrev pub position_of : Refusal → ℕ
position_of r = (told_refusal r).position
