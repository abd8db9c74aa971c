-- The values of each case of what a line and an input are read as, and what the functions that read them promise.
-- Assumes nothing.
use Rattle.std.specs.Prelude.{true, List, ◌≡◌, ℕ, ◌-◌, ◌≤◌, length, take, drop, Result, Ok, Err}
use Rattle.refusal.specs.Told.{number_of, position_of}
use Rattle.refusal.specs.declared.Refusal.{Refusal}
use Rattle.tables.specs.Checks.{Limits}
use Rattle.murm_config.specs.declared.MurmConfig.{MurmConfig}
use Rattle.murm_config.specs.Told.{told_config}
use Rattle.circuits_input.specs.Input.{Read, gives, refused, ended, lines_of, Wanted, wanted, input_most, input_of, AskedList, asked_list, question_of}

abbrev pub told_line_one : Result MurmConfig Refusal → Read Limits
told_line_one (Ok m) = gives (told_config m)
told_line_one (Err w) = refused (number_of w) (position_of w)

-- the later lines begin at a place of the input
abbrev pub told_request : List ℕ → Result (MurmConfig × ℕ) Refusal → Read Wanted
told_request input (Ok p) = gives (wanted (told_config p.0) (lines_of (drop p.1 input)))
told_request input (Err w) = refused (number_of w) (position_of w)

-- that place is within the input, which is not too long
abbrev pub Placed : List ℕ → Result (MurmConfig × ℕ) Refusal → Type 0
Placed input (Ok p) = (p.1 ≤ length input) × (length input ≤ input_most)
Placed input (Err w) = true ≡ true

pub record Requested (input : List ℕ) (r : Result (MurmConfig × ℕ) Refusal) : Type 0 where
  pub is : told_request input r ≡ input_of input
  pub placed : Placed input r

-- the codes stand among the numbers from the third up to an end
abbrev pub told_question : List ℕ → Result (ℕ × ℕ) Refusal → Read AskedList
told_question numbers (Ok p) = gives (asked_list p.0 (take (p.1 - 2) (drop 2 numbers)))
told_question numbers (Err w) = refused (number_of w) (position_of w)

abbrev pub end_of : Result (ℕ × ℕ) Refusal → ℕ
end_of (Ok p) = p.1
end_of (Err w) = 2

pub record Questioned (line numbers : List ℕ) (r : Result (ℕ × ℕ) Refusal) : Type 0 where
  pub is : told_question numbers r ≡ question_of (ended line)
  pub start : 2 ≤ end_of r
  pub within : end_of r ≤ length numbers
