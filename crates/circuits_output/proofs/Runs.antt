-- What the program answers, by what was put for its input. Assumes nothing.
use mathlib.Core.List.{List, ◌++◌}
use mathlib.Core.Option.{none, some}
use mathlib.Core.Path.{◌≡◌, sym, ap, ◌∙◌, subst}
use Prim.Native.Nat.{ℕ, ◌+◌, ◌-◌, ◌≤◌, ◌<◌}
use native.Mathlib.Omega.{arith}
use borrow.Author.Tests.{lt-ltb, le-ltb}
use lib.ListN.{length, take, drop, length-drop}
use lib.Seq.{take_all}
use Rattle.ints.specs.Lists.{over}
use Rattle.walk.specs.Modes.{by_print}
use Rattle.tables.specs.Checks.{Limits, Arrays}
use Rattle.tables.specs.Tables.{BuildReply, left, build_of}
use Rattle.circuits_text.specs.Writing.{Put}
use Rattle.circuits_text.proofs.Placing.{put_as}
use Rattle.circuits_input.specs.Input.{Read, lines_of, Wanted, input_of}
use Rattle.circuits_input.specs.Told.{told_request, Placed}
use Rattle.std.specs.Prelude.{Result}
use Rattle.refusal.specs.declared.Refusal.{Refusal}
use Rattle.murm_config.specs.declared.MurmConfig.{MurmConfig}
use Rattle.circuits_output.proofs.Builds.{text_is}
use Rattle.circuits_built.specs.Built.{reply_then, room_for}
use Rattle.circuits_output.specs.Output.{built_text, input_text, input_arrays, output_with, arrays_after, run, program_of}

-- ---- the later lines

-- they begin within the input
pub placed_as : (input : List ℕ) {r s : Result (MurmConfig × ℕ) Refusal} → r ≡ s → Placed input r → Placed input s
placed_as input e p = subst (Placed input) e p

-- they are all that stands from there on
pub later_all : (input : List ℕ) (from : ℕ) → take (length input - from) (drop from input) ≡ drop from input
later_all input from = take_all (length input - from) (drop from input) (omega (arith, length-drop from input))

-- what a build came to, and they, are put
pub built_put :
    (l : Limits) (lent : Arrays) (input : List ℕ) (from : ℕ) {after : Arrays} {reply : BuildReply} {p : ℕ} {xs ys : List ℕ} →
    left reply after ≡ build_of by_print l lent → Put 0 (reply_then reply after (lines_of (take (length input - from) (drop from input)))) p xs ys →
    Put 0 (built_text lent (lines_of (drop from input)) l) p xs ys
built_put l lent input from {after} {reply} e d =
    put_as (ap (λ (bs : List ℕ). reply_then reply after (lines_of bs)) (later_all input from) ∙ text_is l lent (lines_of (drop from input)) e) d

-- ---- the whole

-- what is put for an input, and what the arrays then hold
abbrev pub Came : Arrays → Arrays → ℕ → List ℕ → List ℕ → Read Wanted → Type 0
Came lent after p old xs x = Put 0 (input_text lent x) p old xs × (after ≡ input_arrays lent x)

module _ (input : List ℕ) (lent : Arrays) (old : List ℕ) where
  pub program_short : length old < room_for (length lent.parents) → run none old lent ≡ program_of input lent old
  unfolding program_of
  program_short h = rw (lt-ltb (length old) (room_for (length lent.parents)) h)

  -- what was read of the input is the case s
  pub program_came :
      {after : Arrays} {p : ℕ} {xs : List ℕ} {r s : Result (MurmConfig × ℕ) Refusal} → room_for (length lent.parents) ≤ length old → r ≡ s →
      told_request input r ≡ input_of input → Came lent after p old xs (told_request input s) → run (some p) xs after ≡ program_of input lent old
  unfolding program_of output_with arrays_after
  program_came {after} {p} {xs} {r} {s} h e is came =
      let d = subst (λ (x : Result (MurmConfig × ℕ) Refusal). Came lent after p old xs (told_request input x)) (sym e) came in
      let text = input_text lent (told_request input r) in
      let n : p ≡ length text = omega (arith, d.0.after) in
      let z : 0 + length text ≡ length text = omega arith in
      let x : xs ≡ over text old = d.0.is ∙ ap (λ (k : ℕ). text ++ drop k old) z in
      rw (le-ltb (length old) (room_for (length lent.parents)) h, ← is)
      (ap (λ (k : ℕ). run (some k) xs after) n
      ∙ (ap (λ (ys : List ℕ). run (some (length text)) ys after) x ∙ ap (λ (a : Arrays). run (some (length text)) (over text old) a) d.1))
