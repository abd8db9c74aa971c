-- With three arrays of 2,048 zeros lent, the text is the program's output. Assumes nothing.
use mathlib.Core.List.{List, ◌++◌}
use mathlib.Core.Option.{none, some}
use mathlib.Core.Path.{◌≡◌, refl, sym, ap, ◌∙◌, subst}
use Prim.Native.Nat.{ℕ, ◌+◌, ◌≤◌}
use native.Mathlib.Omega.{arith}
use borrow.Author.Tests.{le-ltb}
use lib.ListN.{length, drop, length-append, length-drop, length-replicate}
use Rattle.ints.specs.Lists.{over}
use Rattle.tables.specs.Checks.{Arrays, arrays}
use Rattle.circuits_text.specs.Writing.{Put}
use Rattle.std.specs.Prelude.{Option, Some, None}
use Rattle.circuits_output.specs.Output.{arrays_after, lent_places, lent_arrays, output, told_printed}
use Rattle.circuits_built.specs.Built.{room_for}
use Rattle.circuits_output.specs.Output.{ProgramRun, run, text_run, program_of}

pub places_count : {l : List ℕ} → l ≡ lent_places → 2048 ≡ length l
unfolding lent_places
places_count e = sym (ap length e ∙ length-replicate {0} {A = ℕ} 2048 0)

-- the program lends this many bytes
pub room_is : room_for 2048 ≡ 3133584
unfolding room_for
room_is = refl

pub zeros_are : {f u c : List ℕ} → f ≡ lent_places → u ≡ lent_places → c ≡ lent_places → arrays f u c ≡ lent_arrays
zeros_are {f} {u} {c} a b d =
    ap (λ (l : List ℕ). arrays l u c) a ∙ (ap (λ (l : List ℕ). arrays lent_places l c) b ∙ ap (λ (l : List ℕ). arrays lent_places lent_places l) d)

-- as many bytes as a text that is over others are there
over_fits : (new old : List ℕ) → length (over new old) ≡ length old → length new ≤ length old
over_fits new old e = omega (arith, e, length-append new (drop (length new) old), length-drop (length new) old)

module _ (input old xs : List ℕ) (printed : Option ℕ) {lent after : Arrays} (zeros : lent ≡ lent_arrays) (room : room_for 2048 ≤ length old)
    (e : run (told_printed printed) xs after ≡ program_of input lent old) where
  made : run (told_printed printed) xs after ≡ text_run (output input) old (arrays_after lent_arrays input)
  unfolding program_of output
  made = e ∙ (ap (λ (a : Arrays). program_of input a old) zeros ∙ rw (le-ltb (length old) (room_for (length lent_places)) (subst (λ (k : ℕ). room_for k ≤ length old) (places_count refl) room)))

  pub some_text : printed ≡ None → ⊥
  some_text f =
      let g : told_printed printed ≡ some (length (output input)) = ap (λ (r : ProgramRun). r.printed) made in
      let h : told_printed printed ≡ none = ap told_printed f in
      let z : ◌≡◌ {A = ℕ} 0 1 = cc in
      absurd (omega (arith, z))

  pub text_put : (n : ℕ) → length xs ≡ length old → printed ≡ Some n → Put 0 (output input) n old xs
  text_put n same f =
      let g : told_printed printed ≡ some (length (output input)) = ap (λ (r : ProgramRun). r.printed) made in
      let h : told_printed printed ≡ some n = ap told_printed f in
      let m : n ≡ length (output input) = cc in
      let x : xs ≡ over (output input) old = ap (λ (r : ProgramRun). r.out) made in
      let z : length (output input) ≡ 0 + length (output input) = omega arith in
      record {
        is = x ∙ ap (λ (k : ℕ). output input ++ drop k old) z;
        after = omega (arith, m);
        room = omega (arith, m, over_fits (output input) old (sym (ap length x) ∙ same));
      }
