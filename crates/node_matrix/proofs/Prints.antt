-- The fingerprint of a candidate: what its answer says of the step. Assumes nothing.
use mathlib.Core.Path.{◌≡◌, refl, sym, ap, ◌∙◌, subst}
use mathlib.Core.Bool.{Bool, true, false}
use mathlib.Core.List.{List}
use Rattle.std.specs.Prelude.{Option, Some, None}
use Prim.Native.Nat.{ℕ}
use lib.IntN.{ℤ}
use Rattle.ints.specs.Lists.{pick}
use Rattle.ints.proofs.Bools.{clash}
use Rattle.cyclotomic.specs.Told.{does_not_fit}
use Rattle.exact.specs.Matrix.{Exact}
use Rattle.exact.proofs.Words.{Equal}
use Rattle.exact.specs.Rows.{act, gate_of}
use Rattle.exact.specs.Fits.{step_fits}
use Rattle.exact.specs.Answers.{given, refused}
use Rattle.exact.specs.Fingerprint.{fingerprint}
use Rattle.exact.proofs.Answered.{is_given, number}
use Rattle.exact.proofs.Coded.{proper}
use Rattle.exact.proofs.Keeps.{step_equal, act_equal'}
use Rattle.exact.proofs.Prints.{fingerprint_equal}
use Rattle.exact.specs.Places.{held}
use Rattle.places.specs.Held.{Holds}
use Rattle.node_matrix.specs.Matrices.{print_after, OnCopy, FormedAs}

module _ (n g : ℕ) (x : Exact) where
  pub given_print : {f : ℕ} → step_fits n (gate_of n g) x ≡ true → f ≡ fingerprint n (act n (gate_of n g) x) → given f ≡ print_after n g x
  unfolding print_after
  given_print h e = rw h (ap given e)

  pub refused_print : step_fits n (gate_of n g) x ≡ false → refused does_not_fit 0 ≡ print_after n g x
  unfolding print_after
  refused_print h = rw h

  pub print_given : {f : ℕ} → given f ≡ print_after n g x → (step_fits n (gate_of n g) x ≡ true) × (f ≡ fingerprint n (act n (gate_of n g) x))
  unfolding print_after
  print_given {f} e = by (step_fits n (gate_of n g) x) e
    where
      by : (b : Bool) → given f ≡ pick b (given (fingerprint n (act n (gate_of n g) x))) (refused 8 0) → (b ≡ true) × (f ≡ fingerprint n (act n (gate_of n g) x))
      by true q = (refl, ap number q)
      by false q = clash refl (ap is_given q)

  pub print_refused : {a i : ℕ} → refused a i ≡ print_after n g x → step_fits n (gate_of n g) x ≡ false
  unfolding print_after
  print_refused {a} {i} e = by (step_fits n (gate_of n g) x) e
    where
      by : (b : Bool) → refused a i ≡ pick b (given (fingerprint n (act n (gate_of n g) x))) (refused 8 0) → b ≡ false
      by true q = clash refl (sym (ap is_given q))
      by false q = refl

-- equal matrices fit alike, and have one fingerprint after a gate
module _ (n g : ℕ) {x y : Exact} (e : Equal n x y) where
  pub fits_alike : step_fits n (gate_of n g) x ≡ step_fits n (gate_of n g) y
  fits_alike = step_equal n (gate_of n g) e (proper n g)

  pub prints_alike : fingerprint n (act n (gate_of n g) x) ≡ fingerprint n (act n (gate_of n g) y)
  prints_alike = fingerprint_equal n (act_equal' n (gate_of n g) e (proper n g))

-- what a candidate comes to, by the step on the copy
module _ (n g : ℕ) (x : Exact) (l : List ℤ) where
  pub copy_done : {r : Option ℕ} {k : ℕ} → r ≡ Some k → OnCopy n g x l r → (step_fits n (gate_of n g) x ≡ true) × Holds n k l (act n (gate_of n g) x)
  copy_done e w = subst (OnCopy n g x l) e w

  pub copy_unfit : {r : Option ℕ} → r ≡ None → OnCopy n g x l r → FormedAs n g x l None
  copy_unfit e w = record { print = refused_print n g x (subst (OnCopy n g x l) e w); left = tt }

  pub copy_none : {r : Option (ℕ × ℕ)} → r ≡ None → OnCopy n g x l None → FormedAs n g x l r
  copy_none e w = subst (FormedAs n g x l) (sym e) (copy_unfit {r = None} refl w)

  pub formed_print : {k f : ℕ} → (step_fits n (gate_of n g) x ≡ true) × Holds n k l (act n (gate_of n g) x) → f ≡ fingerprint n (held n k l) → FormedAs n g x l (Some (f, k))
  formed_print w e = record { print = given_print n g x w.0 (e ∙ fingerprint_equal n w.1.equal); left = w.1 }
