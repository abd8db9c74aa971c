-- The recheck of a list, by how its steps went and by what the places hold. Assumes nothing.
use mathlib.Core.Path.{◌≡◌, refl, sym, ap, ◌∙◌}
use mathlib.Core.Bool.{Bool, false}
use mathlib.Core.List.{List}
use Prim.Native.Nat.{ℕ}
use lib.IntN.{ℤ}
use Rattle.ints.proofs.Bools.{clash, iff}
use Rattle.exact.specs.Matrix.{Exact}
use Rattle.exact.proofs.Words.{Equal}
use Rattle.exact.specs.Lists.{product}
use Rattle.exact.specs.Fits.{Steps, all_fit, unfit_at, steps}
use Rattle.exact.specs.Phase.{up_to_phase}
use Rattle.exact.specs.Answers.{given, refused, by_steps, list_answer}
use Rattle.exact.proofs.Answered.{is_given, number, list_refused}
use Rattle.exact.proofs.Phases.{up_trans, phased_test, phased_equal}
use Rattle.exact.proofs.Values.{equal_sym}
use Rattle.exact.specs.Places.{held}
use Rattle.lists.specs.Walk.{HoldsProduct}
use Rattle.walk.specs.Finds.{rechecked}

-- ---- the test says the same of equal matrices

up_equal : (n : ℕ) {x y : Exact} → Equal n x y → (z : Exact) → up_to_phase n x z ≡ up_to_phase n y z
up_equal n {x} {y} w z =
    iff (up_to_phase n x z) (up_to_phase n y z)
    (up_trans n y x z (phased_test n y x (phased_equal n (equal_sym n w))))
    (up_trans n x y z (phased_test n x y (phased_equal n w)))

-- ---- the recheck, by the answer to the list

module _ (n : ℕ) (codes : List ℕ) where
  list_given : {k : ℕ} → given k ≡ list_answer n codes → (steps n codes ≡ all_fit) × (k ≡ (product n codes).k)
  unfolding list_answer
  list_given {k} = by (steps n codes)
    where
      by : (s : Steps) → given k ≡ by_steps (product n codes).k s → (s ≡ all_fit) × (k ≡ (product n codes).k)
      by all_fit e = (refl, ap number e)
      by (unfit_at j) e = clash refl (ap is_given e)

  pub recheck_unfit : {i a : ℕ} (x : Exact) → refused a i ≡ list_answer n codes → false ≡ rechecked n codes x
  unfolding rechecked
  recheck_unfit x e = rw (list_refused n codes (sym e))

  pub recheck_test : {k : ℕ} (l : List ℤ) (x : Exact) → given k ≡ list_answer n codes → HoldsProduct n codes l → {r : Bool} → r ≡ up_to_phase n (held n k l) x
      → r ≡ rechecked n codes x
  unfolding rechecked
  recheck_test l x e w t =
      let g = list_given e in
      t ∙ ap (λ (j : ℕ). up_to_phase n (held n j l) x) g.1 ∙ up_equal n w.equal x ∙ rw g.0
