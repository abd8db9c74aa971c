-- What the answer to a step and to a list says of their fitting, and conversely. Assumes nothing.
use mathlib.Core.Path.{◌≡◌, refl, sym, ap, ◌∙◌}
use mathlib.Core.Bool.{Bool, true, false}
use mathlib.Core.List.{List}
use Prim.Native.Nat.{ℕ}
use Rattle.ints.specs.Lists.{pick}
use Rattle.ints.proofs.Bools.{clash}
use Rattle.cyclotomic.specs.Told.{does_not_fit}
use Rattle.exact.specs.Matrix.{Exact}
use Rattle.exact.specs.Rows.{Gate, act}
use Rattle.exact.specs.Lists.{product}
use Rattle.exact.specs.Fits.{step_fits, Steps, all_fit, unfit_at, steps}
use Rattle.exact.specs.Answers.{Answer, given, refused, by_steps, list_answer}
use Rattle.exact.proofs.Words.{step_answer}

-- ---- an answer is one case alone

abbrev pub is_given : Answer → Bool
is_given (given k) = true
is_given (refused a i) = false

abbrev pub number : Answer → ℕ
number (given k) = k
number (refused a i) = i

-- ---- a step

picked : (b : Bool) (k a i : ℕ) → is_given (pick b (given k) (refused a i)) ≡ b
picked true k a i = refl
picked false k a i = refl

module _ (n : ℕ) (g : Gate) (x : Exact) where
  given_is : is_given (step_answer n g x) ≡ step_fits n g x
  unfolding step_answer
  given_is = picked (step_fits n g x) (act n g x).k does_not_fit 0

  pub step_given : {j : ℕ} → given j ≡ step_answer n g x → step_fits n g x ≡ true
  step_given e = sym (ap is_given e ∙ given_is)

  pub step_refused : {a i : ℕ} → refused a i ≡ step_answer n g x → step_fits n g x ≡ false
  step_refused e = sym (ap is_given e ∙ given_is)

  pub given_step : {j : ℕ} → step_fits n g x ≡ true → j ≡ (act n g x).k → given j ≡ step_answer n g x
  unfolding step_answer
  given_step h e = rw h (ap given e)

  pub refused_step : step_fits n g x ≡ false → refused does_not_fit 0 ≡ step_answer n g x
  unfolding step_answer
  refused_step h = rw h

-- ---- a list

module _ (n : ℕ) (codes : List ℕ) where
  pub given_list : {k : ℕ} → steps n codes ≡ all_fit → k ≡ (product n codes).k → given k ≡ list_answer n codes
  unfolding list_answer
  given_list h e = rw h (ap given e)

  pub refused_list : {i : ℕ} → steps n codes ≡ unfit_at i → refused does_not_fit i ≡ list_answer n codes
  unfolding list_answer
  refused_list h = rw h

  pub list_refused : {a i : ℕ} → list_answer n codes ≡ refused a i → steps n codes ≡ unfit_at i
  unfolding list_answer
  list_refused = by (steps n codes)
    where
      by : {a i : ℕ} (s : Steps) → by_steps (product n codes).k s ≡ refused a i → s ≡ unfit_at i
      by all_fit e = clash refl (ap is_given e)
      by (unfit_at j) e = ap unfit_at (ap number e)
