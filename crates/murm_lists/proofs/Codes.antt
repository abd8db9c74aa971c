-- The codes of a list, passed one by one: the first i are valid; and the first code that is not valid, as `position`
-- finds it. Assumes nothing.
use mathlib.Core.Path.{◌≡◌, refl, sym, ap, subst, ◌∙◌}
use mathlib.Core.Bool.{Bool, true, false, not, cond}
use mathlib.Core.List.{List, [], ◌∷◌}
use Prim.Native.Nat.{ℕ, suc, ◌+◌, ◌≤◌, ◌<◌}
use native.Mathlib.Omega.{arith}
use borrow.Author.Tests.{ltb-true, ltb-false}
use lib.Dec.{ltb}
use native.Mathlib.Numerals.{add-one}
use lib.ListN.{length, get_or, drop, drop_of_length-le}
use lib.Seq.{drop-cons}
use Rattle.std.specs.Prelude.{Option, Some, None, MatchOption, position}
use Rattle.std.specs.List.{position_or_len}
use Rattle.ints.specs.Lists.{pick}
use Rattle.circuit.specs.Codes.{valid}
use Rattle.tables.specs.Lists.{first_invalid}

pub record ValidTo (n : ℕ) (codes : List ℕ) (i : ℕ) : Type 0 where
  pub within : i ≤ length codes
  pub first : first_invalid n codes ≡ i + first_invalid n (drop i codes)

pub valid_none : (n : ℕ) (codes : List ℕ) → ValidTo n codes 0
valid_none n codes = record { within = omega arith; first = omega arith }

module _ {n : ℕ} {codes : List ℕ} {i : ℕ} (w : ValidTo n codes i) where
  module _ (h : i < length codes) where
    here : first_invalid n codes ≡ i + pick (valid n (get_or codes i 0)) (suc (first_invalid n (drop (suc i) codes))) 0
    here = w.first ∙ ap (λ (l : List ℕ). i + first_invalid n l) (drop-cons codes i 0 h)

    pub valid_more : valid n (get_or codes i 0) ≡ true → ValidTo n codes (i + 1)
    valid_more e = record {
      within = omega arith;
      first = here ∙ ap (λ (b : Bool). i + pick b (suc (first_invalid n (drop (suc i) codes))) 0) e ∙ rw (add-one i) (omega arith);
    }

    pub invalid_at : valid n (get_or codes i 0) ≡ false → i ≡ first_invalid n codes
    invalid_at e = sym (here ∙ ap (λ (b : Bool). i + pick b (suc (first_invalid n (drop (suc i) codes))) 0) e ∙ omega arith)

  pub valid_end : length codes ≤ i → i ≡ first_invalid n codes
  valid_end h = sym (w.first ∙ ap (λ (l : List ℕ). i + first_invalid n l) (drop_of_length-le codes {i = i} h) ∙ omega arith)

one_code : (t : Bool) (a b : ℕ) → a ≡ b → cond (not (not t)) (1 + a) 0 ≡ pick t (suc b) 0
one_code true a b e = omega (arith, e)
one_code false a b e = refl

first_is : (n : ℕ) (codes : List ℕ) → position_or_len (λ g. not (valid n g)) codes ≡ first_invalid n codes
first_is n [] = refl
first_is n (g ∷ codes) = one_code (valid n g) _ _ (first_is n codes)

pub first_found : (n : ℕ) (codes : List ℕ) {r : Option ℕ} → r ≡ position (λ g. not (valid n g)) codes
    → MatchOption r (length codes ≤ first_invalid n codes) (λ i. (i ≡ first_invalid n codes) × (i < length codes))
first_found n codes {r} e = subst (λ (o : Option ℕ). MatchOption o (length codes ≤ first_invalid n codes) (λ i. (i ≡ first_invalid n codes) × (i < length codes)))
    (sym e) (by (ltb m (length codes)) refl)
  where
    m : ℕ
    m = position_or_len (λ g. not (valid n g)) codes

    by : (t : Bool) → ltb m (length codes) ≡ t → MatchOption (cond t (Some m) None) (length codes ≤ first_invalid n codes) (λ i. (i ≡ first_invalid n codes) × (i < length codes))
    by true q = (first_is n codes, ltb-true m (length codes) q)
    by false q = omega (arith, ltb-false m (length codes) q, first_is n codes)
