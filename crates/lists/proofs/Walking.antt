-- A list in place, gate by gate: the places hold the product of the gates so far, and what is left of the list, from
-- there on, says whether the whole list fits. Assumes nothing.
use mathlib.Core.Path.{◌≡◌, refl, ap, ◌∙◌, subst}
use mathlib.Core.List.{List, [], ◌∷◌}
use Prim.Native.Nat.{ℕ, zero, suc, ◌+◌, ◌≤◌, ◌<◌}
use native.Mathlib.Omega.{arith}
use lib.IntN.{ℤ}
use lib.ListN.{length, get_or, take, drop, drop_of_length-le}
use lib.Seq.{drop-cons, take-suc, take_all}
use Rattle.std.specs.Prelude.{Some, None, Result, Ok, Err}
use Rattle.ints.specs.Lists.{pick}
use Rattle.exact.specs.Matrix.{Exact, identity}
use Rattle.exact.proofs.Words.{Equal}
use Rattle.exact.specs.Rows.{act, gate_of}
use Rattle.exact.specs.Lists.{product}
use Rattle.exact.specs.Fits.{Steps, all_fit, unfit_at, next, steps_from, steps}
use Rattle.exact.proofs.Values.{equal_sym, equal_trans}
use Rattle.exact.proofs.Listed.{product_snoc}
use Rattle.exact.proofs.Coded.{proper}
use Rattle.exact.proofs.Answered.{step_given, step_refused, given_list, refused_list}
use Rattle.exact.proofs.Keeps.{step_equal, act_equal', made_equal}
use Rattle.exact.specs.Places.{held}
use Rattle.places.specs.Held.{Holds, Ready}
use Rattle.steps.specs.Step.{Stepped}
use Rattle.steps.proofs.Steps.{ready_next}
use Rattle.lists.specs.Walk.{HoldsProduct, Ended}

-- the answer is known by an equation
pub ended_at : {n : ℕ} {codes : List ℕ} {l : List ℤ} {r s : Result ℕ ℕ} → r ≡ s → Ended n codes l r → Ended n codes l s
ended_at {n} {codes} {l} e w = subst (λ (x : Result ℕ ℕ). Ended n codes l x) e w

-- i steps later
abbrev later : ℕ → Steps → Steps
later zero s = s
later (suc i) s = later i (next s)

later_fit : (i : ℕ) → later i all_fit ≡ all_fit
later_fit zero = refl
later_fit (suc i) = later_fit i

later_unfit : (i j : ℕ) → later i (unfit_at j) ≡ unfit_at (i + j)
later_unfit zero j = ap unfit_at (omega arith)
later_unfit (suc i) j = later_unfit i (suc j) ∙ ap unfit_at (omega arith)

module _ (n : ℕ) where
  steps_equal : {x y : Exact} (l : List ℕ) → Equal n x y → steps_from n x l ≡ steps_from n y l
  steps_equal [] s = refl
  steps_equal {x = x} {y = y} (g ∷ l) s =
      λ i. pick (step_equal n (gate_of n g) s (proper n g) i) (next (steps_equal {x = act n (gate_of n g) x} {y = act n (gate_of n g) y} l (act_equal' n (gate_of n g) s (proper n g)) i)) (unfit_at 0)

-- the first i gates of a list were applied, and the places hold their product over √2 to the k
pub record Walking (n : ℕ) (codes : List ℕ) (i k : ℕ) (l : List ℤ) : Type 0 where
  pub within : i ≤ length codes
  pub ready : Ready n k l
  pub ahead : steps n codes ≡ later i (steps_from n (held n k l) (drop i codes))
  pub so_far : Equal n (held n k l) (product n (take i codes))

-- the same without a bound on i
pub record WalkingAfter (n : ℕ) (codes : List ℕ) (i k : ℕ) (l : List ℤ) : Type 0 where
  pub ready : Ready n k l
  pub ahead : steps n codes ≡ later i (steps_from n (held n k l) (drop i codes))
  pub so_far : Equal n (held n k l) (product n (take i codes))

module _ (n : ℕ) (codes : List ℕ) where
  pub after_holds : {i k : ℕ} {l : List ℤ} → WalkingAfter n codes i k l → HoldsProduct n (take i codes) l
  after_holds w = record { long = w.ready.long; equal = record { exponent = refl; entries = w.so_far.entries }; small = w.ready.small }

  pub after_first : (l : List ℤ) → Holds n 0 l identity → WalkingAfter n codes 0 0 l
  unfolding steps product
  after_first l w = record {
    ready = record { long = w.long; small = w.small; lowest = record { lowest = λ h. absurd (omega arith) } };
    ahead = steps_equal n codes (equal_sym n w.equal);
    so_far = w.equal;
  }

  module _ {i k : ℕ} {l : List ℤ} (w : WalkingAfter n codes i k l) (h : i < length codes) where
    abbrev code : ℕ
    code = get_or codes i 0

    ahead_here : steps n codes ≡ later i (steps_from n (held n k l) (code ∷ drop (suc i) codes))
    ahead_here = w.ahead ∙ ap (λ (z : List ℕ). later i (steps_from n (held n k l) z)) (drop-cons codes i 0 h)

    pub after_more : {j : ℕ} (l' : List ℤ) → Stepped n k (gate_of n code) l l' (Some j) → WalkingAfter n codes (i + 1) j l'
    after_more {j} l' s =
        let fit = step_given n (gate_of n code) (held n k l) s.answer in
        let held' = s.left in
        let one : suc i ≡ i + 1 = omega arith in
        subst (λ (z : ℕ). WalkingAfter n codes z j l') one
        (record {
          ready = ready_next s;
          ahead = ahead_here ∙ ap (λ b. later i (pick b (next (steps_from n (act n (gate_of n code) (held n k l)) (drop (suc i) codes))) (unfit_at 0))) fit
              ∙ ap (λ (z : Steps). later i (next z)) (steps_equal n (drop (suc i) codes) (equal_sym n held'.equal));
          so_far = rw (take-suc codes i 0 h, product_snoc n) (equal_trans n held'.equal (act_equal' n (gate_of n code) w.so_far (proper n code)));
        })

    pub after_unfit : (l' : List ℤ) → Stepped n k (gate_of n code) l l' None → Ended n codes l' (Err i)
    after_unfit l' s = record {
      answer =
          refused_list n codes
          (ahead_here
          ∙ ap (λ b. later i (pick b (next (steps_from n (act n (gate_of n code) (held n k l)) (drop (suc i) codes))) (unfit_at 0))) (step_refused n (gate_of n code) (held n k l) s.answer)
          ∙ later_unfit i 0 ∙ ap unfit_at (omega arith));
      end = record {
        long = s.left.long;
        equal = record { exponent = refl; entries = λ r c i j. s.left.equal.entries r c i j ∙ (made_equal n (gate_of n code) w.so_far (proper n code)).entries r c i j };
        small = s.left.small;
      };
    }

  pub after_end : {i k : ℕ} {l : List ℤ} → WalkingAfter n codes i k l → length codes ≤ i → Ended n codes l (Ok k)
  after_end {i} {k} {l} w h =
      let all = take_all i codes h in
      record {
        answer =
            given_list n codes (w.ahead ∙ ap (λ (z : List ℕ). later i (steps_from n (held n k l) z)) (drop_of_length-le codes {i = i} h) ∙ later_fit i)
            (w.so_far.exponent ∙ ap (λ (z : List ℕ). (product n z).k) all);
        end = rw all at (after_holds w);
      }

  -- with the bound
  pub walking_after : {i k : ℕ} {l : List ℤ} → Walking n codes i k l → WalkingAfter n codes i k l
  walking_after w = record { ready = w.ready; ahead = w.ahead; so_far = w.so_far }

  pub walking_within : {i k : ℕ} {l : List ℤ} → WalkingAfter n codes i k l → i ≤ length codes → Walking n codes i k l
  walking_within w h = record { within = h; ready = w.ready; ahead = w.ahead; so_far = w.so_far }

  pub walked_holds : {i k : ℕ} {l : List ℤ} → Walking n codes i k l → HoldsProduct n (take i codes) l
  walked_holds w = after_holds (walking_after w)

  pub walking_first : (l : List ℤ) → Holds n 0 l identity → Walking n codes 0 0 l
  walking_first l w = walking_within (after_first l w) (omega arith)

  module _ {i k : ℕ} {l : List ℤ} (w : Walking n codes i k l) (h : i < length codes) where
    pub walking_more : {j : ℕ} (l' : List ℤ) → Stepped n k (gate_of n (get_or codes i 0)) l l' (Some j) → Walking n codes (i + 1) j l'
    walking_more l' s = walking_within (after_more (walking_after w) h l' s) (omega arith)

    pub walking_unfit : (l' : List ℤ) → Stepped n k (gate_of n (get_or codes i 0)) l l' None → Ended n codes l' (Err i)
    walking_unfit l' s = after_unfit (walking_after w) h l' s

  pub walking_end : {i k : ℕ} {l : List ℤ} → Walking n codes i k l → length codes ≤ i → Ended n codes l (Ok k)
  walking_end w h = after_end (walking_after w) h
