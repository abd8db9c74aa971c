-- One list copied over the first places of another. Assumes nothing.
use mathlib.Core.Path.{◌≡◌, refl, sym, ap, ◌∙◌}
use mathlib.Core.List.{List, [], ◌∷◌, ◌++◌, append_assoc}
use Prim.Native.Nat.{ℕ, suc, ◌+◌, ◌≤◌, ◌<◌}
use native.Mathlib.Numerals.{add-one}
use native.Mathlib.Omega.{arith}
use lib.ListN.{length, get_or, take, drop, set, length-set}
use lib.Seq.{take-suc, take_all, drop-cons, set_at, length-take-le}

-- i places are copied; the later ones hold what they held
pub record CodesCopied (from old new : List ℕ) (i : ℕ) : Type 0 where
  pub within : i ≤ length from
  pub room : length from ≤ length old
  pub long : length new ≡ length old
  pub is : new ≡ take i from ++ drop i old

pub copied_none : (from old : List ℕ) → length from ≤ length old → CodesCopied from old old 0
copied_none from old h = record { within = omega arith; room = h; long = refl; is = refl }

module _ {from old new : List ℕ} {i : ℕ} (w : CodesCopied from old new i) where
  pub copied_more : i < length from → CodesCopied from old (set new i (get_or from i 0)) (i + 1)
  copied_more h =
      let x : ℕ = get_or from i 0 in
      let later : List ℕ = drop (suc i) old in
      record {
        within = omega arith;
        room = w.room;
        long = length-set new i x ∙ w.long;
        is = ap (λ (l : List ℕ). set l i x) (w.is ∙ ap (λ (l : List ℕ). take i from ++ l) (drop-cons old i 0 (omega (arith, w.room))))
            ∙ set_at (take i from) (get_or old i 0) later x i (length-take-le i from w.within)
            ∙ sym (append_assoc (take i from) (x ∷ []) later)
            ∙ ap (λ (l : List ℕ). l ++ later) (sym (take-suc from i 0 h))
            ∙ ap (λ (j : ℕ). take j from ++ drop j old) (sym (add-one i));
      }

  pub copied_end : length from ≤ i → new ≡ from ++ drop (length from) old
  copied_end h =
      let e : i ≡ length from = omega (arith, w.within) in
      w.is ∙ ap (λ (j : ℕ). take j from ++ drop j old) e ∙ ap (λ (l : List ℕ). l ++ drop (length from) old) (take_all (length from) from (omega arith))
