-- Lowering in place: what the places hold after some divisions has the first matrix's lowest form, and is that form at
-- the end. Assumes nothing.
use mathlib.Core.Path.{◌≡◌, sym, ap, ◌∙◌}
use mathlib.Core.Bool.{true, false}
use mathlib.Core.List.{List}
use Prim.Native.Nat.{ℕ, suc, ◌-◌, ◌<◌}
use native.Mathlib.Omega.{arith}
use lib.IntN.{ℤ}
use lib.ListN.{length}
use Rattle.cyclotomic.specs.Zomega.{Zω, divisible, over_sqrt2}
use Rattle.cyclotomic.proofs.Division.{sqrt2_over}
use Rattle.cyclotomic.proofs.Squares.{small_over}
use Rattle.exact.specs.Matrix.{sqrt2s, all_divisible, lower}
use Rattle.exact.proofs.Words.{Equal, AllSmall}
use Rattle.exact.proofs.Values.{sqrt2s_sqrt2, divisible_to, equal_refl, equal_sym, equal_trans, lower_unique, lower_stays}
use Rattle.exact.specs.Places.{read, held}
use Rattle.places.specs.Places.{places, Same, Kept}
use Rattle.places.proofs.Placed.{kept_refl, kept_trans}
use Rattle.lowering.specs.Lowered.{divided_all}
use Rattle.places.specs.Held.{Holds}

-- the value of a quotient: over one √2 less
over_is : (j : ℕ) (x : Zω) → divisible x ≡ true → sqrt2s j x ≡ sqrt2s (suc j) (over_sqrt2 x)
over_is j x h = ap (sqrt2s j) (sym (sqrt2_over x h)) ∙ sqrt2s_sqrt2 j (over_sqrt2 x)

module _ (n : ℕ) (l l' : List ℤ) (s : Same n (read n l') (divided_all (read n l))) where
  -- a division of all entries keeps the lowest form
  pub divided_lower : (j : ℕ) → all_divisible n (read n l) ≡ true → Equal n (lower n (held n (suc j) l)) (lower n (held n j l'))
  divided_lower j h =
      lower_unique n
      (record { at = λ r c p q. over_is j (read n l r c) (divisible_to n (read n l) h r c p q) ∙ ap (sqrt2s (suc j)) (sym (s.at r c p q)) })

  divided_small : AllSmall n (read n l) → AllSmall n (read n l')
  divided_small a = record { small = λ r c p q. rw (s.at r c p q) (small_over (read n l r c) (a.small r c p q)) }

-- the places l hold, over √2 to the j, a matrix with the lowest form of the first places over √2 to the k
pub record Lowering (n k : ℕ) (l₀ : List ℤ) (j : ℕ) (l : List ℤ) : Type 0 where
  pub long : length l ≡ places
  pub small : AllSmall n (read n l)
  pub form : Equal n (lower n (held n j l)) (lower n (held n k l₀))
  pub kept : Kept n l₀ l

module _ (n k : ℕ) (l₀ : List ℤ) where
  pub lowering_first : length l₀ ≡ places → AllSmall n (read n l₀) → Lowering n k l₀ k l₀
  lowering_first h s = record { long = h; small = s; form = equal_refl n (lower n (held n k l₀)); kept = kept_refl n l₀ }

  pub lowering_more : {j : ℕ} {l : List ℤ} (l' : List ℤ) → Lowering n k l₀ j l → 0 < j → all_divisible n (read n l) ≡ true → length l' ≡ places
      → Same n (read n l') (divided_all (read n l)) → Kept n l l' → Lowering n k l₀ (j - 1) l'
  lowering_more {j} {l} l' w p h long s t =
      let one : suc (j - 1) ≡ j = omega arith in
      record {
        long = long;
        small = divided_small n l l' s w.small;
        form = equal_trans n (equal_sym n (rw one at (divided_lower n l l' s (j - 1) h))) w.form;
        kept = kept_trans n w.kept t;
      }

  pub lowering_end : {j : ℕ} {l : List ℤ} → Lowering n k l₀ j l → (0 < j → all_divisible n (read n l) ≡ false)
      → Holds n j l (lower n (held n k l₀)) × Kept n l₀ l
  lowering_end w h = (
    record { long = w.long; equal = equal_trans n (equal_sym n (lower_stays n (record { lowest = h }))) w.form; small = w.small },
    w.kept,
  )
