-- `agree` says what its comment says: the two rows have the same bits, bit t left aside. Assumes nothing.
use mathlib.Core.Path.{◌≡◌, refl, sym, ap, ◌∙◌}
use mathlib.Core.Bool.{Bool, true, false, not, ◌||◌, Bool-discrete}
use mathlib.Core.Logic.{◌↔◌}
use Prim.Native.Nat.{ℕ}
use native.Mathlib.Decide.{ℕ_discrete}
use borrow.Author.Tests.{eqb-true, eq-eqb}
use lib.Dec.{eqb}
use Rattle.ints.specs.Bits.{bit}
use Rattle.ints.proofs.Bools.{or_right}
use Rattle.ints.proofs.Bits.{ext_bit}
use Rattle.exact.specs.Rows.{flip}
use Rattle.exact.specs.Paper.{agree}
use Rattle.exact.proofs.Flips.{bit_own, bit_other}

two_ways : (a b : Bool) → (a ≡ b → ⊥) → a ≡ not b
two_ways true true h = absurd (h refl)
two_ways true false h = refl
two_ways false true h = refl
two_ways false false h = absurd (h refl)

pub agree_bits : (t r s : ℕ) → (agree t r s ≡ true) ↔ ((j : ℕ) → (j ≡ t → ⊥) → bit s j ≡ bit r j)
agree_bits t r s = (λ h. to (eqb s r) refl h, λ h. from h (Bool-discrete (bit s t) (bit r t)))
  where
    to : (b : Bool) → eqb s r ≡ b → b || eqb s (flip t r) ≡ true → (j : ℕ) → (j ≡ t → ⊥) → bit s j ≡ bit r j
    to true e h j d = ap (λ (z : ℕ). bit z j) (eqb-true s r e)
    to false e h j d = ap (λ (z : ℕ). bit z j) (eqb-true s (flip t r) h) ∙ bit_other j t r d

    from : ((j : ℕ) → (j ≡ t → ⊥) → bit s j ≡ bit r j) → Dec (bit s t ≡ bit r t) → agree t r s ≡ true
    from h (yes e) = ap (λ (b : Bool). b || eqb s (flip t r)) (eq-eqb s r (ext_bit s r (λ j. at j (ℕ_discrete j t))))
      where
        at : (j : ℕ) → Dec (j ≡ t) → bit s j ≡ bit r j
        at j (yes q) = ap (bit s) q ∙ e ∙ ap (bit r) (sym q)
        at j (no q) = h j q
    from h (no e) = or_right (eqb s r) (eqb s (flip t r)) (eq-eqb s (flip t r) (ext_bit s (flip t r) (λ j. at j (ℕ_discrete j t))))
      where
        at : (j : ℕ) → Dec (j ≡ t) → bit s j ≡ bit (flip t r) j
        at j (yes q) = ap (bit s) q ∙ two_ways (bit s t) (bit r t) e ∙ sym (bit_own t r) ∙ ap (bit (flip t r)) (sym q)
        at j (no q) = h j q ∙ sym (bit_other j t r q)
