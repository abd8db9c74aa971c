-- The three tests of operands are `placed` at their counts, comparison by comparison. Assumes nothing.
use mathlib.Core.Path.{◌≡◌, refl, sym, ap, ◌∙◌}
use mathlib.Core.Bool.{Bool, true, false, not, ◌&&◌, ◌||◌}
use Prim.Native.Nat.{ℕ}
use lib.Dec.{eqb, ltb}
use Rattle.ints.specs.Lists.{all, elem, distinct}
use Rattle.ints.proofs.Bools.{and-true, or-false}
use Rattle.operands.specs.Operands.{placed}

-- none of two is the last number, which nothing comes after
neither : (p q : Bool) → not p && not q ≡ not (p || (q || false))
neither true q = refl
neither false q = sym (ap not (or-false q))

alone : (p : Bool) → not p ≡ (not (p || false) && true)
alone p = sym (and-true (not (p || false)) ∙ ap not (or-false p))

module _ (n a b c : ℕ) where
  pub one : ltb a n && (eqb b 0 && eqb c 0) ≡ placed n 1 a b c
  unfolding placed all elem distinct
  one = λ i. sym (and-true (ltb a n)) i && (eqb b 0 && sym (and-true (eqb c 0)) i)

  pub two : (ltb a n && ltb b n) && (not (eqb a b) && eqb c 0) ≡ placed n 2 a b c
  unfolding placed all elem distinct
  two = λ i. (ltb a n && sym (and-true (ltb b n)) i) && (alone (eqb a b) i && sym (and-true (eqb c 0)) i)

  pub three : (ltb a n && (ltb b n && ltb c n)) && ((not (eqb a b) && not (eqb a c)) && not (eqb b c)) ≡ placed n 3 a b c
  unfolding placed all elem distinct
  three = λ i. (ltb a n && (ltb b n && sym (and-true (ltb c n)) i)) && apart i
    where
      apart : (not (eqb a b) && not (eqb a c)) && not (eqb b c) ≡ (not (eqb a b || (eqb a c || false)) && (not (eqb b c || false) && true)) && true
      apart = (λ i. neither (eqb a b) (eqb a c) i && alone (eqb b c) i) ∙ sym (and-true _)
