-- The choice by kind: the gate of a kind that is known, which kind the last number has, and the gate of a valid code.
-- Assumes nothing.
use mathlib.Core.Path.{◌≡◌, refl, sym, ap, subst}
use mathlib.Core.Bool.{Bool, true, not, ◌||◌}
use mathlib.Core.List.{List}
use Prim.Native.Nat.{ℕ, ◌≤◌, ◌<◌}
use native.Mathlib.Omega.{arith}
use native.Mathlib.Decide.{dec_lt}
use borrow.Author.Tests.{eqb-true, ne_eqb}
use lib.Dec.{eqb}
use lib.IntN.{ℤ}
use Rattle.std.specs.Prelude.{Option, Some, None, IsSome}
use borrow.Author.Rules.{rules}
use Rattle.ints.specs.Lists.{all, range}
use Rattle.ints.proofs.Bools.{clash, all_range}
use Rattle.circuit.specs.Codes.{kind_of, first, second, third, valid}
use Rattle.kinds.specs.declared.GateKind.{GateKind}
use Rattle.kinds.specs.Kinds.{kind_at, is_kind}
use Rattle.kinds.proofs.ByNumber.{kind_past}
use Rattle.kinds.specs.Told.{told_kind, told_found}
use Rattle.exact.specs.Rows.{gate, gate_of}
use Rattle.exact.proofs.Words.{Proper}
use Rattle.exact.proofs.Coded.{proper}
use Rattle.steps.specs.Step.{Stepped}

module _ {n k : ℕ} {l l' : List ℤ} {r : Option ℕ} where
  -- the kind is known by an equation
  pub kind_told : (a b c : ℕ) {x y : GateKind} → x ≡ y → Stepped n k (gate n (told_kind y) a b c) l l' r → Stepped n k (gate n (told_kind x) a b c) l l' r
  kind_told a b c e w = subst (λ (x : GateKind). Stepped n k (gate n (told_kind x) a b c) l l' r) (sym e) w

  -- the same of a kind by its number
  pub kind_at_lem : (a b c : ℕ) {x y : ℕ} → x ≡ y → Stepped n k (gate n (kind_at y) a b c) l l' r → Stepped n k (gate n (kind_at x) a b c) l l' r
  kind_at_lem a b c e w = subst (λ (x : ℕ). Stepped n k (gate n (kind_at x) a b c) l l' r) (sym e) w

pub proper_told : (n a b c : ℕ) {x y : GateKind} → x ≡ y → Proper n (gate n (told_kind x) a b c) → Proper n (gate n (told_kind y) a b c)
proper_told n a b c e w = subst (λ (x : GateKind). Proper n (gate n (told_kind x) a b c)) e w

pub proper_at : (n a b c : ℕ) {x y : ℕ} → x ≡ y → Proper n (gate n (kind_at x) a b c) → Proper n (gate n (kind_at y) a b c)
proper_at n a b c e w = subst (λ (x : ℕ). Proper n (gate n (kind_at x) a b c)) e w

-- a kind from 7 to 11 that is not 8, 9 or 10 is 11
pub last_kind : (k : ℕ) → is_kind (kind_at k) ≡ true → k < 12 → 7 ≤ k → (k ≡ 8 → ⊥) → (k ≡ 9 → ⊥) → (k ≡ 10 → ⊥) → k ≡ 11
unfolding kind_at is_kind
last_kind k h q p a b c = omega (arith, not_seven)
  where
    not_seven : k ≡ 7 → ⊥
    not_seven e = clash h (ap (λ (x : ℕ). is_kind (kind_at x)) e)

-- a kind from 12 on is one of six
abbrev one_of_six : ℕ → Bool
one_of_six k = not (is_kind (kind_at k)) || (eqb k 15 || (eqb k 16 || (eqb k 19 || (eqb k 20 || (eqb k 25 || eqb k 26)))))

pub last_of_six : (k : ℕ) → is_kind (kind_at k) ≡ true → 12 ≤ k → (k ≡ 15 → ⊥) → (k ≡ 16 → ⊥) → (k ≡ 19 → ⊥) → (k ≡ 20 → ⊥) → (k ≡ 25 → ⊥) → k ≡ 26
unfolding kind_at is_kind all range
last_of_six k h p a b c d e = by (dec_lt k 27)
  where
    by : Dec (k < 27) → k ≡ 26
    by (yes q) =
        eqb-true k 26
        (rw (h, ne_eqb k 15 a, ne_eqb k 16 b, ne_eqb k 19 c, ne_eqb k 20 d, ne_eqb k 25 e) at (all_range one_of_six 15 12 refl k p (omega arith)))
    by (no q) = clash h (ap is_kind (kind_past k (omega arith)))

-- a kind that is one was found
pub is_found : (o : Option GateKind) → is_kind (told_found o) ≡ true → IsSome o
unfolding is_kind
is_found (Some k) h = search rules
is_found None h = clash h refl

-- ---- the gate of a valid code

module _ (n g : ℕ) (h : valid n g ≡ true) where
  pub coded : gate_of n g ≡ gate n (kind_of g) (first g) (second g) (third g)
  unfolding gate_of
  coded = rw h

  pub coded_proper : Proper n (gate n (kind_of g) (first g) (second g) (third g))
  coded_proper = subst (Proper n) coded (proper n g)
