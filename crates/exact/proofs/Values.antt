-- Values and lowest denominators: `SameValue` and `Equal` are equivalences, `lower` keeps the value and gives a matrix
-- in lowest denominator, of which each value has one, and turns of all entries commute with all of it. Assumes nothing.
use mathlib.Core.Path.{◌≡◌, refl, sym, ap, ◌∙◌}
use mathlib.Core.Bool.{Bool, true, false}
use Prim.Native.Nat.{ℕ, zero, suc, ◌+◌, ◌-◌, ◌^◌, ◌≤◌, ◌<◌}
use native.Mathlib.Omega.{arith}
use native.Mathlib.Nat.{zero-add, suc-add}
use native.Mathlib.Decide.{dec_lt}
use Rattle.ints.specs.Lists.{pick, range, all}
use Rattle.ints.proofs.Bools.{clash, all_range, range_all}
use Rattle.cyclotomic.specs.Zomega.{Zω, turn, sqrt2, divisible, over_sqrt2}
use Rattle.cyclotomic.proofs.Division.{sqrt2_over, sqrt2_divisible, sqrt2_cancel, turn_sqrt2, divisible_turn}
use Rattle.exact.specs.Matrix.{Exact, sqrt2s, SameValue, all_entries, all_divisible, Lowest, lowered, lower, turned}
use Rattle.exact.proofs.Words.{Equal}

-- ---- powers of √2

pub sqrt2s_sqrt2 : (k : ℕ) (x : Zω) → sqrt2s k (sqrt2 x) ≡ sqrt2 (sqrt2s k x)
sqrt2s_sqrt2 zero x = refl
sqrt2s_sqrt2 (suc k) x = ap sqrt2 (sqrt2s_sqrt2 k x)

pub sqrt2s_comm : (j k : ℕ) (x : Zω) → sqrt2s j (sqrt2s k x) ≡ sqrt2s k (sqrt2s j x)
sqrt2s_comm zero k x = refl
sqrt2s_comm (suc j) k x = ap sqrt2 (sqrt2s_comm j k x) ∙ sym (sqrt2s_sqrt2 k (sqrt2s j x))

pub sqrt2s_cancel : (k : ℕ) (x y : Zω) → sqrt2s k x ≡ sqrt2s k y → x ≡ y
sqrt2s_cancel zero x y e = e
sqrt2s_cancel (suc k) x y e = sqrt2s_cancel k x y (sqrt2_cancel (sqrt2s k x) (sqrt2s k y) e)

pub sqrt2s_add : (j k : ℕ) (x : Zω) → sqrt2s (j + k) x ≡ sqrt2s j (sqrt2s k x)
sqrt2s_add zero k x = rw (zero-add k)
sqrt2s_add (suc j) k x = rw (suc-add j k) (ap sqrt2 (sqrt2s_add j k x))

pub turn_sqrt2s : (p k : ℕ) (x : Zω) → turn p (sqrt2s k x) ≡ sqrt2s k (turn p x)
turn_sqrt2s p zero x = refl
turn_sqrt2s p (suc k) x = turn_sqrt2 p (sqrt2s k x) ∙ ap sqrt2 (turn_sqrt2s p k x)

-- ---- a choice by a test

pub pick_ind : {A : Type 0} (P : A → Type 0) (b : Bool) {x y : A} → (b ≡ true → P x) → (b ≡ false → P y) → P (pick b x y)
pick_ind P true f g = f refl
pick_ind P false f g = g refl

module _ (n : ℕ) where
  -- ---- a test of every entry, both ways
  pub entries_to : (f : ℕ → ℕ → Bool) → all_entries n f ≡ true → (r c : ℕ) → r < 2 ^ n → c < 2 ^ n → f r c ≡ true
  entries_to f h r c p q =
      let row = all_range (λ r. all (f r) (range 0 (2 ^ n))) (2 ^ n) 0 h r (omega arith) (omega arith) in
      all_range (f r) (2 ^ n) 0 row c (omega arith) (omega arith)

  pub entries_from : (f : ℕ → ℕ → Bool) → ((r c : ℕ) → r < 2 ^ n → c < 2 ^ n → f r c ≡ true) → all_entries n f ≡ true
  entries_from f h =
      range_all (λ r. all (f r) (range 0 (2 ^ n))) (2 ^ n) 0
      (λ r i p. range_all (f r) (2 ^ n) 0 (λ c j q. h r c (omega arith) (omega arith)))

  pub divisible_to : (e : ℕ → ℕ → Zω) → all_divisible n e ≡ true → (r c : ℕ) → r < 2 ^ n → c < 2 ^ n → divisible (e r c) ≡ true
  unfolding all_divisible
  divisible_to e = entries_to (λ r c. divisible (e r c))

  pub divisible_from : (e : ℕ → ℕ → Zω) → ((r c : ℕ) → r < 2 ^ n → c < 2 ^ n → divisible (e r c) ≡ true) → all_divisible n e ≡ true
  unfolding all_divisible
  divisible_from e = entries_from (λ r c. divisible (e r c))

  -- ---- `SameValue` and `Equal` are equivalences
  pub same_refl : (x : Exact) → SameValue n x x
  same_refl x = record { at = λ r c p q. refl }

  pub same_sym : {x y : Exact} → SameValue n x y → SameValue n y x
  same_sym s = record { at = λ r c p q. sym (s.at r c p q) }

  pub same_trans : {x y z : Exact} → SameValue n x y → SameValue n y z → SameValue n x z
  same_trans {x} {y} {z} s t = record {
    at = λ r c p q. sqrt2s_cancel y.k (sqrt2s z.k (x.e r c)) (sqrt2s x.k (z.e r c))
        (sqrt2s_comm y.k z.k (x.e r c) ∙ ap (sqrt2s z.k) (s.at r c p q) ∙ sqrt2s_comm z.k x.k (y.e r c)
        ∙ ap (sqrt2s x.k) (t.at r c p q) ∙ sqrt2s_comm x.k y.k (z.e r c));
  }

  pub equal_refl : (x : Exact) → Equal n x x
  equal_refl x = record { exponent = refl; entries = λ r c p q. refl }

  pub equal_sym : {x y : Exact} → Equal n x y → Equal n y x
  equal_sym s = record { exponent = sym s.exponent; entries = λ r c p q. sym (s.entries r c p q) }

  pub equal_trans : {x y z : Exact} → Equal n x y → Equal n y z → Equal n x z
  equal_trans s t = record { exponent = s.exponent ∙ t.exponent; entries = λ r c p q. s.entries r c p q ∙ t.entries r c p q }

  pub equal_same : {x y : Exact} → Equal n x y → SameValue n x y
  equal_same w = record { at = λ r c p q. (λ i. sqrt2s (sym w.exponent i) (w.entries r c p q i)) }

  -- ---- lowering
  abbrev over : ℕ → (ℕ → ℕ → Zω) → Exact
  over k e = record { k = k; e = e }

  lowered_same : (k : ℕ) (e : ℕ → ℕ → Zω) → SameValue n (over k e) (lowered n k e)
  lowered_same zero e = same_refl (over 0 e)
  lowered_same (suc k) e =
      pick_ind (λ z. SameValue n (over (suc k) e) z) (all_divisible n e)
      (λ h. same_trans (record { at = step h }) (lowered_same k (λ r c. over_sqrt2 (e r c))))
      (λ h. same_refl (over (suc k) e))
    where
      step : all_divisible n e ≡ true → (r c : ℕ) → r < 2 ^ n → c < 2 ^ n → sqrt2s k (e r c) ≡ sqrt2s (suc k) (over_sqrt2 (e r c))
      step h r c p q = ap (sqrt2s k) (sym (sqrt2_over (e r c) (divisible_to e h r c p q))) ∙ sqrt2s_sqrt2 k (over_sqrt2 (e r c))

  pub lower_same : (x : Exact) → SameValue n x (lower n x)
  unfolding lower
  lower_same x = lowered_same x.k x.e

  lowered_lowest : (k : ℕ) (e : ℕ → ℕ → Zω) → Lowest n (lowered n k e)
  lowered_lowest zero e = record { lowest = λ h. absurd (omega arith) }
  lowered_lowest (suc k) e =
      pick_ind (Lowest n) (all_divisible n e) (λ h. lowered_lowest k (λ r c. over_sqrt2 (e r c))) (λ h. record { lowest = λ q. h })

  pub lower_lowest : (x : Exact) → Lowest n (lower n x)
  unfolding lower
  lower_lowest x = lowered_lowest x.k x.e

  lowered_k : (k : ℕ) (e : ℕ → ℕ → Zω) → (lowered n k e).k ≤ k
  lowered_k zero e = omega arith
  lowered_k (suc k) e =
      pick_ind (λ (z : Exact). z.k ≤ suc k) (all_divisible n e)
      (λ h. let q = lowered_k k (λ r c. over_sqrt2 (e r c)) in omega arith) (λ h. omega arith)

  pub lower_k : (x : Exact) → (lower n x).k ≤ x.k
  unfolding lower
  lower_k x = lowered_k x.k x.e

  -- ---- the lowest form is unique
  not_less : {x y : Exact} → Lowest n y → SameValue n x y → x.k < y.k → ⊥
  not_less {x} {y} l s h = clash (divisible_from y.e divs) (l.lowest (omega arith))
    where
      d : ℕ
      d = y.k - suc x.k

      gap : suc d + x.k ≡ y.k
      gap = omega arith

      divs : (r c : ℕ) → r < 2 ^ n → c < 2 ^ n → divisible (y.e r c) ≡ true
      divs r c p q =
          ap divisible (sym (sqrt2s_cancel x.k (sqrt2s (suc d) (x.e r c)) (y.e r c)
          (sqrt2s_comm x.k (suc d) (x.e r c) ∙ sym (sqrt2s_add (suc d) x.k (x.e r c))
          ∙ ap (λ (m : ℕ). sqrt2s m (x.e r c)) gap ∙ s.at r c p q)))
          ∙ sqrt2_divisible (sqrt2s d (x.e r c))

  pub unique : {x y : Exact} → Lowest n x → Lowest n y → SameValue n x y → Equal n x y
  unique {x} {y} l m s = record {
    exponent = same;
    entries = λ r c p q. sqrt2s_cancel x.k (x.e r c) (y.e r c) (ap (λ (j : ℕ). sqrt2s j (x.e r c)) same ∙ s.at r c p q);
  }
    where
      by : Dec (x.k < y.k) → Dec (y.k < x.k) → x.k ≡ y.k
      by (yes h) g = absurd (not_less m s h)
      by (no h) (yes g) = absurd (not_less l (same_sym s) g)
      by (no h) (no g) = omega arith

      same : x.k ≡ y.k
      same = by (dec_lt x.k y.k) (dec_lt y.k x.k)

  -- one value: equal after lowering
  pub lower_unique : {x y : Exact} → SameValue n x y → Equal n (lower n x) (lower n y)
  lower_unique {x} {y} s =
      unique (lower_lowest x) (lower_lowest y) (same_trans (same_sym (lower_same x)) (same_trans s (lower_same y)))

  -- what is lowest stays
  pub lower_stays : {x : Exact} → Lowest n x → Equal n (lower n x) x
  lower_stays {x} l = unique (lower_lowest x) l (same_sym (lower_same x))

  -- ---- turns of all entries
  turned_divisible : (p : ℕ) (x : Exact) → all_divisible n (turned p x).e ≡ all_divisible n x.e
  unfolding all_divisible
  turned_divisible p x = simp divisible_turn

  pub turned_lowest : (p : ℕ) {x : Exact} → Lowest n x → Lowest n (turned p x)
  turned_lowest p {x} l = record { lowest = λ h. turned_divisible p x ∙ l.lowest h }

  pub turned_same : (p : ℕ) {x y : Exact} → SameValue n x y → SameValue n (turned p x) (turned p y)
  turned_same p {x} {y} s = record {
    at = λ r c i j. sym (turn_sqrt2s p y.k (x.e r c)) ∙ ap (turn p) (s.at r c i j) ∙ turn_sqrt2s p x.k (y.e r c);
  }

  -- a turn of all entries commutes with lowering
  pub turned_lower : (p : ℕ) (x : Exact) → Equal n (lower n (turned p x)) (turned p (lower n x))
  turned_lower p x =
      unique (lower_lowest (turned p x)) (turned_lowest p (lower_lowest x))
      (same_trans (same_sym (lower_same (turned p x))) (turned_same p (lower_same x)))
