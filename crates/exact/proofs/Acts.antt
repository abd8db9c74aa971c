-- Steps, a row operation and then lowering: what holds of values holds of them exactly, since the lowest form is
-- unique. `PowerOf` is an equivalence that steps and lowering keep. Assumes nothing.
use mathlib.Core.Path.{ap, sym}
use Prim.Native.Nat.{ℕ, ◌+◌, ◌*◌, ◌%◌}
use native.Mathlib.Omega.{arith}
use native.Mathlib.Nat.{mod-lt}
use Rattle.cyclotomic.proofs.Turns.{turn_none, turn_turn, turn_mod, turn_back}
use Rattle.exact.specs.Matrix.{Exact, sqrt2s, SameValue, Lowest, lower, turned, PowerOf}
use Rattle.exact.proofs.Words.{Equal, Proper, touches, Apart, Undoes}
use Rattle.exact.specs.Rows.{Gate, raw, act}
use Rattle.exact.proofs.Values.{same_refl, same_sym, same_trans, equal_sym, equal_trans, equal_same, lower_same, lower_lowest, lower_unique, unique, turned_same, turned_lowest, turned_lower}
use Rattle.exact.proofs.Linear.{raw_same, raw_swap, raw_back, raw_turned}

module _ (n : ℕ) where
  pub act_lowest : (g : Gate) (x : Exact) → Lowest n (act n g x)
  act_lowest g x = lower_lowest n (raw g x)

  pub act_value : (g : Gate) (x : Exact) → SameValue n (raw g x) (act n g x)
  act_value g x = lower_same n (raw g x)

  -- lowering before a gate does not matter
  raw_act : (g h : Gate) (x : Exact) → Proper n g → SameValue n (raw g (raw h x)) (raw g (act n h x))
  raw_act g h x p = raw_same n g p (act_value h x)

  -- ---- one value before a step, equal after it
  pub act_equal : (g : Gate) {x y : Exact} → Proper n g → SameValue n x y → Equal n (act n g x) (act n g y)
  act_equal g p s = lower_unique n (raw_same n g p s)

  pub act_same : (g : Gate) {x y : Exact} → Proper n g → SameValue n x y → SameValue n (act n g x) (act n g y)
  act_same g p s = equal_same n (act_equal g p s)

  -- ---- gates with no common bit, and gates that undo each other
  pub act_swap : (g h : Gate) (x : Exact) → Proper n g → Proper n h → Apart (touches g) (touches h) → Equal n (act n g (act n h x)) (act n h (act n g x))
  act_swap g h x p q a =
      lower_unique n
      (same_trans n (same_sym n (raw_act g h x p)) (same_trans n (equal_same n (raw_swap n g h x a)) (raw_act h g x q)))

  pub act_back : {g h : Gate} (x : Exact) → Proper n g → Undoes g h → SameValue n (act n g (act n h x)) x
  act_back {g} {h} x p u =
      same_trans n (same_sym n (act_value g (act n h x))) (same_trans n (same_sym n (raw_act g h x p)) (raw_back n x u))

  pub act_back_lowest : {g h : Gate} {x : Exact} → Proper n g → Undoes g h → Lowest n x → Equal n (act n g (act n h x)) x
  act_back_lowest {g} {h} {x} p u l = unique n (act_lowest g (act n h x)) l (act_back x p u)

  -- ---- turns of all entries
  pub act_turned : (p : ℕ) (g : Gate) (x : Exact) → SameValue n (act n g (turned p x)) (turned p (act n g x))
  act_turned p g x =
      same_trans n (same_sym n (act_value g (turned p x)))
      (same_trans n (equal_same n (raw_turned n p g x)) (turned_same n p (act_value g x)))

  pub act_turned_equal : (p : ℕ) (g : Gate) (x : Exact) → Equal n (act n g (turned p x)) (turned p (act n g x))
  act_turned_equal p g x = unique n (act_lowest g (turned p x)) (turned_lowest n p (act_lowest g x)) (act_turned p g x)

  -- ---- a power of omega times a matrix

  -- a power past 7 is taken modulo 8
  power_mod : (p : ℕ) {x y : Exact} → SameValue n (turned p x) y → PowerOf n x y
  power_mod p {x} s = record {
    power = p % 8;
    small = mod-lt p (omega arith);
    same = same_trans n {y = turned p x} (record { at = λ r c i j. ap (sqrt2s x.k) (turn_mod p (x.e r c)) }) s;
  }

  pub power_of : {x y : Exact} → SameValue n x y → PowerOf n x y
  power_of {x} s = power_mod 0 (same_trans n {y = x} (record { at = λ r c i j. ap (sqrt2s x.k) (turn_none (x.e r c)) }) s)

  pub power_refl : (x : Exact) → PowerOf n x x
  power_refl x = power_of (same_refl n x)

  pub power_sym : {x y : Exact} → PowerOf n x y → PowerOf n y x
  power_sym {x} s =
      power_mod (7 * s.power) (same_trans n (turned_same n (7 * s.power) (same_sym n s.same))
      (record { at = λ r c i j. ap (sqrt2s x.k) (turn_back s.power (x.e r c)) }))

  pub power_trans : {x y z : Exact} → PowerOf n x y → PowerOf n y z → PowerOf n x z
  power_trans {x} s t =
      power_mod (t.power + s.power)
      (same_trans n (record { at = λ r c i j. ap (sqrt2s x.k) (sym (turn_turn t.power s.power (x.e r c))) })
      (same_trans n (turned_same n t.power s.same) t.same))

  pub act_power : (g : Gate) {x y : Exact} → Proper n g → PowerOf n x y → PowerOf n (act n g x) (act n g y)
  act_power g {x} p s = record {
    power = s.power;
    small = s.small;
    same = same_trans n (same_sym n (act_turned s.power g x)) (act_same g p s.same);
  }

  -- a power of omega times a matrix, lowered, is that power times the lowered matrix
  pub lower_power : {x y : Exact} → PowerOf n x y → PowerOf n (lower n x) (lower n y)
  lower_power {x} s = record {
    power = s.power;
    small = s.small;
    same = equal_same n (equal_trans n (equal_sym n (turned_lower n s.power x)) (lower_unique n s.same));
  }
