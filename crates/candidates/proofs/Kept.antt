-- The two tests one after the other leave the gates that are handed on, and these are valid. Assumes nothing.
use mathlib.Core.Path.{◌≡◌, sym, ap, ◌∙◌, subst}
use mathlib.Core.Bool.{Bool, ◌||◌}
use mathlib.Core.List.{List, map, Memᴰ}
use Prim.Native.Nat.{ℕ, ◌-◌, ◌≤◌}
use native.Mathlib.Omega.{arith}
use lib.ListN.{length, get_or, take}
use lib.Seq.{length-take-le, get_or-take}
use Rattle.circuit.specs.Codes.{valid}
use Rattle.generators.specs.Generators.{generators}
use Rattle.skip_rules.specs.Skips.{pruned_at, unskipped, Unpruned}
use Rattle.skip_rules.proofs.Sifting.{unskipped_both, unskipped_mem}
use Rattle.fitting_gates.specs.Fitting.{LeftOf, ValidTo}
use Rattle.tried_gates.proofs.Keeping.{mem_at, generator_valid}

module _ {node : ℕ} {all codes kept : List ℕ} {size : ℕ} (a : Unpruned node all codes kept size) (few : length all ≤ 105) {q : ℕ → Bool} {y : ℕ → ℕ} {kept' prints' : List ℕ} {fit : ℕ}
    (b : LeftOf q y (take size kept) kept' prints' fit) where
  pub fit_few : fit ≤ 105
  fit_few = omega (arith, b.few, length-take-le size kept (omega (arith, a.few, a.long)), a.few)

  pub both_gates : take (fit - 0) kept' ≡ unskipped (λ g. pruned_at codes node g || q g) all
  both_gates = let z : fit - 0 ≡ fit = omega arith in rw z (b.gates_are ∙ ap (unskipped q) a.is ∙ unskipped_both (pruned_at codes node) q all)

  pub both_prints : take (fit - 0) prints' ≡ map y (take (fit - 0) kept')
  both_prints = let z : fit - 0 ≡ fit = omega arith in rw z (b.prints_are ∙ ap (map y) (sym b.gates_are))

-- the gates that the skip rules leave are valid
pub unpruned_valid : (n basis : ℕ) → n ≤ 5 → {node : ℕ} {gs c kept : List ℕ} {size : ℕ} → gs ≡ generators n basis → Unpruned node gs c kept size → size ≤ length kept → ValidTo n kept size
unpruned_valid n basis small {node} {gs} {c} {kept} {size} e w few = record {
  at = λ j l.
      let g : ℕ = get_or (take size kept) j 0 in
      let m : Memᴰ g (unskipped (pruned_at c node) gs) = subst (λ (z : List ℕ). Memᴰ g z) w.is (mem_at (take size kept) j (omega (arith, length-take-le size kept few))) in
      ap (valid n) (sym (get_or-take size kept j 0 l)) ∙ generator_valid n basis g small (subst (λ (z : List ℕ). Memᴰ g z) e (unskipped_mem (pruned_at c node) gs g m).0);
}
