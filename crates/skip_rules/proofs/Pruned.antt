-- The two skip rules (SPECIFICATION 6.5), in each case of the code. Assumes nothing.
use mathlib.Core.Path.{◌≡◌, refl, sym, ◌∙◌}
use mathlib.Core.Bool.{true, false, ◌||◌, ◌&&◌}
use mathlib.Core.List.{List}
use Prim.Native.Nat.{ℕ, zero, suc}
use lib.Dec.{ltb}
use lib.ListN.{get_or}
use Rattle.circuit.specs.Pairs.{inverse, disjoint}
use Rattle.skip_rules.specs.Skips.{pruned_at}

module _ (codes : List ℕ) (node g : ℕ) (p : node ≡ 0 → ⊥) where
  abbrev last : ℕ
  last = get_or codes node 0

  by_last : pruned_at codes node g ≡ (inverse g last || (disjoint g last && ltb g last))
  by_last = by node p
    where
      by : (k : ℕ) → (k ≡ 0 → ⊥) → pruned_at codes k g ≡ (inverse g (get_or codes k 0) || (disjoint g (get_or codes k 0) && ltb g (get_or codes k 0)))
      by zero q = absurd (q refl)
      by (suc k) q = refl

  pub pruned_inverse : inverse g last ≡ true → true ≡ pruned_at codes node g
  pruned_inverse e = sym (by_last ∙ rw e)

  pub pruned_shares : inverse g last ≡ false → disjoint g last ≡ false → false ≡ pruned_at codes node g
  pruned_shares e d = sym (by_last ∙ rw (e, d))

  pub pruned_lower : inverse g last ≡ false → disjoint g last ≡ true → ltb g last ≡ pruned_at codes node g
  pruned_lower e d = sym (by_last ∙ rw (e, d))
