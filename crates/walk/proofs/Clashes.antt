-- Demand 3's condition on fingerprints, of lists that are oldest gate first, is the walk's condition where a
-- fingerprint alone makes known, in both directions: neither is weaker. Assumes nothing.
use mathlib.Core.Path.{◌≡◌, sym, ap, ◌∙◌, subst}
use mathlib.Core.Logic.{◌↔◌}
use mathlib.Core.List.{reverse}
use Prim.Native.Nat.{ℕ, ◌≤◌}
use native.Mathlib.Omega.{arith}
use lib.ListN.{length-reverse}
use Rattle.exact.specs.Matrix.{Exact, PowerOf}
use Rattle.exact.specs.Lists.{product}
use Rattle.exact.specs.Fingerprint.{fingerprint}
use Rattle.walk.specs.Walk.{prod}
use Rattle.walk.proofs.Laws.{NoClash}
use Rattle.walk.specs.Modes.{by_print}
use Rattle.walk.specs.AtWidth.{at_width, NoSharedPrint}
use Rattle.walk.proofs.Exactly.{same_print_lem, product_of, list_over, over_reverse, no_clash}

module _ (n basis : ℕ) (small : n ≤ 5) where
  pub no_shared : (G : ℕ) → NoClash (at_width by_print n basis) (PowerOf n) G → NoSharedPrint n basis G
  no_shared G h l m a b p q e =
      subst (λ (x : Exact). PowerOf n x (product n m)) (sym (product_of by_print n basis small l))
      (subst (λ (y : Exact). PowerOf n (prod (at_width by_print n basis) (reverse l)) y) (sym (product_of by_print n basis small m))
      (h (reverse l) (reverse m) (over_reverse by_print n basis small l (list_over by_print n basis small l a)) (over_reverse by_print n basis small m (list_over by_print n basis small m b))
      (omega (arith, length-reverse l)) (omega (arith, length-reverse m))
      (same_print_lem n (prod (at_width by_print n basis) (reverse l)) (prod (at_width by_print n basis) (reverse m))
      (ap (fingerprint n) (sym (product_of by_print n basis small l)) ∙ e ∙ ap (fingerprint n) (product_of by_print n basis small m)))))

  pub no_shared_exactly : (G : ℕ) → NoSharedPrint n basis G ↔ NoClash (at_width by_print n basis) (PowerOf n) G
  no_shared_exactly G = (no_clash by_print n basis small G, no_shared G)
