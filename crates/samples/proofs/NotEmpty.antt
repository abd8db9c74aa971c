-- Demand 3's conditions can be met: at width 1 with basis 2, which is X alone, gate limit 8 and entry limit 2, each of
-- them is discharged. Lists of X have two products up to a power of omega, with two fingerprints. Assumes nothing.
use mathlib.Core.Path.{◌≡◌, sym, ap, ◌∙◌, subst}
use mathlib.Core.Logic.{◌⊎◌, inl, inr}
use mathlib.Core.Bool.{false}
use mathlib.Core.List.Memᴰ
use mathlib.Core.List.{List, [], ◌∷◌, reverse, Memᴰ}
use Prim.Native.Nat.{ℕ, ◌≤◌}
use native.Mathlib.Omega.{arith}
use borrow.Author.Tests.{eq-eqb}
use lib.ListN.{length}
use Rattle.ints.proofs.Bools.{clash}
use Rattle.generators.specs.Generators.{generators}
use Rattle.exact.specs.Matrix.{Exact, Lowest, PowerOf, identity}
use Rattle.exact.specs.Rows.{gate_of}
use Rattle.exact.specs.Lists.{product}
use Rattle.exact.specs.Fingerprint.{fingerprint}
use Rattle.exact.proofs.Acts.{act_lowest, act_back, power_of, power_refl, power_sym, power_trans, act_power}
use Rattle.exact.proofs.Coded.{proper, inverse_undoes}
use Rattle.exact.proofs.Listed.{product_lowest}
use Rattle.exact.proofs.Prints.{fingerprint_power}
use Rattle.walk.specs.Walk.{Build, prod}
use Rattle.walk.proofs.Laws.{Over, act_by}
use Rattle.walk.specs.Modes.{by_print}
use Rattle.walk.specs.AtWidth.{at_width, built, ListOf, NoSharedPrint}
use Rattle.walk.proofs.WidthDemand.{WidthComplete}
use Rattle.walk.proofs.Exactly.{product_of, over_reverse, list_over}
use Rattle.walk.proofs.Demand3.{demand}
use Rattle.samples.proofs.Walks.{samples}

-- X, 4096, of the identity
abbrev flipped : Exact
flipped = act_by 1 4096 identity

is_x : (g : ℕ) → Memᴰ g (generators 1 2) → g ≡ 4096
is_x g m = Memᴰ.eq_of_singleton (subst (Memᴰ g) samples.only_x m)

-- a list of X has the product of none or of one
two_products : (l : List ℕ) → Over (at_width by_print 1 2) l → PowerOf 1 (prod (at_width by_print 1 2) l) identity ⊎ PowerOf 1 (prod (at_width by_print 1 2) l) flipped
two_products [] o = inl (power_refl 1 identity)
two_products (g ∷ l) o =
    subst (λ (h : ℕ). PowerOf 1 (act_by 1 h (prod (at_width by_print 1 2) l)) identity ⊎ PowerOf 1 (act_by 1 h (prod (at_width by_print 1 2) l)) flipped)
    (sym (is_x g o.0)) (by (two_products l o.1))
  where
    step : {x y : Exact} → PowerOf 1 x y → PowerOf 1 (act_by 1 4096 x) (act_by 1 4096 y)
    step s = act_power 1 (gate_of 1 4096) (proper 1 4096) s

    by : PowerOf 1 (prod (at_width by_print 1 2) l) identity ⊎ PowerOf 1 (prod (at_width by_print 1 2) l) flipped
        → PowerOf 1 (act_by 1 4096 (prod (at_width by_print 1 2) l)) identity ⊎ PowerOf 1 (act_by 1 4096 (prod (at_width by_print 1 2) l)) flipped
    by (inl s) = inr (step s)
    by (inr s) = inl (power_trans 1 (step s) (power_of 1 (act_back 1 identity (proper 1 4096) (inverse_undoes 1 4096 4096 samples.x_back))))

-- so there is no clash among lists of X, however long they are (SPECIFICATION 8.14)
pub no_shared : (G : ℕ) → NoSharedPrint 1 2 G
no_shared G l m a b p q e = by (class l a) (class m b)
  where
    class : (l : List ℕ) → ListOf 1 2 l → PowerOf 1 (product 1 l) identity ⊎ PowerOf 1 (product 1 l) flipped
    class l a =
        subst (λ (x : Exact). PowerOf 1 x identity ⊎ PowerOf 1 x flipped) (sym (product_of by_print 1 2 (omega arith) l))
        (two_products (reverse l) (over_reverse by_print 1 2 (omega arith) l (list_over by_print 1 2 (omega arith) l a)))

    apart : {A : Type 0} → fingerprint 1 identity ≡ fingerprint 1 flipped → A
    apart f = clash (eq-eqb (fingerprint 1 identity) (fingerprint 1 flipped) f) samples.prints_differ

    low : Lowest 1 identity
    low = record { lowest = λ h. absurd (omega arith) }

    low_x : Lowest 1 flipped
    low_x = act_lowest 1 (gate_of 1 4096) identity

    by : PowerOf 1 (product 1 l) identity ⊎ PowerOf 1 (product 1 l) flipped → PowerOf 1 (product 1 m) identity ⊎ PowerOf 1 (product 1 m) flipped
        → PowerOf 1 (product 1 l) (product 1 m)
    by (inl s) (inl t) = power_trans 1 s (power_sym 1 t)
    by (inr s) (inr t) = power_trans 1 s (power_sym 1 t)
    by (inl s) (inr t) = apart (sym (fingerprint_power 1 (product_lowest 1 l) low s) ∙ e ∙ fingerprint_power 1 (product_lowest 1 m) low_x t)
    by (inr s) (inl t) = apart (sym (fingerprint_power 1 (product_lowest 1 m) low t) ∙ sym e ∙ fingerprint_power 1 (product_lowest 1 l) low_x s)

-- every hypothesis is met
pub holds : WidthComplete by_print 1 2 8 2
holds = (demand by_print 1 2 (omega arith)).complete 8 2 (omega arith) (no_shared 8)

pub unsaturated : (built by_print 1 2 8 2).saturated ≡ false
unsaturated = ap (λ (b : Build). b.saturated) samples.two_entries

-- for one, no list of X within 8 gates has the product of T, 20480, up to a power of omega: the width answers none
pub no_t : (m : List ℕ) → ListOf 1 2 m → length m ≤ 8 → PowerOf 1 (product 1 (20480 ∷ [])) (product 1 m) → ⊥
no_t = (holds.none_exactly unsaturated (product 1 (20480 ∷ [])) (product_lowest 1 (20480 ∷ []))).0 samples.x_not_t
