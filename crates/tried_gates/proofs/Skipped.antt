-- A candidate that the walk skips stays skipped, whatever nodes are added: its node's list stays, and a node that made
-- it known stays. So gates whose candidates are skipped may be left out ahead. Assumes nothing.
use mathlib.Core.Path.{◌≡◌, refl, sym, ap, ◌∙◌, subst}
use mathlib.Core.Bool.{Bool, true, false, not, ◌||◌}
use mathlib.Core.List.{List, [], ◌∷◌}
use Prim.Native.Nat.{ℕ, ◌<◌}
use native.Mathlib.Omega.{arith}
use lib.ListN.{length}
use Rattle.ints.specs.Lists.{pick}
use Rattle.walk.specs.Walk.{Rules, Node, State, any, root, list_at, prod, pruned, knows, candidate, skipped, try, try_all}
use Rattle.walk.proofs.Grown.{Prefix}
use Rattle.walk.proofs.Sequences.{prefix_at, prefix_length}
use Rattle.walk.proofs.Candidates.{any_prefix, try_later}
use Rattle.skip_rules.specs.Skips.{unskipped}

module _ (R : Rules) where
  -- a skipped candidate stays skipped
  pub skipped_stays : {ns ms : List Node} (k g : ℕ) → Prefix ns ms → k < length ns → skipped R ns k g ≡ true → skipped R ms k g ≡ true
  unfolding skipped
  skipped_stays {ns} {ms} k g p l e =
      subst (λ (own : List ℕ). (pruned R g own || (not (R.fits g (prod R own)) || any (knows R (R.act g (prod R own))) ms)) ≡ true) (sym same)
      (by (pruned R g (list_at ns k)) (not (R.fits g (prod R (list_at ns k)))) e)
    where
      same : list_at ms k ≡ list_at ns k
      same = ap (λ (v : Node). v.list) (prefix_at p k root l)

      by : (a b : Bool) → (a || (b || any (knows R (candidate R ns k g)) ns)) ≡ true → (a || (b || any (knows R (R.act g (prod R (list_at ns k)))) ms)) ≡ true
      by true b q = refl
      by false true q = refl
      by false false q = any_prefix R (knows R (candidate R ns k g)) p q

  try_skipped : (E : ℕ) (s : State) (k g : ℕ) → skipped R s.nodes k g ≡ true → try R E s k g ≡ s
  unfolding try
  try_skipped E s k g e = by s.saturated refl
    where
      by : (b : Bool) → s.saturated ≡ b → try R E s k g ≡ s
      by true q = rw q
      by false q = rw (q, e)

  -- gates whose candidates are skipped are left out, and nothing changes
  pub try_all_without : (E : ℕ) (skip : ℕ → Bool) (s : State) (k : ℕ) (gs : List ℕ) → k < length s.nodes → ((g : ℕ) → skip g ≡ true → skipped R s.nodes k g ≡ true)
      → try_all R E s k (unskipped skip gs) ≡ try_all R E s k gs
  unfolding try_all
  try_all_without E skip s k [] l r = refl
  try_all_without E skip s k (g ∷ gs) l r =
      by (skip g) refl (try_all_without E skip s k gs l r)
      (try_all_without E skip (try R E s k g) k gs (omega (arith, prefix_length (try_later R E s k g).prefix)) (λ h e. skipped_stays k h (try_later R E s k g).prefix l (r h e)))
    where
      by : (b : Bool) → skip g ≡ b → try_all R E s k (unskipped skip gs) ≡ try_all R E s k gs
          → try_all R E (try R E s k g) k (unskipped skip gs) ≡ try_all R E (try R E s k g) k gs
          → try_all R E s k (pick (skip g) (unskipped skip gs) (g ∷ unskipped skip gs)) ≡ try_all R E (try R E s k g) k gs
      by true e here on = rw e (here ∙ ap (λ (t : State). try_all R E t k gs) (sym (try_skipped E s k g (r g e))))
      by false e here on = rw e on
