-- A sweep over the rows: a row's key is the loop's r at which it is worked, its own number or the lower row of its
-- pair. Assumes nothing.
use mathlib.Core.Path.{◌≡◌, refl, ◌∙◌}
use mathlib.Core.List.{List}
use Prim.Native.Nat.{ℕ, ◌+◌, ◌^◌, ◌≤◌, ◌<◌}
use native.Mathlib.Omega.{arith}
use native.Mathlib.Decide.{ℕ_discrete}
use lib.IntN.{ℤ}
use lib.ListN.{length}
use Rattle.cyclotomic.specs.Zomega.{Zω}
use Rattle.exact.specs.Places.{read}
use Rattle.places.specs.Places.{places, Same, Kept}
use Rattle.places.proofs.Placed.{kept_refl, kept_trans}
use Rattle.rows.specs.Work.{Worked}

-- the rows whose key is below r are those of y, the others are as they were in l₀, and so are the places past the
-- matrix
pub record Swept (n : ℕ) (key : ℕ → ℕ) (l₀ : List ℤ) (y : ℕ → ℕ → Zω) (l : List ℤ) (r : ℕ) : Type 0 where
  pub long : length l ≡ places
  pub done : (s c : ℕ) → s < 2 ^ n → c < 2 ^ n → key s < r → read n l s c ≡ y s c
  pub rest : (s c : ℕ) → s < 2 ^ n → c < 2 ^ n → r ≤ key s → read n l s c ≡ read n l₀ s c
  pub kept : Kept n l₀ l

module _ (n : ℕ) (key : ℕ → ℕ) where
  pub swept_none : (y : ℕ → ℕ → Zω) (l : List ℤ) → length l ≡ places → Swept n key l y l 0
  swept_none y l h = record { long = h; done = λ s c hs hc b. absurd (omega arith); rest = λ s c hs hc b. refl; kept = kept_refl n l }

  pub swept_more :
      {l₀ : List ℤ} {y z : ℕ → ℕ → Zω} {l l' : List ℤ} (r : ℕ)
      → Swept n key l₀ y l r
      → Worked n key r z l l'
      → ((s c : ℕ) → s < 2 ^ n → c < 2 ^ n → key s ≡ r → z s c ≡ y s c)
      → Swept n key l₀ y l' (r + 1)
  swept_more {y = y} {l' = l'} r w k same =
      record {
        long = k.long ∙ w.long;
        done = λ s c hs hc b. by s c hs hc b (ℕ_discrete (key s) r);
        rest = λ s c hs hc b. k.other s c hs hc (λ e. omega arith) ∙ w.rest s c hs hc (omega arith);
        kept = kept_trans n w.kept k.kept;
      }
    where
      by : (s c : ℕ) → s < 2 ^ n → c < 2 ^ n → key s < r + 1 → Dec (key s ≡ r) → read n l' s c ≡ y s c
      by s c hs hc b (yes e) = k.worked s c hs hc e ∙ same s c hs hc e
      by s c hs hc b (no e) = k.other s c hs hc e ∙ w.done s c hs hc (omega arith)

  -- the rows with key r were done from the start
  pub swept_pass : {l₀ : List ℤ} {y : ℕ → ℕ → Zω} {l : List ℤ} (r : ℕ) → Swept n key l₀ y l r → ((s c : ℕ) → key s ≡ r → read n l₀ s c ≡ y s c)
      → Swept n key l₀ y l (r + 1)
  swept_pass {l₀} {y} {l} r w same =
      swept_more r w
      (record { long = refl; worked = λ s c hs hc e. w.rest s c hs hc (omega arith); other = λ s c hs hc e. refl; kept = kept_refl n l })
      (λ s c hs hc e. same s c e)

  pub swept_end : {l₀ : List ℤ} {y : ℕ → ℕ → Zω} {l : List ℤ} (r : ℕ) → Swept n key l₀ y l r → ((s : ℕ) → s < 2 ^ n → key s < r) → Same n (read n l) y
  swept_end r w h = record { at = λ s c hs hc. w.done s c hs hc (h s hs) }
