-- A sweep that turns the rows that have all bits of a mask. Assumes nothing.
use mathlib.Core.Path.{◌≡◌, refl, sym, ap, ◌∙◌, subst}
use mathlib.Core.List.{List}
use Prim.Native.Nat.{ℕ, ◌+◌, ◌*◌, ◌^◌, ◌<◌}
use native.Mathlib.Omega.{arith}
use borrow.Author.Tests.{eq-eqb, ne_eqb}
use lib.IntN.{ℤ}
use lib.Bits.{bit_and}
use Rattle.cyclotomic.specs.Zomega.{turn, Small}
use Rattle.exact.proofs.Words.{AllSmall}
use Rattle.exact.specs.Places.{read}
use Rattle.rows.specs.Rows.{phase_rows}
use Rattle.rows.specs.Work.{Turned, SmallFrom}
use Rattle.places.proofs.Placed.{rows_apart, kept_entries}
use Rattle.exact.proofs.Phases.{flat_lt}
use Rattle.rows.proofs.Sweeps.{Swept, swept_more, swept_pass}

-- row s is worked at s
abbrev pub Phased : ℕ → ℕ → ℕ → List ℤ → List ℤ → ℕ → Type 0
Phased n mask power l₀ l r = Swept n (λ s. s) l₀ (phase_rows mask power (read n l₀)) l r

module _ (n mask power : ℕ) (l₀ : List ℤ) {l : List ℤ} (r : ℕ) (w : Phased n mask power l₀ l r) (lt : r < 2 ^ n) where
  -- the row is still as it was
  pub phase_small : AllSmall n (read n l₀) → SmallFrom l (r * 2 ^ n) (2 ^ n)
  phase_small s = record { small = λ c q. subst Small (sym (w.rest r c lt q (omega arith))) (s.small r c lt q) }

  pub phase_turn : {l' : List ℤ} → bit_and r mask ≡ mask → Turned power l l' (r * 2 ^ n) (2 ^ n) → Phased n mask power l₀ l' (r + 1)
  unfolding phase_rows
  phase_turn {l'} h t =
      swept_more n (λ s. s) r w
      (record {
        long = t.long;
        worked = λ s c p q e. rw (e, eq-eqb _ _ h) (t.turned c q ∙ ap (turn power) (w.rest r c lt q (omega arith)));
        other = λ s c p q f. t.other (s * 2 ^ n + c) (λ i b e. f (rows_apart n r s c i q b e));
        kept = kept_entries n (λ k g. t.other k (λ i b e. omega (arith, flat_lt n r i lt b)));
      })
      (λ s c p q e. refl)

  pub phase_pass : (bit_and r mask ≡ mask → ⊥) → Phased n mask power l₀ l (r + 1)
  unfolding phase_rows
  phase_pass h = swept_pass n (λ s. s) r w (λ s c e. rw (e, ne_eqb _ _ h))
