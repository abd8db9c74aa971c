-- The phase of a matrix by its places: of the first entry that is not zero. The least power, step by step. Assumes
-- nothing.
use mathlib.Core.Path.{◌≡◌, refl, ap, ◌∙◌}
use mathlib.Core.Bool.{Bool, true, false}
use mathlib.Core.List.{List}
use Prim.Native.Nat.{ℕ, zero, suc, ◌+◌, ◌*◌, ◌-◌, ◌^◌, ◌≤◌, ◌<◌}
use native.Mathlib.Omega.{arith}
use lib.IntN.{ℤ}
use Rattle.ints.specs.Lists.{pick}
use Rattle.cyclotomic.specs.Zomega.{Zω, zeroω, turn, is_zero, less, least_up_to, phase}
use Rattle.cyclotomic.proofs.Answers.{zero_yes}
use Rattle.exact.specs.Matrix.{Exact}
use Rattle.exact.specs.Phase.{first_nonzero, pivot, phase_of, flat}
use Rattle.exact.proofs.Phases.{flat_lt, zero_pivot}
use Rattle.exact.specs.Places.{entry, read, held}
use Rattle.places.proofs.Placed.{read_at}
use Rattle.phases.specs.First.{FirstNonzero}

-- if all before e are zero and e is not, the first that is not zero is e
first_at : (m : ℕ) (f : ℕ → Zω) (e : ℕ) → e < m → ((j : ℕ) → j < e → is_zero (f j) ≡ true) → is_zero (f e) ≡ false → first_nonzero m f ≡ f e
first_at zero f e h p q = absurd (omega arith)
first_at (suc m) f zero h p q = ap (λ (b : Bool). pick b (first_nonzero m (λ i. f (suc i))) (f 0)) q
first_at (suc m) f (suc e) h p q =
    ap (λ (b : Bool). pick b (first_nonzero m (λ i. f (suc i))) (f 0)) (p 0 (omega arith))
    ∙ first_at m (λ i. f (suc i)) e (omega arith) (λ j i. p (suc j) (omega arith)) q

-- the pivot and the phase of a matrix whose first entry that is not zero is at e
module _ (n k : ℕ) (l : List ℤ) (e : ℕ) (w : FirstNonzero l (2 ^ n * 2 ^ n) e) where
  pub pivot_at : e < 2 ^ n * 2 ^ n → pivot n (held n k l) ≡ entry l e
  unfolding pivot
  pivot_at h =
      first_at (2 ^ n * 2 ^ n) (flat n (read n l)) e h (λ j q. ap is_zero (read_at n l j) ∙ w.before j q)
      (ap is_zero (read_at n l e) ∙ w.found h)
      ∙ read_at n l e

  pub pivot_none : 2 ^ n * 2 ^ n ≤ e → pivot n (held n k l) ≡ zeroω
  pivot_none h =
      zero_pivot n (held n k l)
      (λ r c p q. zero_yes (entry l (r * 2 ^ n + c)) (w.before (r * 2 ^ n + c) (omega (arith, flat_lt n r c p q))))

-- the phase of a matrix is its pivot's
pub phase_of_lem : (n p : ℕ) (x : Exact) (z : Zω) → p ≡ phase z → z ≡ pivot n x → p ≡ phase_of n x
unfolding phase_of
phase_of_lem n p x z e f = e ∙ ap phase f

-- the exponent has no part in the phase
pub phase_any : (n j k : ℕ) (l : List ℤ) → phase_of n (held n j l) ≡ phase_of n (held n k l)
unfolding phase_of pivot
phase_any n j k l = refl

-- a step of the search for the least power
least_next : (z : Zω) (p least : ℕ) (b : Bool) → b ≡ less (turn (suc p) z) (turn least z) → least ≡ least_up_to p z
    → pick b (suc p) least ≡ least_up_to (suc p) z
unfolding least_up_to
least_next z p least b t e = rw (t, e)

-- the same, by the code's numbers
pub least_more : (z : Zω) (p least : ℕ) (b : Bool) → 1 ≤ p → b ≡ less (turn p z) (turn least z) → least ≡ least_up_to (p - 1) z
    → pick b p least ≡ least_up_to (p + 1 - 1) z
least_more z zero least b h t e = absurd (omega arith)
least_more z (suc p) least b h t e =
    let before : suc p - 1 ≡ p = omega arith in
    let after : suc p ≡ suc p + 1 - 1 = omega arith in
    least_next z p least b t (e ∙ ap (λ (k : ℕ). least_up_to k z) before) ∙ ap (λ (k : ℕ). least_up_to k z) after
