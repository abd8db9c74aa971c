-- What a loop over entries did: the first of them divided. Assumes nothing.
use mathlib.Core.Path.{◌≡◌, refl, ap, ◌∙◌}
use mathlib.Core.List.{List}
use Prim.Native.Nat.{ℕ, ◌+◌, ◌<◌}
use native.Mathlib.Omega.{arith}
use borrow.Author.Count.{below_more}
use lib.IntN.{ℤ}
use lib.ListN.{length}
use Rattle.cyclotomic.specs.Zomega.{Zω, over_sqrt2}
use Rattle.exact.specs.Places.{entry}
use Rattle.places.specs.Places.{places, put}
use Rattle.places.proofs.Placed.{entry_put_same, entry_put_other, length_put}
use Rattle.lowering.specs.Lowered.{Divided}

module _ (l : List ℤ) where
  pub divided_none : Divided l l 0
  divided_none = record { long = refl; divided = λ k b. absurd (omega arith); other = λ k a. refl }

  pub divided_more : {l1 l2 : List ℤ} {z : Zω} (c : ℕ) → Divided l l1 c → length l ≡ places → c < 1024
      → z ≡ over_sqrt2 (entry l c) → l2 ≡ put l1 c z → Divided l l2 (c + 1)
  divided_more {l1} {l2} {z} c w n b t q = record {
    long = ap length q ∙ length_put l1 c z ∙ w.long;
    divided = below_more _ c (λ k h. rw q (entry_put_other l1 c z k (λ p. omega arith) ∙ w.divided k h))
        (rw q (entry_put_same l1 c z (omega (arith, w.long)) ∙ t));
    other = λ k a. rw q (entry_put_other l1 c z k (λ p. omega arith) ∙ w.other k (omega arith));
  }
