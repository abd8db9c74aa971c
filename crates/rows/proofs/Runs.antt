-- What a loop over entries did: a run of them turned. Assumes nothing.
use mathlib.Core.Path.{◌≡◌, refl, ap, ◌∙◌}
use mathlib.Core.List.{List}
use Prim.Native.Nat.{ℕ, ◌+◌, ◌<◌}
use native.Mathlib.Omega.{arith}
use borrow.Author.Count.{below_more}
use lib.IntN.{ℤ}
use lib.ListN.{length}
use Rattle.cyclotomic.specs.Zomega.{Zω, turn}
use Rattle.exact.specs.Places.{entry}
use Rattle.places.specs.Places.{places, put}
use Rattle.rows.specs.Work.{Turned}
use Rattle.places.proofs.Placed.{entry_put_same, entry_put_other, length_put}

module _ (power : ℕ) (l : List ℤ) (e : ℕ) where
  pub turned_none : Turned power l l e 0
  turned_none = record { long = refl; turned = λ k b. absurd (omega arith); other = λ k a. refl }

  -- the next entry is as it was
  pub turned_next : {l1 : List ℤ} (c : ℕ) → Turned power l l1 e c → entry l1 (e + c) ≡ entry l (e + c)
  turned_next c w = w.other (e + c) (λ i k q. omega arith)

  pub turned_more : {l1 l2 : List ℤ} {z : Zω} (c : ℕ) → Turned power l l1 e c → length l ≡ places → e + c < 1024
      → z ≡ turn power (entry l (e + c)) → l2 ≡ put l1 (e + c) z → Turned power l l2 e (c + 1)
  turned_more {l1} {l2} {z} c w n b t q = record {
    long = ap length q ∙ length_put l1 (e + c) z ∙ w.long;
    turned = below_more _ c (λ k h. rw q (entry_put_other l1 (e + c) z (e + k) (λ p. omega arith) ∙ w.turned k h))
        (rw q (entry_put_same l1 (e + c) z (omega (arith, w.long)) ∙ t));
    other = λ k a. rw q (entry_put_other l1 (e + c) z k (a c (omega arith)) ∙ w.other k (λ i h. a i (omega arith)));
  }
