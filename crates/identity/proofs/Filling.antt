-- A matrix in places is set to 0, and a matrix of 0s gets the identity's 1s row by row. Assumes nothing.
use mathlib.Core.Path.{◌≡◌, refl, sym, ap, ◌∙◌, subst}
use mathlib.Core.List.{List, ◌++◌}
use Prim.Native.Nat.{ℕ, zero, suc, ◌+◌, ◌-◌, ◌*◌, ◌^◌, ◌≤◌, ◌<◌}
use native.Mathlib.Omega.{arith}
use borrow.Author.Count.{below_more}
use borrow.Author.Tests.{eqb-true, eqb-false}
use lib.Dec.{eqb}
use lib.IntN.{ℤ, pos}
use lib.ListN.{length, get_or, set, replicate, take, drop, length-set, length-append, get_or-append}
use lib.Seq.{get_or-set_same, get_or-set_other}
use Rattle.std.proofs.lemmas.List.{length-replicate, length-take-le, length-drop, get_or-append_right, get_or-drop}
use Rattle.cyclotomic.specs.Zomega.{Zω, Small, zeroω, oneω}
use Rattle.cyclotomic.proofs.Squares.{small_zero, small_one}
use Rattle.cyclotomic.proofs.Each.{each}
use Rattle.exact.specs.Matrix.{identity}
use Rattle.exact.proofs.Values.{pick_ind}
use Rattle.exact.specs.Places.{entry, read}
use Rattle.places.specs.Places.{places, put, Kept, Blank}
use Rattle.places.proofs.Placed.{entry_put_same, entry_put_other, length_put, place_fits, rows_apart, kept_refl, kept_trans, kept_put}
use Rattle.exact.proofs.Phases.{flat_lt}
use Rattle.places.specs.Held.{Holds, AllZero}

-- ---- 0 at a matrix's places

-- the first i places are 0, the later ones as they were
pub record Clearing (l l' : List ℤ) (i : ℕ) : Type 0 where
  pub long : length l' ≡ places
  pub done : (j : ℕ) → j < i → get_or l' j (pos 0) ≡ pos 0
  pub ahead : (j : ℕ) → i ≤ j → get_or l' j (pos 0) ≡ get_or l j (pos 0)

module _ {l : List ℤ} where
  pub clearing_none : length l ≡ places → Clearing l l 0
  clearing_none e = record { long = e; done = λ j h. absurd (omega arith); ahead = λ j h. refl }

  pub clearing_more : {l' : List ℤ} (i : ℕ) → Clearing l l' i → i < places → Clearing l (set l' i (pos 0)) (i + 1)
  clearing_more {l'} i w h = record {
    long = length-set l' i (pos 0) ∙ w.long;
    done = below_more (λ j. get_or (set l' i (pos 0)) j (pos 0) ≡ pos 0) i
        (λ j g. get_or-set_other l' i j (pos 0) (pos 0) (λ e. omega arith) ∙ w.done j g) (get_or-set_same l' i (pos 0) (pos 0) (omega (arith, w.long)));
    ahead = λ j g. get_or-set_other l' i j (pos 0) (pos 0) (λ e. omega arith) ∙ w.ahead j (omega arith);
  }

  pub cleared_zero : (n : ℕ) {l' : List ℤ} (i : ℕ) → Clearing l l' i → 4 * (2 ^ n * 2 ^ n) ≤ i → AllZero n l'
  cleared_zero n i w h = record { long = w.long; zero = λ j g. w.done j (omega arith) }

  pub cleared_kept : (n : ℕ) {l' : List ℤ} (i : ℕ) → Clearing l l' i → i ≤ 4 * (2 ^ n * 2 ^ n) → Kept n l l'
  cleared_kept n i w h = record { past = λ j g. w.ahead j (omega arith) }

-- what is 0 everywhere, read anywhere
none_at : (m j : ℕ) → get_or (replicate m (pos 0)) j (pos 0) ≡ pos 0
none_at zero j = refl
none_at (suc m) zero = refl
none_at (suc m) (suc j) = none_at m j

-- the same where the first k places are set at once, as `fill` does
module _ (n : ℕ) (l : List ℤ) {z : List ℤ} (k : ℕ) (e : length l ≡ places) (s : k ≤ places) (q : k ≡ 4 * (2 ^ n * 2 ^ n)) (w : z ≡ replicate (length (take k l)) (pos 0)) where
  zeros_long : length z ≡ k
  zeros_long = ap length w ∙ length-replicate (length (take k l)) (pos 0) ∙ length-take-le k l (omega arith)

  pub filled_zero : AllZero n (z ++ drop k l)
  filled_zero = record {
    long = length-append z (drop k l) ∙ omega (arith, zeros_long, length-drop k l);
    zero = λ j h. get_or-append z (drop k l) (pos 0) j (omega (arith, zeros_long)) ∙ rw w (none_at (length (take k l)) j);
  }

  pub filled_kept : Kept n l (z ++ drop k l)
  filled_kept = record {
    past = λ j h. let i : k + (j - k) ≡ j = omega arith in get_or-append_right z (drop k l) k j (pos 0) zeros_long (omega arith) ∙ get_or-drop k l (j - k) (pos 0) ∙ ap (λ (x : ℕ). get_or l x (pos 0)) i;
  }

-- ---- 1 on the diagonal

-- the first i rows are the identity's, the others 0, and the places past the matrix as they were
pub record PlacesFilled (n : ℕ) (l l' : List ℤ) (i : ℕ) : Type 0 where
  pub long : length l' ≡ places
  pub done : (r : ℕ) → r < i → (c : ℕ) → c < 2 ^ n → read n l' r c ≡ identity.e r c
  pub ahead : (r : ℕ) → i ≤ r → r < 2 ^ n → (c : ℕ) → c < 2 ^ n → read n l' r c ≡ zeroω
  pub kept : Kept n l l'

-- places that are all 0
pub zero_all : (n : ℕ) {l : List ℤ} → l ≡ replicate places (pos 0) → AllZero n l
zero_all n e = record { long = rw e refl; zero = λ j g. rw e (none_at 4096 j) }

pub blank_all : (n : ℕ) {l l' : List ℤ} → l ≡ replicate places (pos 0) → Kept n l l' → Blank n l'
blank_all n e w = record { past = λ j h. w.past j h ∙ rw e (none_at 4096 j) }

module _ (n : ℕ) where
  zero_entry : {l : List ℤ} → AllZero n l → (e : ℕ) → e < 2 ^ n * 2 ^ n → entry l e ≡ zeroω
  unfolding entry zeroω
  zero_entry w e h =
      each (w.zero (4 * e) (omega arith)) (w.zero (4 * e + 1) (omega arith)) (w.zero (4 * e + 2) (omega arith)) (w.zero (4 * e + 3) (omega arith))

  pub filled_none : {l : List ℤ} → AllZero n l → PlacesFilled n l l 0
  filled_none {l} w = record {
    long = w.long;
    done = λ r b. absurd (omega arith);
    ahead = λ r b h c q. zero_entry w (r * 2 ^ n + c) (flat_lt n r c h q);
    kept = kept_refl n l;
  }

  -- 1 at the diagonal's place of the next row
  pub filled_more : {l0 l l' : List ℤ} {z : Zω} (i : ℕ) {e : ℕ} → n ≤ 5 → PlacesFilled n l0 l i → i < 2 ^ n → l' ≡ put l e z → z ≡ oneω → e ≡ i * 2 ^ n + i
      → PlacesFilled n l0 l' (i + 1)
  filled_more {l0} {l} {l'} {z} i {e} b w h q t p = record {
    long = ap length q ∙ length_put l e z ∙ w.long;
    done = below_more (λ r. (c : ℕ) → c < 2 ^ n → read n l' r c ≡ identity.e r c) i
        (λ r g c k. other r c k (λ s. omega arith) ∙ w.done r g c k) next;
    ahead = λ r g f c k. other r c k (λ s. omega arith) ∙ w.ahead r (omega arith) f c k;
    kept = kept_trans n w.kept (rw q (kept_put n l e z (omega (arith, p, flat_lt n i i h h))));
  }
    where
      other : (r c : ℕ) → c < 2 ^ n → (r ≡ i → ⊥) → read n l' r c ≡ read n l r c
      other r c k u = rw q (entry_put_other l e z (r * 2 ^ n + c) (λ s. u (rows_apart n i r c i k h (s ∙ p))))

      next : (c : ℕ) → c < 2 ^ n → read n l' i c ≡ identity.e i c
      next c k =
          pick_ind (λ (x : Zω). read n l' i c ≡ x) (eqb i c)
          (λ s. let same : i * 2 ^ n + c ≡ e = omega (arith, eqb-true i c s) in
          rw (q, same) (entry_put_same l e z (omega (arith, w.long, place_fits n i i b h h)) ∙ t))
          (λ s. rw q (entry_put_other l e z (i * 2 ^ n + c) (λ v. eqb-false i c s (omega arith))) ∙ w.ahead i (omega arith) h c k)

  identity_small : (r c : ℕ) → Small (identity.e r c)
  identity_small r c = pick_ind Small (eqb r c) (λ h. small_one) (λ h. small_zero)

  pub filled_end : {l0 l : List ℤ} (i : ℕ) → PlacesFilled n l0 l i → 2 ^ n ≤ i → Holds n 0 l identity
  filled_end {l0} {l} i w h = record {
    long = w.long;
    equal = record { exponent = refl; entries = known };
    small = record { small = λ r c p q. subst Small (sym (known r c p q)) (identity_small r c) };
  }
    where
      known : (r c : ℕ) → r < 2 ^ n → c < 2 ^ n → read n l r c ≡ identity.e r c
      known r c p q = w.done r (omega arith) c q
