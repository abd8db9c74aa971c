-- Two runs of entries, step by step: the tests whether what comes of them fits, and what has come of them. Assumes
-- nothing.
use mathlib.Core.Path.{◌≡◌, refl, sym, ap, ◌∙◌}
use mathlib.Core.Bool.{Bool, true, false, not, ◌||◌}
use mathlib.Core.List.{List}
use Prim.Native.Nat.{ℕ, ◌+◌, ◌≤◌, ◌<◌}
use native.Mathlib.Omega.{arith}
use borrow.Author.Count.{below_more}
use borrow.Author.Tests.{ltb-true, ltb-false}
use lib.IntN.{ℤ, nat_abs}
use lib.ListN.{length}
use Rattle.ints.proofs.Bools.{clash}
use Rattle.cyclotomic.specs.Zomega.{Zω, Small}
use Rattle.coefficients.specs.Coefficients.{limit, sizes_pass}
use Rattle.exact.specs.Places.{entry}
use Rattle.places.specs.Places.{places, put}
use Rattle.places.proofs.Placed.{length_put, entry_put_same, entry_put_other}
use Rattle.rows.specs.Work.{at}
use Rattle.h_entries.specs.Sums.{low_of, high_of, Summed, SizesFit, SumsFit, Tells}

-- ---- the test of the sizes, place by place

module _ (l : List ℤ) (p q : ℕ) where
  pub sizes_none : Tells (SizesFit l p q 0) true
  sizes_none = record { holds = λ h. record { fit = λ i b. absurd (omega arith) }; fails = λ h. clash refl h }

  pub sizes_more : (over t : Bool) (c : ℕ) → Tells (SizesFit l p q c) (not over) → t ≡ sizes_pass (at l (p + c)) (at l (q + c))
      → Tells (SizesFit l p q (c + 1)) (not (over || t))
  sizes_more true t c w e = record {
    holds = λ h. clash h refl;
    fails = λ h f. w.fails refl (record { fit = λ i b. f.fit i (omega arith) });
  }
  sizes_more false true c w e = record { holds = λ h. clash h refl; fails = λ h f. omega (arith, ltb-true limit (nat_abs (at l (p + c)) + nat_abs (at l (q + c))) (sym e), f.fit c (omega arith)) }
  sizes_more false false c w e = record {
    holds = λ h. record { fit = below_more _ c (w.holds refl).fit (ltb-false _ _ (sym e)) };
    fails = λ h. clash refl h;
  }

pub sizes_to : {l : List ℤ} {p q c d : ℕ} {b : Bool} → Tells (SizesFit l p q c) b → c ≤ d → d ≤ c → Tells (SizesFit l p q d) b
sizes_to {c = c} {d = d} w a b = let e : c ≡ d = omega arith in rw e at w

-- ---- the test, entry by entry

module _ (active : Bool) (l : List ℤ) (e f : ℕ) where
  pub sums_none : SumsFit active l e f 0
  sums_none = record { sum_fits = λ k b. absurd (omega arith); difference_fits = λ k b. absurd (omega arith) }

  pub sums_more : (c : ℕ) → SumsFit active l e f c → Small (low_of active (entry l (e + c)) (entry l (f + c))) → Small (high_of active (entry l (e + c)) (entry l (f + c)))
      → SumsFit active l e f (c + 1)
  sums_more c w x y = record { sum_fits = below_more _ c w.sum_fits x; difference_fits = below_more _ c w.difference_fits y }

  pub sums_to : {c d : ℕ} → SumsFit active l e f c → c ≤ d → d ≤ c → SumsFit active l e f d
  sums_to {c} {d} w a b = let q : c ≡ d = omega arith in rw q at w

-- ---- a run of entries and a later one that become what comes of them

pub summed_none : (active : Bool) (l : List ℤ) (e f : ℕ) → Summed active l l e f 0
summed_none active l e f =
    record { long = refl; sums = λ k b. absurd (omega arith); differences = λ k b. absurd (omega arith); other = λ k a b. refl }

module _ {active : Bool} {l l1 : List ℤ} {e f c len : ℕ} (w : Summed active l l1 e f c) (s : e + len ≤ f) (b : c < len) where
  -- the entries that come next are still as they were
  low_kept : entry l1 (e + c) ≡ entry l (e + c)
  low_kept = w.other (e + c) (λ i k q. omega arith) (λ i k q. omega arith)

  high_kept : entry l1 (f + c) ≡ entry l (f + c)
  high_kept = w.other (f + c) (λ i k q. omega arith) (λ i k q. omega arith)

  -- so what comes of them fits as it did at the start
  pub next_low : SumsFit active l e f len → Small (low_of active (entry l1 (e + c)) (entry l1 (f + c)))
  next_low p = rw (low_kept, high_kept) (p.sum_fits c b)

  pub next_high : SumsFit active l e f len → Small (high_of active (entry l1 (e + c)) (entry l1 (f + c)))
  next_high p = rw (low_kept, high_kept) (p.difference_fits c b)

  pub summed_more : {l2 l3 : List ℤ} {x y : Zω} → length l ≡ places → f + len ≤ 1024 → x ≡ low_of active (entry l1 (e + c)) (entry l1 (f + c))
      → y ≡ high_of active (entry l1 (e + c)) (entry l1 (f + c)) → l2 ≡ put l1 (e + c) x → l3 ≡ put l2 (f + c) y → Summed active l l3 e f (c + 1)
  summed_more {l2} {l3} {x} {y} n g ex ey p q = record {
    long = ap length q ∙ length_put l2 (f + c) y ∙ first ∙ w.long;
    sums =
        below_more _ c (λ k h. keep (e + k) (λ t. omega arith) (λ t. omega arith) ∙ w.sums k h)
        (second (e + c) (λ t. omega arith) ∙ ap (λ (m : List ℤ). entry m (e + c)) p ∙ entry_put_same l1 (e + c) x (omega (arith, w.long)) ∙ ex ∙ rw (low_kept, high_kept) refl);
    differences =
        below_more _ c (λ k h. keep (f + k) (λ t. omega arith) (λ t. omega arith) ∙ w.differences k h)
        (ap (λ (m : List ℤ). entry m (f + c)) q ∙ entry_put_same l2 (f + c) y (omega (arith, w.long, first)) ∙ ey ∙ rw (low_kept, high_kept) refl);
    other = λ k a o. keep k (a c (omega arith)) (o c (omega arith)) ∙ w.other k (λ i h. a i (omega arith)) (λ i h. o i (omega arith));
  }
    where
      first : length l2 ≡ length l1
      first = ap length p ∙ length_put l1 (e + c) x

      second : (k : ℕ) → (k ≡ f + c → ⊥) → entry l3 k ≡ entry l2 k
      second k h = ap (λ (m : List ℤ). entry m k) q ∙ entry_put_other l2 (f + c) y k h

      keep : (k : ℕ) → (k ≡ e + c → ⊥) → (k ≡ f + c → ⊥) → entry l3 k ≡ entry l1 k
      keep k a o = second k o ∙ ap (λ (m : List ℤ). entry m k) p ∙ entry_put_other l1 (e + c) x k a

pub summed_to : {active : Bool} {l l' : List ℤ} {e f c d : ℕ} → Summed active l l' e f c → c ≤ d → d ≤ c → Summed active l l' e f d
summed_to {c = c} {d = d} w a b = let q : c ≡ d = omega arith in rw q at w
