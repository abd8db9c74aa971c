-- Laws of lists as loops make them: numbers that rise one by one, what a function gives for each of them, stores of a
-- list from a place on, and runs of rising numbers. Assumes nothing.
use mathlib.Core.Path.{◌≡◌, refl, ap, ◌∙◌}
use mathlib.Core.Logic.{⊎_elim}
use mathlib.Core.List.Memᴰ
use mathlib.Core.List.{List, [], ◌∷◌, ◌++◌, append-nil, append_assoc, Memᴰ}
use Prim.Native.Nat.{ℕ, zero, suc, ◌+◌, ◌*◌, ◌≤◌, ◌<◌}
use native.Mathlib.Omega.{arith}
use native.Mathlib.Nat.{add-zero, add-suc, suc-add}
use native.Mathlib.Numerals.{add-one}
use native.Mathlib.Decide.{ℕ_discrete}
use lib.ListN.{length, set, length-append}
use lib.Seq.{sets}
use Rattle.ints.specs.Lists.{range, each, Run}

-- ---- one number more

pub range_snoc : (i m : ℕ) → range i (suc m) ≡ range i m ++ ((i + m) ∷ [])
unfolding range
range_snoc i zero = ap (λ (k : ℕ). k ∷ []) (omega arith)
range_snoc i (suc m) = ap (λ (l : List ℕ). i ∷ l) (range_snoc (suc i) m ∙ ap (λ (k : ℕ). range (suc i) m ++ (k ∷ [])) (omega arith))

pub each_append : (xs ys : List ℕ) (f : ℕ → List ℕ) → each (xs ++ ys) f ≡ each xs f ++ each ys f
unfolding each
each_append [] ys f = refl
each_append (x ∷ xs) ys f = rw (each_append xs ys f, append_assoc)

pub each_none : (f : ℕ → List ℕ) → each (range 0 0) f ≡ []
unfolding each range
each_none f = refl

pub each_snoc : (i : ℕ) (f : ℕ → List ℕ) → each (range 0 (suc i)) f ≡ each (range 0 i) f ++ f i
unfolding each
each_snoc i f =
    let e : 0 + i ≡ i = omega arith in
    ap (λ (l : List ℕ). each l f) (range_snoc 0 i) ∙ (each_append (range 0 i) ((0 + i) ∷ []) f ∙ rw (e, append-nil))

-- the same at the code's i + 1
pub each_more : (i : ℕ) (f : ℕ → List ℕ) → each (range 0 (i + 1)) f ≡ each (range 0 i) f ++ f i
each_more i f = rw add-one (each_snoc i f)

-- ---- lengths

each_snoc_length : (i : ℕ) (f : ℕ → List ℕ) → length (each (range 0 (suc i)) f) ≡ length (each (range 0 i) f) + length (f i)
each_snoc_length i f = ap length (each_snoc i f) ∙ length-append (each (range 0 i) f) (f i)

pub each_prefix_length : (i n : ℕ) (f : ℕ → List ℕ) → i < n → length (each (range 0 i) f) + length (f i) ≤ length (each (range 0 n) f)
each_prefix_length i zero f h = absurd (omega arith)
each_prefix_length i (suc n) f h = by (ℕ_discrete i n) (λ h. each_prefix_length i n f h)
  where
    by : Dec (i ≡ n) → (i < n → length (each (range 0 i) f) + length (f i) ≤ length (each (range 0 n) f)) → length (each (range 0 i) f) + length (f i) ≤ length (each (range 0 (suc n)) f)
    by (yes e) u = rw (← e) (omega (arith, each_snoc_length i f))
    by (no e) u = omega (arith, each_snoc_length n f, u (omega arith))

pub each_length_le : (xs : List ℕ) (f g : ℕ → List ℕ) → ((i : ℕ) → length (f i) ≤ length (g i)) → length (each xs f) ≤ length (each xs g)
unfolding each
each_length_le [] f g h = omega arith
each_length_le (x ∷ xs) f g h = simp length-append (omega (arith, h x, each_length_le xs f g h))

-- ---- stores

pub sets-append {ℓ} : {A : Type ℓ} (l : List A) (i : ℕ) (xs ys : List A) → sets l i (xs ++ ys) ≡ sets (sets l i xs) (i + length xs) ys
sets-append l i [] ys = rw add-zero
sets-append l i (x ∷ xs) ys = rw (add-suc, ← suc-add) (sets-append (set l i x) (suc i) xs ys)

-- ---- runs of rising numbers

pub run_from : (lo mid hi : ℕ) (xs : List ℕ) → lo ≤ mid → Run mid hi xs → Run lo hi xs
run_from lo mid hi [] h r = omega arith
run_from lo mid hi (x ∷ xs) h r = (omega arith, r.1)

pub run_to : (lo mid hi : ℕ) (xs : List ℕ) → mid ≤ hi → Run lo mid xs → Run lo hi xs
run_to lo mid hi [] h r = omega arith
run_to lo mid hi (x ∷ xs) h r = (r.0, run_to (suc x) mid hi xs h r.1)

pub run_append : (lo mid hi : ℕ) (xs ys : List ℕ) → Run lo mid xs → Run mid hi ys → Run lo hi (xs ++ ys)
run_append lo mid hi [] ys p q = run_from lo mid hi ys p q
run_append lo mid hi (x ∷ xs) ys p q = (p.0, run_append (suc x) mid hi xs ys p.1 q)

-- what each number gives lies in its own s places, so all of it rises
pub run_each : (lo s n : ℕ) (f : ℕ → List ℕ) → ((i : ℕ) → i < n → Run (lo + i * s) (lo + i * s + s) (f i)) → Run lo (lo + n * s) (each (range 0 n) f)
run_each lo s zero f h = rw each_none (omega arith)
run_each lo s (suc n) f h =
    let e : lo + suc n * s ≡ lo + n * s + s = omega arith in
    rw (each_snoc, e) (run_append lo (lo + n * s) (lo + n * s + s) (each (range 0 n) f) (f n) (run_each lo s n f (λ i l. h i (omega arith))) (h n (omega arith)))

-- ---- members

pub range_in : (m i g : ℕ) → i ≤ g → g < i + m → Memᴰ g (range i m)
unfolding range
range_in zero i g p q = absurd (omega arith)
range_in (suc m) i g p q = by (ℕ_discrete g i) (λ h. range_in m (suc i) g h (omega arith))
  where
    by : Dec (g ≡ i) → (suc i ≤ g → Memᴰ g (range (suc i) m)) → Memᴰ g (i ∷ range (suc i) m)
    by (yes e) u = Memᴰ.head e
    by (no e) u = Memᴰ.tail (u (omega arith))

pub each_in : (xs : List ℕ) (f : ℕ → List ℕ) (x g : ℕ) → Memᴰ x xs → Memᴰ g (f x) → Memᴰ g (each xs f)
unfolding each
each_in [] f x g m h = absurd (Memᴰ.not-nil m)
each_in (y ∷ ys) f x g m h =
    ⊎_elim
    (λ (q : x ≡ y). Memᴰ.append_left (each ys f) (rw q at h))
    (λ t. Memᴰ.append_right (f y) (each_in ys f x g t h))
    (Memᴰ.cases_cons m)

pub each_mem : (xs : List ℕ) (f : ℕ → List ℕ) (g : ℕ) → Memᴰ g (each xs f) → (x : ℕ) × Memᴰ x xs × Memᴰ g (f x)
unfolding each
each_mem [] f g m = absurd (Memᴰ.not-nil m)
each_mem (y ∷ ys) f g m =
    ⊎_elim
    (λ h. (y, Memᴰ.head refl, h))
    (λ t. let r = each_mem ys f g t in (r.0, Memᴰ.tail r.1, r.2))
    (Memᴰ.append_cases (f y) m)
