-- What unitarity bounds: the squares of the coefficients of each row sum to 2^k, so that lists of few gates fit at
-- every step, and an exponent past 65535 is never met (SPECIFICATION 3.4). Assumes nothing.
use mathlib.Core.Path.{◌≡◌, refl, sym, ap, ◌∙◌, subst}
use mathlib.Core.Bool.{Bool, true, false, ◌&&◌}
use mathlib.Core.List.{List, [], ◌∷◌}
use Prim.Native.Nat.{ℕ, zero, suc, ◌+◌, ◌*◌, ◌^◌, ◌≤◌, ◌<◌}
use native.Mathlib.Omega.{arith}
use native.Mathlib.Nat.{le_trans, lt_of_le_of_lt, mul-le-mul}
use native.Mathlib.Decide.{ℕ_discrete, dec_lt}
use lib.ListN.{length}
use lib.Pow.{pow_pos, pow_mono}
use borrow.Author.Tests.{le-leb}
use Rattle.ints.specs.Lists.{pick}
use Rattle.ints.proofs.Bools.{both_true}
use Rattle.ints.proofs.Int.{up}
use Rattle.cyclotomic.specs.Zomega.{Zω, mulω, over_sqrt2, squares, Small, WithinBound}
use Rattle.coefficients.specs.Coefficients.{limit}
use Rattle.cyclotomic.proofs.Squares.{small_of_squares, small_over}
use Rattle.exact.specs.Matrix.{Exact, all_divisible, lowered, lower, identity}
use Rattle.exact.specs.Rows.{Gate, phase, exchange, had, then, raw, act, gate_of}
use Rattle.exact.specs.Lists.{after, product}
use Rattle.exact.specs.Fits.{most_k, fitting_gates, all_fits, raw_within, step_fits, Steps, all_fit, unfit_at, next, steps_from, steps}
use Rattle.exact.proofs.Words.{AllWithin, AllSmall, Proper, Plain}
use Rattle.exact.specs.Unitary.{conj, inner, Unitary, total, RowLaw}
use Rattle.exact.proofs.Linear.{raise_most}
use Rattle.exact.proofs.Values.{pick_ind}
use Rattle.exact.proofs.Coded.{proper, AllPlain}
use Rattle.exact.proofs.Listed.{act_k, raw_k}
use Rattle.exact.proofs.Keeps.{step_fits_lem, fits_step, plain_each, plain_fits, act_then}
use Rattle.exact.proofs.Conj.{own_first, sum_first}
use Rattle.exact.proofs.Unitaries.{unitary_identity, unitary_raw, unitary_act, unitary_product, unitary_step}

-- ---- totals

total_least : (m : ℕ) (f : ℕ → ℕ) (c : ℕ) → c < m → f c ≤ total m f
total_least zero f c h = absurd (omega arith)
total_least (suc m) f c h = by (ℕ_discrete c m) (λ l. total_least m f c l)
  where
    by : Dec (c ≡ m) → (c < m → f c ≤ total m f) → f c ≤ total m f + f m
    by (yes e) u = omega (arith, ap f e)
    by (no n) u = let l = u (omega arith) in omega arith

total_most : (m b : ℕ) (f : ℕ → ℕ) → ((c : ℕ) → c < m → f c ≤ b) → total m f ≤ m * b
total_most zero b f h = omega arith
total_most (suc m) b f h =
    let t = total_most m b f (λ c l. h c (omega arith)) in
    omega (arith, h m (omega arith))

-- ---- squares of coefficients within a bound

within_squares : (b : ℕ) (z : Zω) → WithinBound b z → squares z ≤ 4 * (b * b)
unfolding squares
within_squares b z w =
    omega (
      arith,
      mul-le-mul w.a_small w.a_small,
      mul-le-mul w.b_small w.b_small,
      mul-le-mul w.c_small w.c_small,
      mul-le-mul w.d_small w.d_small,
    )

-- ---- the row law

module _ (n : ℕ) where
  pub row_law : {x : Exact} → Unitary n x → RowLaw n x
  unfolding inner
  row_law {x} u = record {
    sums = λ r h. ap up (sym (sum_first (2 ^ n) (λ c. mulω (x.e r c) (conj (x.e r c))) (λ c. squares (x.e r c)) (λ c l. own_first (x.e r c)))
        ∙ ap (λ (z : Zω). z.a) (u.own r h));
  }

  pub entry_bound : {x : Exact} → RowLaw n x → (r c : ℕ) → r < 2 ^ n → c < 2 ^ n → squares (x.e r c) ≤ 2 ^ x.k
  entry_bound {x} s r c p q = rw (s.sums r p) at (total_least (2 ^ n) (λ c. squares (x.e r c)) c q)

  -- every coefficient is within b where the row's sum is below (b + 1)²
  all_within : (b : ℕ) {x : Exact} → RowLaw n x → 2 ^ x.k < suc b * suc b → AllWithin n b x.e
  all_within b {x} s h = record { small = λ r c p q. small_of_squares b (x.e r c) (lt_of_le_of_lt (entry_bound s r c p q) h) }

-- the first step fits, and all the others do
both_fit : (b : Bool) (s : Steps) → pick b (next s) (unfit_at 0) ≡ all_fit → (b ≡ true) × (s ≡ all_fit)
both_fit true all_fit h = (refl, refl)
both_fit true (unfit_at i) h = let z : ◌≡◌ {A = ℕ} 0 1 = cc in absurd (omega arith)
both_fit false s h = let z : ◌≡◌ {A = ℕ} 0 1 = cc in absurd (omega arith)

module _ (n : ℕ) where
  -- ---- the exponent is small where the coefficients are
  pub exponent_most : (b : ℕ) {x : Exact} → Unitary n x → AllWithin n b x.e → 2 ^ x.k ≤ 2 ^ n * (4 * (b * b))
  exponent_most b {x} u w =
      rw ((row_law n u).sums 0 (pow_pos n)) at (total_most (2 ^ n) (4 * (b * b)) (λ c. squares (x.e 0 c))
      (λ c q. within_squares b (x.e 0 c) (w.small 0 c (pow_pos n) q)))

  pub exponent_below : (b m : ℕ) {x : Exact} → Unitary n x → AllWithin n b x.e → 2 ^ n * (4 * (b * b)) < 2 ^ m → x.k < m
  exponent_below b m {x} u w h = by (dec_lt x.k m)
    where
      by : Dec (x.k < m) → x.k < m
      by (yes l) = l
      by (no l) = let t : 2 ^ m ≤ 2 ^ x.k = pow_mono (omega arith) in absurd (omega (arith, exponent_most b u w))

  -- 32 · 4 · 32767² is below 2^37, and so below 2^40
  pub k_never : n ≤ 5 → {x : Exact} → Unitary n x → AllSmall n x.e → x.k < most_k
  k_never h u w =
      let t : 2 ^ n ≤ 2 ^ 5 = pow_mono h in
      let k = exponent_below limit 40 u w (omega arith) in
      omega arith

  -- ---- lowering keeps coefficients within the limit
  lowered_small : (k : ℕ) (e : ℕ → ℕ → Zω) → AllSmall n e → AllSmall n (lowered n k e).e
  lowered_small zero e w = w
  lowered_small (suc k) e w =
      pick_ind (λ (z : Exact). AllSmall n z.e) (all_divisible n e)
      (λ h. lowered_small k (λ r c. over_sqrt2 (e r c)) (record { small = λ r c p q. small_over (e r c) (w.small r c p q) })) (λ h. w)

  pub lower_small : (x : Exact) → AllSmall n x.e → AllSmall n (lower n x).e
  unfolding lower
  lower_small x w = lowered_small x.k x.e w

  -- a step that fits leaves coefficients within the limit
  pub fits_act : (g : Gate) (x : Exact) → Proper n g → step_fits n g x ≡ true → AllSmall n (act n g x).e
  unfolding step_fits
  fits_act (phase ks p) x pr h = lower_small _ (fits_step n (phase ks p) tt x h)
  fits_act (exchange ks k) x pr h = lower_small _ (fits_step n (exchange ks k) tt x h)
  fits_act (had ks k) x pr h = lower_small _ (fits_step n (had ks k) tt x h)
  fits_act (then f g) x pr h =
      let w = fits_act g (act n f x) pr.1 (both_true (step_fits n f x) (step_fits n g (act n f x)) h).1 in
      record { small = λ r c p q. subst Small ((act_then n f g x pr.1).entries r c p q) (w.small r c p q) }

  -- and so the exponent never decides whether a step fits
  plain_decide : n ≤ 5 → {x : Exact} → Unitary n x → AllSmall n x.e → (g : Gate) → Plain g → step_fits n g x ≡ raw_within n g x
  plain_decide h {x} u w g t =
      let k = k_never h u w in
      let r = raise_most g t x.k in
      plain_fits n g t x ∙ rw (le-leb (raw g x).k most_k (omega arith)) (sym (plain_each n (all_fits n) g t x))

  pub coefficients_decide : n ≤ 5 → {x : Exact} → Unitary n x → AllSmall n x.e → (g : Gate) → Proper n g → step_fits n g x ≡ raw_within n g x
  unfolding step_fits
  coefficients_decide h u w (phase ks p) pr = plain_decide h u w (phase ks p) tt
  coefficients_decide h u w (exchange ks k) pr = plain_decide h u w (exchange ks k) tt
  coefficients_decide h u w (had ks k) pr = plain_decide h u w (had ks k) tt
  coefficients_decide h {x = x} u w (then f g) pr =
      by (step_fits n f x) refl (coefficients_decide h u w f pr.0) (λ e. coefficients_decide h {x = act n f x} (unitary_act n f pr.0 u) (fits_act f x pr.0 e) g pr.1)
    where
      by : (b : Bool) → step_fits n f x ≡ b → step_fits n f x ≡ raw_within n f x → (step_fits n f x ≡ true → step_fits n g (act n f x) ≡ raw_within n g (act n f x))
          → (step_fits n f x && step_fits n g (act n f x)) ≡ (raw_within n f x && raw_within n g (act n f x))
      by true e q v = λ i. q i && v e i
      by false e q v = ap (λ (b : Bool). b && step_fits n g (act n f x)) e ∙ sym (ap (λ (b : Bool). b && raw_within n g (act n f x)) (sym q ∙ e))

  -- ---- lists that fit at every step
  after_small : (l : List ℕ) (x : Exact) → AllSmall n x.e → steps_from n x l ≡ all_fit → AllSmall n (after n x l).e
  after_small [] x w h = w
  after_small (g ∷ l) x w h =
      let t = both_fit (step_fits n (gate_of n g) x) (steps_from n (act n (gate_of n g) x) l) h in
      after_small l (act n (gate_of n g) x) (fits_act (gate_of n g) x (proper n g) t.0) t.1

  pub product_small : (l : List ℕ) → steps n l ≡ all_fit → AllSmall n (product n l).e
  unfolding steps product
  product_small l h = after_small l identity (all_within n limit (row_law n (unitary_identity n)) (omega arith)) h

-- ---- lists of few gates

-- the most gates for which 2^G is below (limit + 1)²
pub fitting_gates_lem : (2 ^ fitting_gates < suc limit * suc limit) × (suc limit * suc limit ≤ 2 ^ suc fitting_gates)
fitting_gates_lem = (omega arith, omega arith)

module _ (n : ℕ) where
  -- each row's squares sum to 2^k in every product, and before the lowering of a further gate
  pub row_product : (l : List ℕ) → RowLaw n (product n l)
  row_product l = row_law n (unitary_product n l)

  pub row_step : (g : ℕ) (l : List ℕ) → RowLaw n (raw (gate_of n g) (product n l))
  row_step g l = row_law n (unitary_step n g l)

  -- Where 2^G is below (limit + 1)², lists of at most G gates fit, each of the gates one row operation, as those of a
  -- basis are (`basis_plain`). Sx is several, and raises the exponent twice before its last lowering: of lists with it
  -- this is not claimed
  module _ (G : ℕ) (s : 2 ^ G < suc limit * suc limit) (m : G ≤ most_k) where
    -- one gate more
    next_fits : (g : ℕ) → Plain (gate_of n g) → (l : List ℕ) → AllPlain n l → length l < G → step_fits n (gate_of n g) (product n l) ≡ true
    next_fits g t l a h =
        let k : (raw (gate_of n g) (product n l)).k ≤ G = le_trans (raw_k n (gate_of n g) t l a) h in
        step_fits_lem n (gate_of n g) t (product n l) (all_within n limit (row_step g l) (lt_of_le_of_lt (pow_mono k) s)) (le_trans k m)

    -- every step of a list
    steps_from_lem : (l : List ℕ) → AllPlain n l → {x : Exact} → Unitary n x → x.k + length l ≤ G → steps_from n x l ≡ all_fit
    steps_from_lem [] a u h = refl
    steps_from_lem (g ∷ l) a {x} u h =
        let r = raise_most (gate_of n g) a.0 x.k in
        let q = act_k n (gate_of n g) a.0 x in
        let k : (raw (gate_of n g) x).k ≤ G = omega arith in
        let w = all_within n limit (row_law n (unitary_raw n (gate_of n g) (proper n g) u)) (lt_of_le_of_lt (pow_mono k) s) in
        rw (step_fits_lem n (gate_of n g) a.0 x w (le_trans k m)) (ap next (steps_from_lem l a.1 (unitary_act n (gate_of n g) (proper n g) u) (omega arith)))

    all_steps : (l : List ℕ) → AllPlain n l → length l ≤ G → steps n l ≡ all_fit
    unfolding steps
    all_steps l a h = steps_from_lem l a (unitary_identity n) (omega arith)

  pub candidate_fits : (g : ℕ) → Plain (gate_of n g) → (l : List ℕ) → AllPlain n l → length l < fitting_gates → step_fits n (gate_of n g) (product n l) ≡ true
  candidate_fits = next_fits fitting_gates fitting_gates_lem.0 (omega arith)

  pub list_fits : (l : List ℕ) → AllPlain n l → length l ≤ fitting_gates → steps n l ≡ all_fit
  list_fits = all_steps fitting_gates fitting_gates_lem.0 (omega arith)

  -- after steps that fit, from the identity on, the exponent never decides: a step that fits by its coefficients fits
  -- (SPECIFICATION 3.4)
  pub k_never_met : n ≤ 5 → (l : List ℕ) → steps n l ≡ all_fit → (g : ℕ) → step_fits n (gate_of n g) (product n l) ≡ raw_within n (gate_of n g) (product n l)
  k_never_met h l e g = coefficients_decide n h (unitary_product n l) (product_small n l e) (gate_of n g) (proper n g)
