-- What turns and exchanges keep: the lowest denominator and small coefficients, so that of all row operations only H,
-- with controls or without, can fail to fit. Whether a step fits, and what it gives, is one for equal matrices. Assumes
-- nothing.
use mathlib.Core.Path.{◌≡◌, refl, sym, ap, ◌∙◌}
use mathlib.Core.Bool.{Bool, true, false, ◌&&◌}
use mathlib.Core.List.{List}
use Prim.Native.Nat.{ℕ, ◌^◌, ◌≤◌, ◌<◌}
use native.Mathlib.Omega.{arith}
use lib.Dec.{leb}
use borrow.Author.Tests.{le-leb, lt-leb}
use Rattle.ints.specs.Lists.{pick}
use Rattle.ints.proofs.Bools.{clash, both_true, and_both, iff}
use Rattle.cyclotomic.specs.Zomega.{Zω, turn, divisible, fits, Small}
use Rattle.cyclotomic.proofs.Division.{divisible_turn}
use Rattle.cyclotomic.proofs.Squares.{small_turn}
use Rattle.cyclotomic.proofs.Answers.{small_fits, fits_small}
use Rattle.exact.specs.Matrix.{Exact, all_entries, all_divisible, Lowest}
use Rattle.exact.proofs.Words.{Equal, Proper, Plain, exchanges, AllSmall, made}
use Rattle.exact.specs.Rows.{ones, Gate, phase, exchange, had, then, column, raise, raw, act}
use Rattle.exact.specs.Fits.{most_k, all_fits, each_raw, step_fits}
use Rattle.exact.proofs.Flips.{moved, moved_lt}
use Rattle.exact.proofs.Values.{pick_ind, entries_to, entries_from, divisible_to, divisible_from, sqrt2s_cancel, equal_same, lower_stays, lower_unique, same_sym}
use Rattle.exact.proofs.Linear.{column_cong, raw_back, raw_same}
use Rattle.exact.proofs.Acts.{act_equal, act_value}

-- a test that implies one that fails
fails_too : (s t : Bool) → (t ≡ true → s ≡ true) → s ≡ false → t ≡ false
fails_too s true f h = clash (f refl) h
fails_too s false f h = refl

module _ (n : ℕ) where
  -- ---- what holds of every entry
  abbrev Every : (Zω → Type 0) → Exact → Type 0
  Every P x = (r c : ℕ) → r < 2 ^ n → c < 2 ^ n → P (x.e r c)

  phase_every : (P : Zω → Type 0) (ks : List ℕ) (p : ℕ) (x : Exact) → ((z : Zω) → P z → P (turn p z)) → Every P x → Every P (raw (phase ks p) x)
  unfolding column
  phase_every P ks p x f w r c i j = pick_ind P (ones ks r) (λ e. f (x.e r c) (w r c i j)) (λ e. w r c i j)

  phase_every_back : (P : Zω → Type 0) (ks : List ℕ) (p : ℕ) (x : Exact) → ((z : Zω) → P (turn p z) → P z) → Every P (raw (phase ks p) x) → Every P x
  unfolding column
  phase_every_back P ks p x f w r c i j = by (ones ks r) (w r c i j)
    where
      by : (b : Bool) → P (pick b (turn p (x.e r c)) (x.e r c)) → P (x.e r c)
      by true h = f (x.e r c) h
      by false h = h

  exchange_every : (P : Zω → Type 0) (ks : List ℕ) (k : ℕ) (x : Exact) → Proper n (exchange ks k) → Every P x → Every P (raw (exchange ks k) x)
  unfolding column
  exchange_every P ks k x pr w r c i j =
      w (moved ks k r) c (moved_lt ks k n pr.0 r i) j

  -- an exchange undoes itself
  exchange_twice : (ks : List ℕ) (k : ℕ) (x : Exact) → Proper n (exchange ks k) → (r c : ℕ) → r < 2 ^ n → c < 2 ^ n
      → (raw (exchange ks k) (raw (exchange ks k) x)).e r c ≡ x.e r c
  exchange_twice ks k x pr r c i j = sqrt2s_cancel x.k _ _ ((raw_back n x (exchanges pr.2)).at r c i j)

  -- ---- the lowest denominator
  divisible_back : (x y : Exact) → (Every (λ z. divisible z ≡ true) y → Every (λ z. divisible z ≡ true) x)
      → all_divisible n x.e ≡ false → all_divisible n y.e ≡ false
  divisible_back x y f = fails_too (all_divisible n x.e) (all_divisible n y.e) (λ h. divisible_from n x.e (f (divisible_to n y.e h)))

  pub phase_lowest : (ks : List ℕ) (p : ℕ) {x : Exact} → Lowest n x → Lowest n (raw (phase ks p) x)
  phase_lowest ks p {x} l = record {
    lowest = λ h. divisible_back x (raw (phase ks p) x)
        (phase_every_back (λ z. divisible z ≡ true) ks p x (λ z d. sym (divisible_turn p z) ∙ d)) (l.lowest h);
  }

  pub exchange_lowest : (ks : List ℕ) (k : ℕ) {x : Exact} → Proper n (exchange ks k) → Lowest n x → Lowest n (raw (exchange ks k) x)
  exchange_lowest ks k {x} pr l = record {
    lowest = λ h. divisible_back x (raw (exchange ks k) x)
        (λ w r c i j. ap divisible (sym (exchange_twice ks k x pr r c i j))
        ∙ exchange_every (λ z. divisible z ≡ true) ks k (raw (exchange ks k) x) pr w r c i j) (l.lowest h);
  }

  -- nothing is to lower after them
  pub phase_act : (ks : List ℕ) (p : ℕ) {x : Exact} → Lowest n x → Equal n (act n (phase ks p) x) (raw (phase ks p) x)
  phase_act ks p l = lower_stays n (phase_lowest ks p l)

  pub exchange_act : (ks : List ℕ) (k : ℕ) {x : Exact} → Proper n (exchange ks k) → Lowest n x → Equal n (act n (exchange ks k) x) (raw (exchange ks k) x)
  exchange_act ks k pr l = lower_stays n (exchange_lowest ks k pr l)

  -- ---- small coefficients
  pub phase_small : (ks : List ℕ) (p : ℕ) (x : Exact) → AllSmall n x.e → AllSmall n (raw (phase ks p) x).e
  phase_small ks p x w = record { small = phase_every Small ks p x (small_turn p) w.small }

  pub exchange_small : (ks : List ℕ) (k : ℕ) (x : Exact) → Proper n (exchange ks k) → AllSmall n x.e → AllSmall n (raw (exchange ks k) x).e
  exchange_small ks k x pr w = record { small = exchange_every Small ks k x pr w.small }

  -- ---- what fits: a step whose coefficients are within the limit, at an exponent of at most 65535
  pub plain_each : (test : Exact → Bool) (g : Gate) → Plain g → (x : Exact) → each_raw n test g x ≡ test (raw g x)
  plain_each test (phase ks p) t x = refl
  plain_each test (exchange ks k) t x = refl
  plain_each test (had ks k) t x = refl
  plain_each test (then g h) t x = absurd t

  pub plain_fits : (g : Gate) → Plain g → (x : Exact) → step_fits n g x ≡ (leb (raw g x).k most_k && all_fits n (raw g x))
  unfolding step_fits
  plain_fits g t x = plain_each (λ y. leb y.k most_k && all_fits n y) g t x

  pub step_fits_lem : (g : Gate) → Plain g → (x : Exact) → AllSmall n (raw g x).e → (raw g x).k ≤ most_k → step_fits n g x ≡ true
  step_fits_lem g t x w h =
      plain_fits g t x
      ∙ and_both (leb (raw g x).k most_k) (all_fits n (raw g x)) (le-leb (raw g x).k most_k h)
      (entries_from n (λ r c. fits ((raw g x).e r c)) (λ r c i j. small_fits ((raw g x).e r c) (w.small r c i j)))

  pub within_small : (g : Gate) (x : Exact) → all_fits n (raw g x) ≡ true → AllSmall n (raw g x).e
  within_small g x h = record { small = λ r c p q. fits_small ((raw g x).e r c) (entries_to n (λ r c. fits ((raw g x).e r c)) h r c p q) }

  pub fits_step : (g : Gate) → Plain g → (x : Exact) → step_fits n g x ≡ true → AllSmall n (raw g x).e
  fits_step g t x h = within_small g x (both_true (leb (raw g x).k most_k) (all_fits n (raw g x)) (sym (plain_fits g t x) ∙ h)).1

  pub phase_step_fits : (ks : List ℕ) (p : ℕ) (x : Exact) → AllSmall n x.e → x.k ≤ most_k → step_fits n (phase ks p) x ≡ true
  phase_step_fits ks p x w h = step_fits_lem (phase ks p) tt x (phase_small ks p x w) h

  pub exchange_step_fits : (ks : List ℕ) (k : ℕ) (x : Exact) → Proper n (exchange ks k) → AllSmall n x.e → x.k ≤ most_k → step_fits n (exchange ks k) x ≡ true
  exchange_step_fits ks k x pr w h = step_fits_lem (exchange ks k) tt x (exchange_small ks k x pr w) h

  -- of H and Ch the coefficients decide, and at the largest exponent it does not fit
  pub had_step : (ks : List ℕ) (t : ℕ) (x : Exact) → x.k < most_k → step_fits n (had ks t) x ≡ all_entries n (λ r c. fits ((raw (had ks t) x).e r c))
  unfolding step_fits
  had_step ks t x h = rw (le-leb (raw (had ks t) x).k most_k h)

  pub had_step_k : (ks : List ℕ) (t : ℕ) (x : Exact) → most_k ≤ x.k → step_fits n (had ks t) x ≡ false
  unfolding step_fits
  had_step_k ks t x h = rw (lt-leb (raw (had ks t) x).k most_k (omega arith))

  -- ---- one after the other: lowering between them does not matter
  pub act_then : (g h : Gate) (x : Exact) → Proper n h → Equal n (act n h (act n g x)) (act n (then g h) x)
  unfolding column
  act_then g h x pr = lower_unique n (same_sym n (raw_same n h pr (act_value n g x)))

  -- ---- equal matrices
  entries_same : (f g : ℕ → ℕ → Bool) → ((r c : ℕ) → r < 2 ^ n → c < 2 ^ n → f r c ≡ g r c) → all_entries n f ≡ all_entries n g
  entries_same f g e =
      iff (all_entries n f) (all_entries n g)
      (λ h. entries_from n g (λ r c i j. sym (e r c i j) ∙ entries_to n f h r c i j))
      (λ h. entries_from n f (λ r c i j. e r c i j ∙ entries_to n g h r c i j))

  pub act_equal' : (g : Gate) {x y : Exact} → Equal n x y → Proper n g → Equal n (act n g x) (act n g y)
  act_equal' g s pr = act_equal n g pr (equal_same n s)

  plain_equal : (g : Gate) → Plain g → {x y : Exact} → Equal n x y → Proper n g → step_fits n g x ≡ step_fits n g y
  plain_equal g t {x} {y} s pr =
      plain_fits g t x
      ∙ (λ i. leb (raise g (s.exponent i)) most_k && entries_same (λ r c. fits ((raw g x).e r c)) (λ r c. fits ((raw g y).e r c)) same i)
      ∙ sym (plain_fits g t y)
    where
      same : (r c : ℕ) → r < 2 ^ n → c < 2 ^ n → fits ((raw g x).e r c) ≡ fits ((raw g y).e r c)
      same r c i j = ap fits (column_cong n g (λ t. x.e t c) (λ t. y.e t c) pr (λ t q. s.entries t c q j) r i)

  pub step_equal : (g : Gate) {x y : Exact} → Equal n x y → Proper n g → step_fits n g x ≡ step_fits n g y
  unfolding step_fits
  step_equal (phase ks p) s pr = plain_equal (phase ks p) tt s pr
  step_equal (exchange ks k) s pr = plain_equal (exchange ks k) tt s pr
  step_equal (had ks k) s pr = plain_equal (had ks k) tt s pr
  step_equal (then g h) s pr = λ i. step_equal g s pr.0 i && step_equal h (act_equal' g s pr.0) pr.1 i

  pub equal_lowest : {x y : Exact} → Equal n x y → Lowest n x → Lowest n y
  equal_lowest {x} {y} s l = record {
    lowest = λ h. divisible_back x y (λ w r c i j. ap divisible (s.entries r c i j) ∙ w r c i j) (l.lowest (rw s.exponent h));
  }

  -- equal matrices are left equal where a gate does not fit
  pub made_equal : (g : Gate) → {x y : Exact} → Equal n x y → Proper n g → Equal n (made n g x) (made n g y)
  made_equal (phase ks p) s pr = s
  made_equal (exchange ks k) s pr = s
  made_equal (had ks k) s pr = s
  made_equal (then g h) {x} {y} s pr =
      by (step_fits n g x) (step_fits n g y) (step_equal g s pr.0) (made_equal h (act_equal' g s pr.0) pr.1) (made_equal g s pr.0)
    where
      by : {a b c d : Exact} (t u : Bool) → t ≡ u → Equal n a b → Equal n c d → Equal n (pick t a c) (pick u b d)
      by true true e p q = p
      by true false e p q = clash refl e
      by false true e p q = clash refl (sym e)
      by false false e p q = q
