-- `Unitary` is kept by every row operation, by lowering and by powers of omega, and it belongs to the value: so every
-- product of gates is unitary, and every matrix that is a power of omega times a product. Assumes nothing.
use mathlib.Core.Path.{◌≡◌, refl, sym, ap, ◌∙◌}
use mathlib.Core.Bool.{Bool, true, false, not}
use mathlib.Core.List.{List, [], ◌∷◌}
use Prim.Native.Nat.{ℕ, zero, suc, ◌+◌, ◌*◌, ◌^◌, ◌<◌}
use native.Mathlib.Omega.{arith}
use native.Mathlib.Nat.{pow-suc}
use native.Mathlib.Decide.{ℕ_discrete}
use lib.Dec.{eqb}
use borrow.Author.Tests.{eqb-true, eq-eqb, ne_eqb}
use Rattle.ints.specs.Bits.{bit}
use Rattle.ints.specs.Lists.{pick}
use Rattle.ints.proofs.Bools.{iff, clash}
use Rattle.cyclotomic.specs.Zomega.{Zω, zeroω, oneω, addω, subω, mulω, turn, sqrt2}
use Rattle.cyclotomic.proofs.Four.{Four, same4, zero_e, add_e, turn_e, sqrt2_e, X, of1}
use Rattle.cyclotomic.proofs.Sums.{add_comm, add_zero}
use Rattle.cyclotomic.proofs.Turns.{turn_none, turn_zero, sub_is}
use Rattle.cyclotomic.proofs.Division.{sqrt2_zero, sqrt2_sqrt2}
use Rattle.cyclotomic.proofs.Product.{mul_zero, mul_one, mul_add, add_mul}
use Rattle.exact.specs.Matrix.{Exact, sqrt2s, SameValue, lower, identity, turned, PowerOf}
use Rattle.exact.specs.Rows.{flip, ones, Gate, phase, exchange, had, then, column, raw, act, gate_of}
use Rattle.exact.proofs.Words.{Lacks, Proper}
use Rattle.exact.specs.Lists.{after, product}
use Rattle.exact.specs.Paper.{sumω}
use Rattle.exact.specs.Unitary.{conj, inner, natω, Unitary}
use Rattle.exact.proofs.Flips.{bit_own, bit_differs, moved, moved_back, moved_lt, moved_ones, moved_on, moved_off}
use Rattle.exact.proofs.Values.{sqrt2s_sqrt2, sqrt2s_comm, sqrt2s_cancel, sqrt2s_add, lower_same}
use Rattle.exact.proofs.Acts.{power_sym}
use Rattle.exact.proofs.Coded.{proper}
use Rattle.exact.proofs.Conj.{conj_add, conj_zero, conj_one, turn_conj, turn_whole, sqrt2_conj, sum_same, sum_add, sum_turn, sum_sqrt2}
use Rattle.exact.proofs.Terms.{sum_one}

-- ---- one row with the conjugate of another, over m columns

abbrev terms : (ℕ → Zω) → (ℕ → Zω) → ℕ → Zω
terms u v c = mulω (u c) (conj (v c))

abbrev pair : ℕ → (ℕ → Zω) → (ℕ → Zω) → Zω
pair m u v = sumω m (terms u v)

module _ (m : ℕ) where
  pair_same : {u v w z : ℕ → Zω} → ((c : ℕ) → c < m → u c ≡ w c) → ((c : ℕ) → c < m → v c ≡ z c) → pair m u v ≡ pair m w z
  pair_same {u} {v} {w} {z} p q = sum_same m (terms u v) (terms w z) (λ c l i. mulω (p c l i) (conj (q c l i)))

  pair_turn : (p q : ℕ) (u v : ℕ → Zω) → pair m (λ c. turn p (u c)) (λ c. turn q (v c)) ≡ turn (p + 7 * q) (pair m u v)
  pair_turn p q u v =
      sum_same m (terms (λ c. turn p (u c)) (λ c. turn q (v c))) (λ c. turn (p + 7 * q) (terms u v c)) (λ c l. turn_conj p q (u c) (v c))
      ∙ sum_turn (p + 7 * q) m (terms u v)

  pair_sqrt2 : (u v : ℕ → Zω) → pair m (λ c. sqrt2 (u c)) (λ c. sqrt2 (v c)) ≡ sqrt2 (sqrt2 (pair m u v))
  pair_sqrt2 u v =
      sum_same m (terms (λ c. sqrt2 (u c)) (λ c. sqrt2 (v c))) (λ c. sqrt2 (sqrt2 (terms u v c))) (λ c l. sqrt2_conj (u c) (v c))
      ∙ sum_sqrt2 m (λ c. sqrt2 (terms u v c)) ∙ ap sqrt2 (sum_sqrt2 m (terms u v))

  pair_sqrt2s : (k : ℕ) (u v : ℕ → Zω) → pair m (λ c. sqrt2s k (u c)) (λ c. sqrt2s k (v c)) ≡ sqrt2s (k + k) (pair m u v)
  pair_sqrt2s k u v = go k ∙ sym (sqrt2s_add k k (pair m u v))
    where
      go : (k : ℕ) → pair m (λ c. sqrt2s k (u c)) (λ c. sqrt2s k (v c)) ≡ sqrt2s k (sqrt2s k (pair m u v))
      go zero = refl
      go (suc k) =
          pair_sqrt2 (λ c. sqrt2s k (u c)) (λ c. sqrt2s k (v c))
          ∙ ap sqrt2 (ap sqrt2 (go k) ∙ sym (sqrt2s_sqrt2 k (sqrt2s k (pair m u v))))

  pair_four : (u v w z : ℕ → Zω) → pair m (λ c. addω (u c) (v c)) (λ c. addω (w c) (z c))
      ≡ addω (addω (pair m u w) (pair m v w)) (addω (pair m u z) (pair m v z))
  pair_four u v w z =
      sum_same m (terms (λ c. addω (u c) (v c)) (λ c. addω (w c) (z c)))
      (λ c. addω (addω (terms u w c) (terms v w c)) (addω (terms u z c) (terms v z c)))
      (λ c l. one (u c) (v c) (w c) (z c))
      ∙ sum_add m (λ c. addω (terms u w c) (terms v w c)) (λ c. addω (terms u z c) (terms v z c))
      ∙ (λ i. addω (sum_add m (terms u w) (terms v w) i) (sum_add m (terms u z) (terms v z) i))
    where
      one : (u v w z : Zω) → mulω (addω u v) (conj (addω w z))
          ≡ addω (addω (mulω u (conj w)) (mulω v (conj w))) (addω (mulω u (conj z)) (mulω v (conj z)))
      one u v w z =
          ap (mulω (addω u v)) (conj_add w z) ∙ mul_add (addω u v) (conj w) (conj z)
          ∙ (λ i. addω (add_mul u v (conj w) i) (add_mul u v (conj z) i))

-- ---- 2^k for one row with itself, 0 for two

abbrev delta : ℕ → ℕ → ℕ → Zω
delta k i j = pick (eqb i j) (natω (2 ^ k)) zeroω

delta_other : (k i j : ℕ) → (i ≡ j → ⊥) → delta k i j ≡ zeroω
delta_other k i j h = rw (ne_eqb i j h)

delta_own : (k i : ℕ) → delta k i i ≡ natω (2 ^ k)
delta_own k i = rw (eq-eqb i i refl)

nat_double : (k : ℕ) → natω (2 ^ suc k) ≡ addω (natω (2 ^ k)) (natω (2 ^ k))
unfolding addω
nat_double k = let e : 2 ^ suc k ≡ 2 ^ k + 2 ^ k = omega (arith, pow-suc 2 k) in ap natω e

delta_double : (k i j : ℕ) → delta (suc k) i j ≡ addω (delta k i j) (delta k i j)
delta_double k i j = go (eqb i j)
  where
    go : (b : Bool) → pick b (natω (2 ^ suc k)) zeroω ≡ addω (pick b (natω (2 ^ k)) zeroω) (pick b (natω (2 ^ k)) zeroω)
    go true = nat_double k
    go false = sym sqrt2_zero ∙ ap sqrt2 (sym sqrt2_zero) ∙ sqrt2_sqrt2 zeroω

delta_sqrt2s : (k i j : ℕ) → delta k i j ≡ sqrt2s (k + k) (delta 0 i j)
delta_sqrt2s k i j = go k ∙ sym (sqrt2s_add k k (delta 0 i j))
  where
    go : (k : ℕ) → delta k i j ≡ sqrt2s k (sqrt2s k (delta 0 i j))
    go zero = refl
    go (suc k) =
        delta_double k i j ∙ sym (sqrt2_sqrt2 (delta k i j))
        ∙ ap sqrt2 (ap sqrt2 (go k) ∙ sym (sqrt2s_sqrt2 k (sqrt2s k (delta 0 i j))))

-- the powers of omega of two rows cancel
delta_turn : (f : ℕ → ℕ) (k i j : ℕ) → turn (f i + 7 * f j) (delta k i j) ≡ delta k i j
delta_turn f k i j = by (ℕ_discrete i j)
  where
    by : Dec (i ≡ j) → turn (f i + 7 * f j) (delta k i j) ≡ delta k i j
    by (yes e) = ap (λ (s : ℕ). turn (f i + 7 * f s) (delta k i j)) (sym e) ∙ turn_whole (f i) (delta k i j)
    by (no h) = rw (delta_other k i j h) (turn_zero (f i + 7 * f j))

-- a map of the rows that undoes itself
module _ (f : ℕ → ℕ) (back : (r : ℕ) → f (f r) ≡ r) (k i : ℕ) where
  delta_cross : (j : ℕ) → delta k (f i) j ≡ delta k i (f j)
  delta_cross j =
      ap (λ (t : Bool). pick t (natω (2 ^ k)) zeroω)
      (iff (eqb (f i) j) (eqb i (f j)) (λ t. eq-eqb i (f j) (sym (back i) ∙ ap f (eqb-true (f i) j t)))
      (λ t. eq-eqb (f i) j (ap f (eqb-true i (f j) t) ∙ back j)))

  delta_same : (j : ℕ) → delta k (f i) (f j) ≡ delta k i j
  delta_same j = delta_cross (f j) ∙ ap (delta k i) (back j)

-- ---- the row operations

phase_row : (b : Bool) (p : ℕ) (z : Zω) → pick b (turn p z) z ≡ turn (pick b p 0) z
phase_row true p z = refl
phase_row false p z = sym (turn_none z)

-- sum and difference as one form
abbrev sign : Bool → ℕ
sign b = pick b 4 0

had_row : (b : Bool) (x y : Zω) → pick b (subω y x) (addω x y) ≡ addω (turn (sign b) x) (turn 0 y)
had_row true x y = rw (turn_none y) (sub_is y x ∙ add_comm y (turn 4 x))
had_row false x y = rw (turn_none x, turn_none y)

-- x for two rows, y for the one and the other's partner
abbrev four_e : ℕ → ℕ → Four → Four → Four
four_e p q x y = add_e (add_e (turn_e (p + 7 * q) x) (turn_e (0 + 7 * q) y)) (add_e (turn_e (p + 7 * 0) y) (turn_e (0 + 7 * 0) x))

had_cases : (b c : Bool) (x y : Zω) → (b ≡ c → y ≡ zeroω) → (b ≡ not c → x ≡ zeroω)
    → addω (addω (turn (sign b + 7 * sign c) x) (turn (0 + 7 * sign c) y)) (addω (turn (sign b + 7 * 0) y) (turn (0 + 7 * 0) x)) ≡ addω x x
unfolding addω turn zeroω
had_cases true true x y f g = rw (f refl) (same4 (of1 x) (four_e 4 4 X zero_e) (add_e X X) tt)
had_cases false false x y f g = rw (f refl) (same4 (of1 x) (four_e 0 0 X zero_e) (add_e X X) tt)
had_cases true false x y f g = rw (g refl) (same4 (of1 y) (four_e 4 0 zero_e X) (add_e zero_e zero_e) tt)
had_cases false true x y f g = rw (g refl) (same4 (of1 y) (four_e 0 4 zero_e X) (add_e zero_e zero_e) tt)

all_zero : (p q s t : ℕ) → addω (addω (turn p zeroω) (turn q zeroω)) (addω (turn s zeroω) (turn t zeroω)) ≡ addω zeroω zeroω
all_zero p q s t =
    (λ i. addω (addω (turn_zero p i) (turn_zero q i)) (addω (turn_zero s i) (turn_zero t i))) ∙ (λ i. addω (add_zero zeroω i) (add_zero zeroω i))

-- each row as two turned rows: itself and its partner where the controls are 1, twice itself where they are not, since
-- √2 = omega + omega⁷
abbrev own_turn : Bool → Bool → ℕ
own_turn o b = pick o (sign b) 1

abbrev partner_turn : Bool → ℕ
partner_turn o = pick o 0 7

sqrt2_turns : (x : Zω) → sqrt2 x ≡ addω (turn 1 x) (turn 7 x)
unfolding sqrt2 addω turn
sqrt2_turns x = same4 (of1 x) (sqrt2_e X) (add_e (turn_e 1 X) (turn_e 7 X)) tt

row_form : (o b : Bool) (v : ℕ → Zω) (r s : ℕ)
    → pick o (pick b (subω (v s) (v r)) (addω (v r) (v s))) (sqrt2 (v r)) ≡ addω (turn (own_turn o b) (v r)) (turn (partner_turn o) (v (pick o s r)))
row_form true b v r s = had_row b (v r) (v s)
row_form false b v r s = sqrt2_turns (v r)

row_cases : (o b p c : Bool) (x y : Zω) → (o ≡ true → p ≡ true → b ≡ c → y ≡ zeroω) → (b ≡ not c → x ≡ zeroω) → (p ≡ false → y ≡ x) → (o ≡ not p → (x ≡ zeroω) × (y ≡ zeroω))
    → addω (addω (turn (own_turn o b + 7 * own_turn p c) x) (turn (partner_turn o + 7 * own_turn p c) y))
    (addω (turn (own_turn o b + 7 * partner_turn p) y) (turn (partner_turn o + 7 * partner_turn p) x)) ≡ addω x x
unfolding addω turn
row_cases true b true c x y f g h m = had_cases b c x y (f refl refl) g
row_cases false b false c x y f g h m =
    rw (h refl) (same4 (of1 x) (add_e (add_e (turn_e (1 + 7 * 1) X) (turn_e (7 + 7 * 1) X)) (add_e (turn_e (1 + 7 * 7) X) (turn_e (7 + 7 * 7) X))) (add_e X X) tt)
row_cases true b false c x y f g h m = let z = m refl in rw (z.0, z.1) (all_zero (sign b + 7 * 1) (0 + 7 * 1) (sign b + 7 * 7) (0 + 7 * 7))
row_cases false b true c x y f g h m = let z = m refl in rw (z.0, z.1) (all_zero (1 + 7 * sign c) (7 + 7 * sign c) (1 + 7 * 0) (7 + 7 * 0))

not_own : (b : Bool) → b ≡ not b → ⊥
not_own true e = clash refl e
not_own false e = clash e refl

-- ---- a matrix is unitary where each two rows give delta

abbrev Rows : ℕ → Exact → Type 0
Rows n x = (i j : ℕ) → i < 2 ^ n → j < 2 ^ n → pair (2 ^ n) (x.e i) (x.e j) ≡ delta x.k i j

module _ (n : ℕ) where
  rows : {x : Exact} → Unitary n x → Rows n x
  unfolding inner
  rows {x} u i j p q = by (ℕ_discrete i j)
    where
      by : Dec (i ≡ j) → pair (2 ^ n) (x.e i) (x.e j) ≡ delta x.k i j
      by (yes e) = ap (λ (s : ℕ). pair (2 ^ n) (x.e i) (x.e s)) (sym e) ∙ u.own i p ∙ sym (delta_own x.k i) ∙ ap (delta x.k i) e
      by (no h) = u.other i j p q h ∙ sym (delta_other x.k i j h)

  rows_turn : {x : Exact} → Unitary n x → (p q i j : ℕ) → i < 2 ^ n → j < 2 ^ n
      → pair (2 ^ n) (λ c. turn p (x.e i c)) (λ c. turn q (x.e j c)) ≡ turn (p + 7 * q) (delta x.k i j)
  rows_turn {x} u p q i j a b = pair_turn (2 ^ n) p q (x.e i) (x.e j) ∙ ap (turn (p + 7 * q)) (rows u i j a b)

  unitary : (x : Exact) → Rows n x → Unitary n x
  unfolding inner
  unitary x f = record { own = λ i p. f i i p p ∙ delta_own x.k i; other = λ i j p q h. f i j p q ∙ delta_other x.k i j h }

  -- ---- the identity
  pub unitary_identity : Unitary n identity
  unfolding oneω
  unitary_identity = unitary identity (λ i j p q.
      sum_one (2 ^ n) (terms (identity.e i) (identity.e j)) j q
      (λ c l h. rw (ne_eqb j c (λ e. h (sym e)), conj_zero) (mul_zero (identity.e i c)))
      ∙ rw (eq-eqb j j refl, conj_one) (mul_one (identity.e i j)))

  -- ---- the value decides
  pub unitary_value : {x y : Exact} → SameValue n x y → Unitary n x → Unitary n y
  unitary_value {x} {y} s u = unitary y (λ i j p q.
      sqrt2s_cancel (x.k + x.k) (pair (2 ^ n) (y.e i) (y.e j)) (delta y.k i j)
      (sym (pair_sqrt2s (2 ^ n) x.k (y.e i) (y.e j))
      ∙ pair_same (2 ^ n) (λ c l. sym (s.at i c p l)) (λ c l. sym (s.at j c q l))
      ∙ pair_sqrt2s (2 ^ n) y.k (x.e i) (x.e j)
      ∙ ap (sqrt2s (y.k + y.k)) (rows u i j p q ∙ delta_sqrt2s x.k i j)
      ∙ sqrt2s_comm (y.k + y.k) (x.k + x.k) (delta 0 i j)
      ∙ ap (sqrt2s (x.k + x.k)) (sym (delta_sqrt2s y.k i j))))

  pub unitary_lower : {x : Exact} → Unitary n x → Unitary n (lower n x)
  unitary_lower {x} u = unitary_value (lower_same n x) u

  -- ---- powers of omega
  pub unitary_turned : (p : ℕ) {x : Exact} → Unitary n x → Unitary n (turned p x)
  unitary_turned p {x} u = unitary (turned p x) (λ i j a b. rows_turn u p p i j a b ∙ turn_whole p (delta x.k i j))

  pub unitary_power : {x y : Exact} → PowerOf n x y → Unitary n x → Unitary n y
  unitary_power w u = unitary_value w.same (unitary_turned w.power u)

  pub unitary_power_back : {x y : Exact} → PowerOf n x y → Unitary n y → Unitary n x
  unitary_power_back w u = unitary_power (power_sym n w) u

  -- ---- row operations
  unitary_phase : (ks : List ℕ) (p : ℕ) {x : Exact} → Unitary n x → Unitary n (raw (phase ks p) x)
  unfolding column
  unitary_phase ks p {x} u = unitary (raw (phase ks p) x) (λ i j a b.
      pair_same (2 ^ n) (λ c l. phase_row (ones ks i) p (x.e i c)) (λ c l. phase_row (ones ks j) p (x.e j c))
      ∙ rows_turn u (pick (ones ks i) p 0) (pick (ones ks j) p 0) i j a b
      ∙ delta_turn (λ r. pick (ones ks r) p 0) x.k i j)

  unitary_exchange : (ks : List ℕ) (k : ℕ) {x : Exact} → k < n → Lacks k ks → Unitary n x → Unitary n (raw (exchange ks k) x)
  unfolding column
  unitary_exchange ks k {x} h w u = unitary (raw (exchange ks k) x) (λ i j a b.
      rows u (moved ks k i) (moved ks k j) (moved_lt ks k n h i a) (moved_lt ks k n h j b)
      ∙ delta_same (moved ks k) (moved_back ks k w) x.k i j)

  module _ (ks : List ℕ) (k : ℕ) (h : k < n) (w : Lacks k ks) {x : Exact} (u : Unitary n x) where
    abbrev own_by : ℕ → ℕ
    own_by r = own_turn (ones ks r) (bit r k)

    abbrev partner_by : ℕ → ℕ
    partner_by r = partner_turn (ones ks r)

    had_rows : Rows n (raw (had ks k) x)
    unfolding column
    had_rows i j a b =
        let i' = moved ks k i in
        let j' = moved ks k j in
        let a' = moved_lt ks k n h i a in
        let b' = moved_lt ks k n h j b in
        pair_same (2 ^ n) (λ c l. row_form (ones ks i) (bit i k) (λ r. x.e r c) i (flip k i)) (λ c l. row_form (ones ks j) (bit j k) (λ r. x.e r c) j (flip k j))
        ∙ pair_four (2 ^ n) (λ c. turn (own_by i) (x.e i c)) (λ c. turn (partner_by i) (x.e i' c)) (λ c. turn (own_by j) (x.e j c)) (λ c. turn (partner_by j) (x.e j' c))
        ∙ (λ z. addω
        (addω (rows_turn u (own_by i) (own_by j) i j a b z) (rows_turn u (partner_by i) (own_by j) i' j a' b z))
        (addω (rows_turn u (own_by i) (partner_by j) i j' a b' z) (rows_turn u (partner_by i) (partner_by j) i' j' a' b' z)))
        ∙ (λ z. addω
        (addω (turn (own_by i + 7 * own_by j) (delta x.k i j)) (turn (partner_by i + 7 * own_by j) (delta_cross (moved ks k) (moved_back ks k w) x.k i j z)))
        (addω (turn (own_by i + 7 * partner_by j) (delta x.k i j')) (turn (partner_by i + 7 * partner_by j) (delta_same (moved ks k) (moved_back ks k w) x.k i j z))))
        ∙ row_cases (ones ks i) (bit i k) (ones ks j) (bit j k) (delta x.k i j) (delta x.k i j')
        (λ p q e. delta_other x.k i j' (λ f. bit_differs k j (sym e ∙ ap (λ (r : ℕ). bit r k) (f ∙ moved_on ks k j q))))
        (λ e. delta_other x.k i j (λ f. bit_differs k j (sym (ap (λ (r : ℕ). bit r k) f) ∙ e ∙ sym (bit_own k j))))
        (λ q. ap (delta x.k i) (moved_off ks k j q))
        (λ e. (
          delta_other x.k i j (λ f. not_own (ones ks j) (sym (ap (ones ks) f) ∙ e)),
          delta_other x.k i j' (λ f. not_own (ones ks j) (sym (moved_ones ks k w j) ∙ sym (ap (ones ks) f) ∙ e)),
        ))
        ∙ sym (delta_double x.k i j)

  pub unitary_raw : (g : Gate) {x : Exact} → Proper n g → Unitary n x → Unitary n (raw g x)
  unfolding column
  unitary_raw (phase ks p) w u = unitary_phase ks p u
  unitary_raw (exchange ks k) w u = unitary_exchange ks k w.0 w.2 u
  unitary_raw (had ks k) {x} w u = unitary (raw (had ks k) x) (had_rows ks k w.0 w.2 u)
  unitary_raw (then g h) w u = unitary_raw h w.1 (unitary_raw g w.0 u)

  pub unitary_act : (g : Gate) {x : Exact} → Proper n g → Unitary n x → Unitary n (act n g x)
  unitary_act g w u = unitary_lower (unitary_raw g w u)

  -- ---- lists
  pub unitary_after : (l : List ℕ) {x : Exact} → Unitary n x → Unitary n (after n x l)
  unitary_after [] u = u
  unitary_after (g ∷ l) u = unitary_after l (unitary_act (gate_of n g) (proper n g) u)

  pub unitary_product : (l : List ℕ) → Unitary n (product n l)
  unfolding product
  unitary_product l = unitary_after l unitary_identity

  pub unitary_step : (g : ℕ) (l : List ℕ) → Unitary n (raw (gate_of n g) (product n l))
  unitary_step g l = unitary_raw (gate_of n g) (proper n g) (unitary_product l)

  -- a matrix is unitary where a product is a power of omega times it, or it is a power of omega times a product
  pub unitary_answered : (l : List ℕ) {y : Exact} → PowerOf n (product n l) y → Unitary n y
  unitary_answered l w = unitary_power w (unitary_product l)

  pub unitary_asked : (l : List ℕ) {y : Exact} → PowerOf n y (product n l) → Unitary n y
  unitary_asked l w = unitary_power_back w (unitary_product l)
