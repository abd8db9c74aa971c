-- Every gate is linear in a column: what stays of a row and what comes from its partner, each turned or none. The laws
-- of the row operations, for all kinds of gate at once. Assumes nothing.
use mathlib.Core.Path.{◌≡◌, refl, sym, ap, ◌∙◌}
use mathlib.Core.Bool.{Bool, true, false, not}
use mathlib.Core.List.{List, [], ◌∷◌, ◌++◌}
use Prim.Native.Nat.{◌≤◌, ℕ, zero, suc, ◌+◌, ◌%◌, ◌^◌, ◌<◌}
use native.Mathlib.Omega.{arith}
use Rattle.ints.specs.Bits.{bit}
use Rattle.ints.specs.Lists.{pick}
use Rattle.cyclotomic.specs.Zomega.{Zω, zeroω, addω, subω, turn, sqrt2}
use Rattle.cyclotomic.proofs.Sums.{add_comm, add_four, add_zero, zero_add}
use Rattle.cyclotomic.proofs.Turns.{turn_zero, turn_none, turn_add, turn_sum, turn_comm, sub_is}
use Rattle.cyclotomic.proofs.Division.{sqrt2_add, sqrt2_zero, turn_sqrt2, twice_sum, twice_sub}
use Rattle.exact.specs.Matrix.{Exact, sqrt2s, SameValue, turned}
use Rattle.exact.proofs.Words.{Equal, Lacks, Proper, Plain, touches, Apart, Undoes, turns, exchanges, hads}
use Rattle.exact.specs.Rows.{flip, ones, Gate, phase, exchange, had, then, column, raise, raw}
use Rattle.exact.proofs.Flips.{flip_flip, flip_comm, bit_own, bit_other, ones_other, flip_lt, moved_back}
use Rattle.exact.proofs.Values.{sqrt2s_sqrt2}

-- zero, a power of omega, or √2
pub data Scalar : Type 0 where
  none : Scalar
  by : ℕ → Scalar
  root : Scalar

abbrev pub scale : Scalar → Zω → Zω
scale none x = zeroω
scale (by p) x = turn p x
scale root x = sqrt2 x

scale_add : (s : Scalar) (x y : Zω) → scale s (addω x y) ≡ addω (scale s x) (scale s y)
scale_add none x y = sym (add_zero zeroω)
scale_add (by p) x y = turn_add p x y
scale_add root x y = sqrt2_add x y

scale_comm : (s t : Scalar) (x : Zω) → scale s (scale t x) ≡ scale t (scale s x)
scale_comm none none x = refl
scale_comm none (by q) x = sym (turn_zero q)
scale_comm none root x = sym sqrt2_zero
scale_comm (by p) none x = turn_zero p
scale_comm (by p) (by q) x = turn_comm p q x
scale_comm (by p) root x = turn_sqrt2 p x
scale_comm root none x = sqrt2_zero
scale_comm root (by q) x = sym (turn_sqrt2 q x)
scale_comm root root x = refl

-- row r gets what stays of itself and what comes from row `from r`
pub record LinearShape : Type 0 where
  pub stay : ℕ → Scalar
  pub come : ℕ → Scalar
  pub from : ℕ → ℕ

abbrev pub linear : LinearShape → (ℕ → Zω) → ℕ → Zω
linear S v r = addω (scale (S.stay r) (v r)) (scale (S.come r) (v (S.from r)))

-- of one row operation
abbrev pub shape : Gate → LinearShape
shape (phase ks p) = record { stay = λ r. pick (ones ks r) (by p) (by 0); come = λ r. none; from = λ r. r }
shape (exchange ks k) = record { stay = λ r. pick (ones ks r) none (by 0); come = λ r. pick (ones ks r) (by 0) none; from = λ r. flip k r }
shape (had ks k) = record {
  stay = λ r. pick (ones ks r) (pick (bit r k) (by 4) (by 0)) root;
  come = λ r. pick (ones ks r) (by 0) none;
  from = λ r. flip k r;
}
shape (then g h) = shape h

pub column_is : (g : Gate) → Plain g → (v : ℕ → Zω) (r : ℕ) → column g v r ≡ linear (shape g) v r
unfolding column
column_is (phase ks p) t v r = go (ones ks r)
  where
    go : (b : Bool) → pick b (turn p (v r)) (v r) ≡ addω (scale (pick b (by p) (by 0)) (v r)) zeroω
    go true = sym (add_zero _)
    go false = sym (add_zero _ ∙ turn_none (v r))
column_is (exchange ks k) t v r = go (ones ks r)
  where
    go : (b : Bool) → v (pick b (flip k r) r) ≡ addω (scale (pick b none (by 0)) (v r)) (scale (pick b (by 0) none) (v (flip k r)))
    go true = sym (zero_add _ ∙ turn_none (v (flip k r)))
    go false = sym (add_zero _ ∙ turn_none (v r))
column_is (had ks k) t v r = go (ones ks r) (bit r k)
  where
    go : (o b : Bool) → pick o (pick b (subω (v (flip k r)) (v r)) (addω (v r) (v (flip k r)))) (sqrt2 (v r))
        ≡ addω (scale (pick o (pick b (by 4) (by 0)) root) (v r)) (scale (pick o (by 0) none) (v (flip k r)))
    go true true = sub_is (v (flip k r)) (v r) ∙ add_comm _ _ ∙ ap (addω (turn 4 (v r))) (sym (turn_none (v (flip k r))))
    go true false = λ i. addω (sym (turn_none (v r)) i) (sym (turn_none (v (flip k r))) i)
    go false b = sym (add_zero _)
column_is (then g h) t v r = absurd t

-- ---- maps that every gate commutes with: turns and powers of √2

module _ (φ : Zω → Zω) (additive : (x y : Zω) → φ (addω x y) ≡ addω (φ x) (φ y)) (scalar : (s : Scalar) (x : Zω) → φ (scale s x) ≡ scale s (φ x)) where
  plain_map : (g : Gate) → Plain g → (v : ℕ → Zω) (r : ℕ) → column g (λ s. φ (v s)) r ≡ φ (column g v r)
  plain_map g t v r =
      column_is g t (λ s. φ (v s)) r
      ∙ (λ i. addω (sym (scalar ((shape g).stay r) (v r)) i) (sym (scalar ((shape g).come r) (v ((shape g).from r))) i))
      ∙ sym (additive _ _) ∙ ap φ (sym (column_is g t v r))

  column_map : (g : Gate) (v : ℕ → Zω) (r : ℕ) → column g (λ s. φ (v s)) r ≡ φ (column g v r)
  unfolding column
  column_map (phase ks p) v r = plain_map (phase ks p) tt v r
  column_map (exchange ks k) v r = plain_map (exchange ks k) tt v r
  column_map (had ks k) v r = plain_map (had ks k) tt v r
  column_map (then g h) v r = (λ i. column h (λ s. column_map g v s i) r) ∙ column_map h (column g v) r

pub column_turn : (q : ℕ) (g : Gate) (v : ℕ → Zω) (r : ℕ) → column g (λ s. turn q (v s)) r ≡ turn q (column g v r)
column_turn q = column_map (turn q) (turn_add q) scalar
  where
    scalar : (s : Scalar) (x : Zω) → turn q (scale s x) ≡ scale s (turn q x)
    scalar none x = turn_zero q
    scalar (by p) x = turn_comm q p x
    scalar root x = turn_sqrt2 q x

column_sqrt2 : (g : Gate) (v : ℕ → Zω) (r : ℕ) → column g (λ s. sqrt2 (v s)) r ≡ sqrt2 (column g v r)
column_sqrt2 = column_map sqrt2 sqrt2_add scalar
  where
    scalar : (s : Scalar) (x : Zω) → sqrt2 (scale s x) ≡ scale s (sqrt2 x)
    scalar none x = sqrt2_zero
    scalar (by p) x = sym (turn_sqrt2 p x)
    scalar root x = refl

pub column_sqrt2s : (k : ℕ) (g : Gate) (v : ℕ → Zω) (r : ℕ) → column g (λ s. sqrt2s k (v s)) r ≡ sqrt2s k (column g v r)
column_sqrt2s zero g v r = refl
column_sqrt2s (suc k) g v r = column_sqrt2 g (λ s. sqrt2s k (v s)) r ∙ ap sqrt2 (column_sqrt2s k g v r)

-- ---- rows of the width depend on rows of the width

from_lt : (n : ℕ) (g : Gate) (r : ℕ) → Plain g → Proper n g → r < 2 ^ n → (shape g).from r < 2 ^ n
from_lt n (phase ks p) r t w h = h
from_lt n (exchange ks k) r t w h = flip_lt n k r w.0 h
from_lt n (had ks k) r t w h = flip_lt n k r w.0 h
from_lt n (then g h) r t w l = absurd t

plain_cong : (n : ℕ) (g : Gate) (v w : ℕ → Zω) → Plain g → Proper n g → ((s : ℕ) → s < 2 ^ n → v s ≡ w s) → (r : ℕ) → r < 2 ^ n → column g v r ≡ column g w r
plain_cong n g v w t pr e r h =
    column_is g t v r ∙ (λ i. addω (scale ((shape g).stay r) (e r h i)) (scale ((shape g).come r) (e ((shape g).from r) (from_lt n g r t pr h) i)))
    ∙ sym (column_is g t w r)

pub column_cong : (n : ℕ) (g : Gate) (v w : ℕ → Zω) → Proper n g → ((s : ℕ) → s < 2 ^ n → v s ≡ w s) → (r : ℕ) → r < 2 ^ n → column g v r ≡ column g w r
unfolding column
column_cong n (phase ks p) v w pr e r h = plain_cong n (phase ks p) v w tt pr e r h
column_cong n (exchange ks k) v w pr e r h = plain_cong n (exchange ks k) v w tt pr e r h
column_cong n (had ks k) v w pr e r h = plain_cong n (had ks k) v w tt pr e r h
column_cong n (then f g) v w pr e r h = column_cong n g (column f v) (column f w) pr.1 (λ s l. column_cong n f v w pr.0 e s l) r h

-- ---- a row operation keeps `SameValue`

raise_same : (g : Gate) (j k : ℕ) (x y : Zω) → sqrt2s j x ≡ sqrt2s k y → sqrt2s (raise g j) x ≡ sqrt2s (raise g k) y
raise_same (phase ks p) j k x y e = e
raise_same (exchange ks i) j k x y e = e
raise_same (had ks i) j k x y e = ap sqrt2 e
raise_same (then g h) j k x y e = raise_same h (raise g j) (raise g k) x y (raise_same g j k x y e)

pub raw_same : (n : ℕ) (g : Gate) {x y : Exact} → Proper n g → SameValue n x y → SameValue n (raw g x) (raw g y)
raw_same n g {x} {y} pr s = record {
  at = λ r c p q. raise_same g y.k x.k (column g (λ s. x.e s c) r) (column g (λ s. y.e s c) r)
      (sym (column_sqrt2s y.k g (λ s. x.e s c) r)
      ∙ column_cong n g (λ s. sqrt2s y.k (x.e s c)) (λ s. sqrt2s x.k (y.e s c)) pr (λ t h. s.at t c h q) r p
      ∙ column_sqrt2s x.k g (λ s. y.e s c) r);
}

-- ---- gates with no common bit commute, at every row

stay_free : (g : Gate) (k r : ℕ) → Plain g → Lacks k (touches g) → (shape g).stay (flip k r) ≡ (shape g).stay r
stay_free (phase ks p) k r t a = ap (λ (b : Bool). pick b (by p) (by 0)) (ones_other k ks r a)
stay_free (exchange ks j) k r t a = ap (λ (b : Bool). pick b none (by 0)) (ones_other k ks r a.1)
stay_free (had ks j) k r t a = λ i. pick (ones_other k ks r a.1 i) (pick (bit_other j k r a.0 i) (by 4) (by 0)) root
stay_free (then g h) k r t a = absurd t

come_free : (g : Gate) (k r : ℕ) → Plain g → Lacks k (touches g) → (shape g).come (flip k r) ≡ (shape g).come r
come_free (phase ks p) k r t a = refl
come_free (exchange ks j) k r t a = ap (λ (b : Bool). pick b (by 0) none) (ones_other k ks r a.1)
come_free (had ks j) k r t a = ap (λ (b : Bool). pick b (by 0) none) (ones_other k ks r a.1)
come_free (then g h) k r t a = absurd t

stay_past : (g h : Gate) (r : ℕ) → Plain g → Plain h → Apart (touches h) (touches g) → (shape g).stay ((shape h).from r) ≡ (shape g).stay r
stay_past g (phase ks p) r t u a = refl
stay_past g (exchange ks k) r t u a = stay_free g k r t a.0
stay_past g (had ks k) r t u a = stay_free g k r t a.0
stay_past g (then h i) r t u a = absurd u

come_past : (g h : Gate) (r : ℕ) → Plain g → Plain h → Apart (touches h) (touches g) → (shape g).come ((shape h).from r) ≡ (shape g).come r
come_past g (phase ks p) r t u a = refl
come_past g (exchange ks k) r t u a = come_free g k r t a.0
come_past g (had ks k) r t u a = come_free g k r t a.0
come_past g (then h i) r t u a = absurd u

from_swap : (g h : Gate) (r : ℕ) → Plain g → Plain h → (shape g).from ((shape h).from r) ≡ (shape h).from ((shape g).from r)
from_swap (phase ks p) h r t u = refl
from_swap (exchange ks j) (phase is p) r t u = refl
from_swap (exchange ks j) (exchange is i) r t u = flip_comm j i r
from_swap (exchange ks j) (had is i) r t u = flip_comm j i r
from_swap (exchange ks j) (then f g) r t u = absurd u
from_swap (had ks j) (phase is p) r t u = refl
from_swap (had ks j) (exchange is i) r t u = flip_comm j i r
from_swap (had ks j) (had is i) r t u = flip_comm j i r
from_swap (had ks j) (then f g) r t u = absurd u
from_swap (then f g) h r t u = absurd t

lacks_sym : (l : List ℕ) (i : ℕ) (is : List ℕ) → Apart l (i ∷ is) → Lacks i l
lacks_sym [] i is a = tt
lacks_sym (k ∷ l) i is a = (λ e. a.0.0 (sym e), lacks_sym l i is a.1)

apart_tail : (l : List ℕ) (i : ℕ) (is : List ℕ) → Apart l (i ∷ is) → Apart l is
apart_tail [] i is a = tt
apart_tail (k ∷ l) i is a = (a.0.1, apart_tail l i is a.1)

pub apart_sym : (l m : List ℕ) → Apart l m → Apart m l
apart_sym l [] a = tt
apart_sym l (i ∷ is) a = (lacks_sym l i is a, apart_sym l is (apart_tail l i is a))

-- two linear forms, one after the other: their scalars commute
pub open_up : (s t a b : Scalar) (x y z w : Zω) → addω (scale s (addω (scale a x) (scale b y))) (scale t (addω (scale a z) (scale b w)))
    ≡ addω (scale a (addω (scale s x) (scale t z))) (scale b (addω (scale s y) (scale t w)))
open_up s t a b x y z w =
    (λ i. addω (scale_add s (scale a x) (scale b y) i) (scale_add t (scale a z) (scale b w) i))
    ∙ add_four (scale s (scale a x)) (scale s (scale b y)) (scale t (scale a z)) (scale t (scale b w))
    ∙ (λ i. addω (addω (scale_comm s a x i) (scale_comm t a z i)) (addω (scale_comm s b y i) (scale_comm t b w i)))
    ∙ (λ i. addω (sym (scale_add a (scale s x) (scale t z)) i) (sym (scale_add b (scale s y) (scale t w)) i))

linear_swap : (g h : Gate) (v : ℕ → Zω) (r : ℕ) → Plain g → Plain h → Apart (touches g) (touches h)
    → linear (shape g) (linear (shape h) v) r ≡ linear (shape h) (linear (shape g) v) r
linear_swap g h v r t u a =
    (λ i. addω (scale ((shape g).stay r) (addω (scale ((shape h).stay r) (v r)) (scale ((shape h).come r) (v ((shape h).from r)))))
    (scale ((shape g).come r) (addω (scale (stay_past h g r u t a i) (v ((shape g).from r))) (scale (come_past h g r u t a i) (v (from_swap h g r u t i))))))
    ∙ open_up ((shape g).stay r) ((shape g).come r) ((shape h).stay r) ((shape h).come r) (v r) (v ((shape h).from r)) (v ((shape g).from r)) (v ((shape g).from ((shape h).from r)))
    ∙ (λ i. addω (scale ((shape h).stay r) (addω (scale ((shape g).stay r) (v r)) (scale ((shape g).come r) (v ((shape g).from r)))))
    (scale ((shape h).come r) (addω (scale (sym (stay_past g h r t u b) i) (v ((shape h).from r))) (scale (sym (come_past g h r t u b) i) (v ((shape g).from ((shape h).from r)))))))
  where
    b : Apart (touches h) (touches g)
    b = apart_sym (touches g) (touches h) a

plain_swap : (g h : Gate) (v : ℕ → Zω) (r : ℕ) → Plain g → Plain h → Apart (touches g) (touches h) → column g (column h v) r ≡ column h (column g v) r
plain_swap g h v r t u a =
    column_is g t (column h v) r ∙ inner g h u ∙ linear_swap g h v r t u a ∙ sym (inner h g t) ∙ sym (column_is h u (column g v) r)
  where
    inner : (g h : Gate) → Plain h → linear (shape g) (column h v) r ≡ linear (shape g) (linear (shape h) v) r
    inner g h u = λ i. addω (scale ((shape g).stay r) (column_is h u v r i)) (scale ((shape g).come r) (column_is h u v ((shape g).from r) i))

-- a list in two parts
apart_parts : (l m k : List ℕ) → Apart (l ++ m) k → Apart l k × Apart m k
apart_parts [] m k a = (tt, a)
apart_parts (i ∷ l) m k a = let t = apart_parts l m k a.1 in ((a.0, t.0), t.1)

-- one row operation, and several
one_swap : (g : Gate) → Plain g → (h : Gate) (v : ℕ → Zω) (r : ℕ) → Apart (touches h) (touches g) → column g (column h v) r ≡ column h (column g v) r
unfolding column
one_swap g t (phase ks p) v r a = plain_swap g (phase ks p) v r t tt (apart_sym (touches (phase ks p)) (touches g) a)
one_swap g t (exchange ks k) v r a = plain_swap g (exchange ks k) v r t tt (apart_sym (touches (exchange ks k)) (touches g) a)
one_swap g t (had ks k) v r a = plain_swap g (had ks k) v r t tt (apart_sym (touches (had ks k)) (touches g) a)
one_swap g t (then f h) v r a =
    let b = apart_parts (touches f) (touches h) (touches g) a in
    one_swap g t h (column f v) r b.1 ∙ (λ i. column h (λ s. one_swap g t f v s b.0 i) r)

column_swap : (g h : Gate) (v : ℕ → Zω) (r : ℕ) → Apart (touches g) (touches h) → column g (column h v) r ≡ column h (column g v) r
unfolding column
column_swap (phase ks p) h v r a = one_swap (phase ks p) tt h v r (apart_sym (touches (phase ks p)) (touches h) a)
column_swap (exchange ks k) h v r a = one_swap (exchange ks k) tt h v r (apart_sym (touches (exchange ks k)) (touches h) a)
column_swap (had ks k) h v r a = one_swap (had ks k) tt h v r (apart_sym (touches (had ks k)) (touches h) a)
column_swap (then f g) h v r a =
    let b = apart_parts (touches f) (touches g) (touches h) a in
    (λ i. column g (λ s. column_swap f h v s b.0 i) r) ∙ column_swap g h (column f v) r b.1

pub raise_most : (g : Gate) → Plain g → (k : ℕ) → raise g k ≤ suc k
raise_most (phase ks p) t k = omega arith
raise_most (exchange ks j) t k = omega arith
raise_most (had ks j) t k = omega arith
raise_most (then g h) t k = absurd t

pub raise_swap : (g h : Gate) (k : ℕ) → raise g (raise h k) ≡ raise h (raise g k)
raise_swap (phase ks p) h k = refl
raise_swap (exchange ks j) h k = refl
raise_swap (had ks j) h k = one h k
  where
    one : (h : Gate) (k : ℕ) → suc (raise h k) ≡ raise h (suc k)
    one (phase is p) k = refl
    one (exchange is i) k = refl
    one (had is i) k = refl
    one (then f g) k = one g (raise f k) ∙ ap (raise g) (one f k)
raise_swap (then f g) h k = ap (raise g) (raise_swap f h k) ∙ raise_swap g h (raise f k)

-- the raw row operations of gates with no common bit commute: one exponent, the same entries
pub raw_swap : (n : ℕ) (g h : Gate) (x : Exact) → Apart (touches g) (touches h) → Equal n (raw g (raw h x)) (raw h (raw g x))
raw_swap n g h x a = record { exponent = raise_swap g h x.k; entries = λ r c p q. column_swap g h (λ s. x.e s c) r a }

-- ---- inverse pairs

exchange_back : (ks : List ℕ) (k : ℕ) (v : ℕ → Zω) (r : ℕ) → Lacks k ks → column (exchange ks k) (column (exchange ks k) v) r ≡ v r
unfolding column
exchange_back ks k v r l = ap v (moved_back ks k l r)

phase_back : (ks : List ℕ) (p q : ℕ) (v : ℕ → Zω) (r : ℕ) → (p + q) % 8 ≡ 0 → column (phase ks p) (column (phase ks q) v) r ≡ v r
unfolding column
phase_back ks p q v r h = go (ones ks r)
  where
    go : (b : Bool) → pick b (turn p (pick b (turn q (v r)) (v r))) (pick b (turn q (v r)) (v r)) ≡ v r
    go true = turn_sum p q (v r) ∙ rw h (turn_none (v r))
    go false = refl

had_back : (ks : List ℕ) (k : ℕ) (v : ℕ → Zω) (r : ℕ) → Lacks k ks → column (had ks k) (column (had ks k) v) r ≡ sqrt2 (sqrt2 (v r))
unfolding column
had_back ks k v r l = rw (ones_other k ks r l, bit_own k r, flip_flip k r) (go (ones ks r) (bit r k))
  where
    go : (o b : Bool) → pick o (pick b (subω (pick o (pick (not b) (subω (v r) (v (flip k r))) (addω (v (flip k r)) (v r))) (sqrt2 (v (flip k r))))
        (pick o (pick b (subω (v (flip k r)) (v r)) (addω (v r) (v (flip k r)))) (sqrt2 (v r))))
        (addω (pick o (pick b (subω (v (flip k r)) (v r)) (addω (v r) (v (flip k r)))) (sqrt2 (v r)))
        (pick o (pick (not b) (subω (v r) (v (flip k r))) (addω (v (flip k r)) (v r))) (sqrt2 (v (flip k r))))))
        (sqrt2 (pick o (pick b (subω (v (flip k r)) (v r)) (addω (v r) (v (flip k r)))) (sqrt2 (v r)))) ≡ sqrt2 (sqrt2 (v r))
    go true true = twice_sub (v (flip k r)) (v r)
    go true false = twice_sum (v r) (v (flip k r))
    go false b = refl

pub raw_back : (n : ℕ) {g h : Gate} (x : Exact) → Undoes g h → SameValue n (raw g (raw h x)) x
raw_back n x (turns {ks = ks} {p = p} {q = q} e) = record { at = λ r c i j. ap (sqrt2s x.k) (phase_back ks p q (λ s. x.e s c) r e) }
raw_back n x (exchanges {ks = ks} {k = k} l) = record { at = λ r c i j. ap (sqrt2s x.k) (exchange_back ks k (λ s. x.e s c) r l) }
raw_back n x (hads {ks = ks} {k = k} l) = record { at = λ r c i j. ap (sqrt2s x.k) (had_back ks k (λ s. x.e s c) r l) ∙ sqrt2s_sqrt2 x.k (sqrt2 (x.e r c)) ∙ ap sqrt2 (sqrt2s_sqrt2 x.k (x.e r c)) }

-- ---- a turn of all entries commutes with each row operation

pub raw_turned : (n p : ℕ) (g : Gate) (x : Exact) → Equal n (raw g (turned p x)) (turned p (raw g x))
raw_turned n p g x = record { exponent = refl; entries = λ r c i j. column_turn p g (λ s. x.e s c) r }
