-- Z[omega], the ring of the matrices' entries: a + b omega + c omega² + d omega³, with omega⁴ = −1 (SPECIFICATION 1.1).
-- The coefficients here are integers of any size. The record is the struct `Cyclotomic`, whose fields a contract reads
-- as integers; what fits in the struct is said apart. The operations are names that do not unfold by themselves:
-- proofs/ has their laws, which the crates above use. Assumes nothing.
use Rattle.std.specs.Prelude.{◌≡◌, Bool, true, false, ◌&&◌, List, [], ◌∷◌, ℕ, zero, suc, ◌+◌, ◌*◌, ◌%◌, ◌<◌, ◌≤◌, ℤ, pos, nat_abs, neg_ℤ, ◌+ℤ◌, ◌-ℤ◌, ◌*ℤ◌}
use Rattle.std.specs.Int.Signed.{lt_z}
use Rattle.ints.specs.Lists.{pick}
use Rattle.coefficients.specs.Coefficients.{limit, same_parity, half, eq_z, within}
use Rattle.cyclotomic.specs.declared.Cyclotomic.{Cyclotomic}

-- an entry, by its four coefficients; it stands for a + b omega + c omega² + d omega³ (SPECIFICATION 1.1)
abbrev pub Zω : Type 0
Zω = Cyclotomic

abbrev pub mk : ℤ → ℤ → ℤ → ℤ → Zω
mk a b c d = record { a = a; b = b; c = c; d = d }

unfoldable pub zeroω : Zω
zeroω = mk (pos 0) (pos 0) (pos 0) (pos 0)

unfoldable pub oneω : Zω
oneω = mk (pos 1) (pos 0) (pos 0) (pos 0)

unfoldable pub addω : Zω → Zω → Zω
addω x y = mk (x.a +ℤ y.a) (x.b +ℤ y.b) (x.c +ℤ y.c) (x.d +ℤ y.d)

unfoldable pub subω : Zω → Zω → Zω
subω x y = mk (x.a -ℤ y.a) (x.b -ℤ y.b) (x.c -ℤ y.c) (x.d -ℤ y.d)

-- the ring's product: omega^i times omega^j is omega^(i + j), and omega⁴ is −1
unfoldable pub mulω : Zω → Zω → Zω
mulω x y =
    mk (x.a *ℤ y.a -ℤ x.b *ℤ y.d -ℤ x.c *ℤ y.c -ℤ x.d *ℤ y.b)
    (x.a *ℤ y.b +ℤ x.b *ℤ y.a -ℤ x.c *ℤ y.d -ℤ x.d *ℤ y.c)
    (x.a *ℤ y.c +ℤ x.b *ℤ y.b +ℤ x.c *ℤ y.a -ℤ x.d *ℤ y.d)
    (x.a *ℤ y.d +ℤ x.b *ℤ y.c +ℤ x.c *ℤ y.b +ℤ x.d *ℤ y.a)

-- omega times x: omega⁴ is −1, so d comes to the front with its sign changed (SPECIFICATION 1.2)
abbrev pub turn1 : Zω → Zω
turn1 x = mk (neg_ℤ x.d) x.a x.b x.c

-- omega to the p, times x
unfoldable pub turn : ℕ → Zω → Zω
turn zero x = x
turn (suc p) x = turn1 (turn p x)

-- for powers p and q from 0 to 7, turning any entry by p, then by q, is turning it by the remainder of p + q by 8
-- (SPECIFICATION 1.2)
pub record TurnsAdd : Type 0 where
  pub adds : (p q : ℕ) → p < 8 → q < 8 → (x : Zω) → turn q (turn p x) ≡ turn ((p + q) % 8) x

-- √2 = omega − omega³, times x
unfoldable pub sqrt2 : Zω → Zω
sqrt2 x = mk (x.b -ℤ x.d) (x.a +ℤ x.c) (x.b +ℤ x.d) (x.c -ℤ x.a)

-- a and c are both even or both odd, and so are b and d: x is √2 times an entry (SPECIFICATION 1.4)
unfoldable pub divisible : Zω → Bool
divisible x = same_parity x.a x.c && same_parity x.b x.d

-- the quotient of a divisible x by √2 (SPECIFICATION 1.4)
unfoldable pub over_sqrt2 : Zω → Zω
over_sqrt2 x = mk (half (x.b -ℤ x.d)) (half (x.a +ℤ x.c)) (half (x.b +ℤ x.d)) (half (x.c -ℤ x.a))

-- the sum of the squares of the coefficients
abbrev pub square : ℤ → ℕ
square z = nat_abs z * nat_abs z

unfoldable pub squares : Zω → ℕ
squares x = square x.a + square x.b + square x.c + square x.d

-- two entries are the same
unfoldable pub eqω : Zω → Zω → Bool
eqω x y = eq_z x.a y.a && (eq_z x.b y.b && (eq_z x.c y.c && eq_z x.d y.d))

unfoldable pub is_zero : Zω → Bool
is_zero x = eq_z x.a (pos 0) && eq_z x.b (pos 0) && eq_z x.c (pos 0) && eq_z x.d (pos 0)

-- the order of entries, by a, then b, then c, then d as signed numbers: the first pair that differs decides
-- (SPECIFICATION 1.11)
abbrev pub or_else : Bool → Bool → Bool → Bool
or_else true less next = next
or_else false less next = less

unfoldable pub less : Zω → Zω → Bool
less x y =
    or_else (eq_z x.a y.a) (lt_z x.a y.a)
    (or_else (eq_z x.b y.b) (lt_z x.b y.b)
    (or_else (eq_z x.c y.c) (lt_z x.c y.c) (lt_z x.d y.d)))

-- the phase of an entry: the power from 0 to 7 whose turn of it is least. A nonzero entry has one such power
-- (SPECIFICATION 1.11, proofs/Order)
unfoldable pub least_up_to : ℕ → Zω → ℕ
least_up_to zero x = 0
least_up_to (suc k) x = pick (less (turn (suc k) x) (turn (least_up_to k x) x)) (suc k) (least_up_to k x)

abbrev pub phase : Zω → ℕ
phase x = least_up_to 7 x

-- ---- what fits
unfoldable pub fits : Zω → Bool
fits x = within x.a && within x.b && within x.c && within x.d

-- every coefficient is within a bound
pub record WithinBound (bound : ℕ) (x : Zω) : Type 0 where
  pub a_small : nat_abs x.a ≤ bound
  pub b_small : nat_abs x.b ≤ bound
  pub c_small : nat_abs x.c ≤ bound
  pub d_small : nat_abs x.d ≤ bound

-- every coefficient is within the limit
abbrev pub Small : Zω → Type 0
Small x = WithinBound limit x

-- ---- the eight coefficients of an entry's turns
-- the coefficients at places 0 to 3, their negatives at places 4 to 7
abbrev pub eight_of : Zω → List ℤ
eight_of x = x.a ∷ x.b ∷ x.c ∷ x.d ∷ neg_ℤ x.a ∷ neg_ℤ x.b ∷ neg_ℤ x.c ∷ neg_ℤ x.d ∷ []
