-- Expressions of an element of Z[omega], one for each coefficient: an identity of the ring is one line, under
-- `unfolding` its operations, `same4 (of2 x y) (addE X Y) (addE Y X) tt`. Assumes nothing.
use mathlib.Core.Path.{◌≡◌}
use mathlib.Core.Bool.{Bool, ◌&&◌}
use mathlib.Core.List.{List, [], ◌∷◌}
use Prim.Native.Nat.{ℕ, zero, suc}
use lib.IntN.{ℤ}
use lib.Dec.{T}
use mir.Facts.{and_yes}
use Rattle.ints.proofs.Int.{Ex, ◌⊕◌, ◌⊖◌, ◌⊗◌, ⊝◌, value, int}
use Rattle.ints.proofs.Poly.{solve, zeros, norm}
use Rattle.cyclotomic.specs.Zomega.{Zω, mk}

pub record Four : Type 0 where
  pub a : Ex
  pub b : Ex
  pub c : Ex
  pub d : Ex

abbrev pub at : List ℤ → Four → Zω
at ρ x = mk (value ρ x.a) (value ρ x.b) (value ρ x.c) (value ρ x.d)

-- ---- the operations, each as specs/Zomega has it
abbrev pub zero_e : Four
zero_e = record { a = int 0; b = int 0; c = int 0; d = int 0 }

abbrev pub one_e : Four
one_e = record { a = int 1; b = int 0; c = int 0; d = int 0 }

abbrev pub add_e : Four → Four → Four
add_e x y = record { a = x.a ⊕ y.a; b = x.b ⊕ y.b; c = x.c ⊕ y.c; d = x.d ⊕ y.d }

abbrev pub sub_e : Four → Four → Four
sub_e x y = record { a = x.a ⊖ y.a; b = x.b ⊖ y.b; c = x.c ⊖ y.c; d = x.d ⊖ y.d }

abbrev pub mul_e : Four → Four → Four
mul_e x y = record {
  a = x.a ⊗ y.a ⊖ x.b ⊗ y.d ⊖ x.c ⊗ y.c ⊖ x.d ⊗ y.b;
  b = x.a ⊗ y.b ⊕ x.b ⊗ y.a ⊖ x.c ⊗ y.d ⊖ x.d ⊗ y.c;
  c = x.a ⊗ y.c ⊕ x.b ⊗ y.b ⊕ x.c ⊗ y.a ⊖ x.d ⊗ y.d;
  d = x.a ⊗ y.d ⊕ x.b ⊗ y.c ⊕ x.c ⊗ y.b ⊕ x.d ⊗ y.a;
}

abbrev pub turn_e : ℕ → Four → Four
turn_e zero x = x
turn_e (suc p) x = let y = turn_e p x in record { a = ⊝ y.d; b = y.a; c = y.b; d = y.c }

abbrev pub sqrt2_e : Four → Four
sqrt2_e x = record { a = x.b ⊖ x.d; b = x.a ⊕ x.c; c = x.b ⊕ x.d; d = x.c ⊖ x.a }

-- ---- elements that are unknown, and the lists of their coefficients
abbrev vars : ℕ → ℕ → ℕ → ℕ → Four
vars i j k l = record { a = Ex.var i; b = Ex.var j; c = Ex.var k; d = Ex.var l }

abbrev pub X : Four
X = vars 0 1 2 3

abbrev pub Y : Four
Y = vars 4 5 6 7

abbrev pub Z : Four
Z = vars 8 9 10 11

abbrev pub W : Four
W = vars 12 13 14 15

abbrev pub of1 : Zω → List ℤ
of1 x = x.a ∷ x.b ∷ x.c ∷ x.d ∷ []

abbrev pub of2 : Zω → Zω → List ℤ
of2 x y = x.a ∷ x.b ∷ x.c ∷ x.d ∷ of1 y

abbrev pub of3 : Zω → Zω → Zω → List ℤ
of3 x y z = x.a ∷ x.b ∷ x.c ∷ x.d ∷ of2 y z

abbrev pub of4 : Zω → Zω → Zω → Zω → List ℤ
of4 x y z w = x.a ∷ x.b ∷ x.c ∷ x.d ∷ of3 y z w

-- ---- two elements are one where the four differences multiply out to 0
abbrev pub equal : Ex → Ex → Bool
equal e f = zeros (norm (e ⊖ f))

module _ (ρ : List ℤ) (x y : Four) where
  pub same4 : T (equal x.a y.a && equal x.b y.b && equal x.c y.c && equal x.d y.d) → at ρ x ≡ at ρ y
  same4 t =
      let abc = and_yes (equal x.a y.a && equal x.b y.b && equal x.c y.c) (equal x.d y.d) t in
      let ab = and_yes (equal x.a y.a && equal x.b y.b) (equal x.c y.c) abc.0 in
      let a = and_yes (equal x.a y.a) (equal x.b y.b) ab.0 in
      λ i. mk (solve ρ x.a y.a a.0 i) (solve ρ x.b y.b a.1 i)
      (solve ρ x.c y.c ab.1 i) (solve ρ x.d y.d abc.1 i)
