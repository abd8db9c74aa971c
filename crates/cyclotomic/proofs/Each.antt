-- An element coefficient by coefficient: equal where its four coefficients are, and as the machine reads it back.
-- Assumes nothing.
use mathlib.Core.Path.{◌≡◌, ◌∙◌}
use Prim.Native.Nat.{◌^◌, ◌<◌}
use lib.IntN.{ℤ}
use lib.Signed.{mag}
use mir.Val.{hbits, to_z, of_z}
use mir.Facts.{to_z-of_z}
use Rattle.ints.proofs.Machine.{said}
use Rattle.coefficients.specs.Coefficients.{near, far}
use Rattle.cyclotomic.specs.Zomega.{Zω, mk}

-- elements with the same coefficients are the same
pub each : {a b c d a' b' c' d' : ℤ} → a ≡ a' → b ≡ b' → c ≡ c' → d ≡ d' → mk a b c d ≡ mk a' b' c' d'
each p q r s = λ i. mk (p i) (q i) (r i) (s i)

-- an element's coefficients as the machine reads them back; `kept c.good.0.1.1` is this of a function's first
-- argument
pub record SizeKept (x : Zω) : Type 0 where
  pub a_kept : to_z near (of_z near x.a) ≡ x.a
  pub b_kept : to_z near (of_z near x.b) ≡ x.b
  pub c_kept : to_z near (of_z near x.c) ≡ x.c
  pub d_kept : to_z near (of_z near x.d) ≡ x.d

abbrev InRange : ℤ → Type 0
InRange z = mag z < 2 ^ hbits near

back : {z : ℤ} → InRange z → to_z near (of_z near z) ≡ z
back g = to_z-of_z {w = near} (record { sfits = g })

pub kept : {A B C D E : Type 0} {x : Zω} → (A × InRange x.a) × ((B × InRange x.b) × ((C × InRange x.c) × ((D × InRange x.d) × E))) → SizeKept x
kept g = record { a_kept = back g.0.1; b_kept = back g.1.0.1; c_kept = back g.1.1.0.1; d_kept = back g.1.1.1.0.1 }

-- what a callee told of two coefficients as the machine reads them is told of the coefficients
pub told : {A : Type 0} (f : ℤ → ℤ → A) {x y : ℤ} {r : A} → to_z near (of_z near x) ≡ x → to_z near (of_z near y) ≡ y
    → r ≡ f (to_z near (of_z near x)) (to_z near (of_z near y)) → r ≡ f x y
told f p q e = e ∙ (λ i. f (p i) (q i))

-- a number as the machine reads it back from the type of sums
abbrev pub wide : ℤ → ℤ
wide z = to_z far (of_z far z)

-- the same of a sum or a difference, which the caller reads back
pub formed : (op : ℤ → ℤ → ℤ) {x y r : ℤ} → to_z near (of_z near x) ≡ x → to_z near (of_z near y) ≡ y → mag r < 2 ^ hbits far
    → r ≡ op (to_z near (of_z near x)) (to_z near (of_z near y)) → wide r ≡ op x y
formed op p q ok e = said far ok (told op p q e)
