-- The fingerprint of a matrix: one for all matrices that are equal up to phase. Assumes nothing.
use mathlib.Core.Path.{◌≡◌, refl}
use mathlib.Core.Bool.{true}
use mathlib.Core.List.{◌∷◌, ◌++◌}
use Prim.Native.Nat.{ℕ, zero, suc, ◌*◌, ◌^◌, ◌%◌, ◌<◌}
use native.Mathlib.Omega.{arith}
use Rattle.cyclotomic.specs.Zomega.{Zω}
use Rattle.words.specs.Words.{words}
use Rattle.exact.specs.Matrix.{Exact, Lowest, PowerOf}
use Rattle.exact.proofs.Words.{Equal}
use Rattle.exact.specs.Phase.{flat, phased, up_to_phase}
use Rattle.exact.specs.Fingerprint.{start, mix_all, fold, four_words, words_of, fingerprint}
use Rattle.exact.proofs.Phases.{flat_equal, phased_equal, test_phased, test_of_power}

pub words_same : (m : ℕ) (f g : ℕ → Zω) → ((i : ℕ) → i < m → f i ≡ g i) → words_of m f ≡ words_of m g
words_same zero f g h = refl
words_same (suc m) f g h =
    λ i. four_words (h 0 (omega arith) i) ++ words_same m (λ j. f (suc j)) (λ j. g (suc j)) (λ j q. h (suc j) (omega arith)) i

module _ (n : ℕ) where
  phased_print : (x y : Exact) → Equal n (phased n x) (phased n y) → fingerprint n x ≡ fingerprint n y
  unfolding fingerprint
  phased_print x y w =
      let entries = words_same (2 ^ n * 2 ^ n) (flat n (phased n x).e) (flat n (phased n y).e) (flat_equal n w) in
      λ i. fold (mix_all start (n % words ∷ w.exponent i % words ∷ entries i))

  pub fingerprint_equal : {x y : Exact} → Equal n x y → fingerprint n x ≡ fingerprint n y
  fingerprint_equal {x} {y} w = phased_print x y (phased_equal n w)

  pub fingerprint_test : (x y : Exact) → up_to_phase n x y ≡ true → fingerprint n x ≡ fingerprint n y
  fingerprint_test x y h = phased_print x y (test_phased n x y h)

  pub fingerprint_power : {x y : Exact} → Lowest n x → Lowest n y → PowerOf n x y → fingerprint n x ≡ fingerprint n y
  fingerprint_power {x} {y} l m s = fingerprint_test x y (test_of_power n l m s)
