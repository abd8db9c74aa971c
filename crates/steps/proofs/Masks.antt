-- Masks of one, two and three bits as the code forms them, and that a target is no control. Assumes nothing.
use mathlib.Core.Path.{◌≡◌, refl, sym, ap, ◌∙◌, subst}
use mathlib.Core.Bool.{true, not}
use mathlib.Core.List.{List, [], ◌∷◌}
use Prim.Native.Nat.{ℕ, ◌^◌, ◌<◌}
use borrow.Author.Tests.{eqb-true, ne_eqb}
use lib.Bits.{bit_and, bit_or, or_zero_r}
use Rattle.std.specs.Prelude.{Option}
use Rattle.ints.specs.Lists.{all, elem}
use Rattle.ints.proofs.Bools.{and_both}
use Rattle.circuit.specs.Pairs.{mask_of}
use Rattle.circuit.proofs.Sets.{mask_apart}
use Rattle.exact.specs.Rows.{Gate, phase, exchange, had, then, exchanges3}
use Rattle.exact.proofs.Words.{Lacks, Proper}
use lib.IntN.{ℤ}
use Rattle.steps.specs.Step.{Stepped, Controlled}

pub mask_none : 0 ≡ mask_of []
unfolding mask_of
mask_none = refl

pub mask_one : (s : ℕ) → 2 ^ s ≡ mask_of (s ∷ [])
unfolding mask_of
mask_one s = sym (or_zero_r (2 ^ s))

pub mask_two : (s t : ℕ) → bit_or (2 ^ s) (2 ^ t) ≡ mask_of (s ∷ t ∷ [])
unfolding mask_of
mask_two s t = ap (bit_or (2 ^ s)) (mask_one t)

pub mask_three : (s t u : ℕ) → bit_or (2 ^ s) (bit_or (2 ^ t) (2 ^ u)) ≡ mask_of (s ∷ t ∷ u ∷ [])
unfolding mask_of
mask_three s t u = ap (bit_or (2 ^ s)) (mask_two t u)

-- a bit that is no control
lacks_all : (t : ℕ) (ks : List ℕ) → Lacks t ks → all (λ q. not (elem q (t ∷ []))) ks ≡ true
unfolding all elem
lacks_all t [] h = refl
lacks_all t (k ∷ ks) h = and_both (not (elem k (t ∷ []))) (all (λ q. not (elem q (t ∷ []))) ks) (rw (ne_eqb k t h.0)) (lacks_all t ks h.1)

pub target_apart : (t : ℕ) (ks : List ℕ) → Lacks t ks → bit_and (mask_of ks) (2 ^ t) ≡ 0
target_apart t ks h =
    ap (bit_and (mask_of ks)) (mask_one t) ∙ eqb-true (bit_and (mask_of ks) (mask_of (t ∷ []))) 0 (mask_apart ks (t ∷ []) ∙ lacks_all t ks h)

-- ---- the same for bits and masks that are known by equations

pub one_bit : {x s i : ℕ} → x ≡ 2 ^ s → s ≡ i → x ≡ mask_of (i ∷ [])
one_bit {x} {s} {i} d e = d ∙ ap (λ (j : ℕ). 2 ^ j) e ∙ mask_one i

pub two_bits : {x y s t i j : ℕ} → x ≡ 2 ^ s → s ≡ i → y ≡ 2 ^ t → t ≡ j → bit_or x y ≡ mask_of (i ∷ j ∷ [])
two_bits {i = i} {j = j} d e d' e' = (λ k. bit_or ((d ∙ ap (λ (j : ℕ). 2 ^ j) e) k) ((d' ∙ ap (λ (j : ℕ). 2 ^ j) e') k)) ∙ mask_two i j

pub three_bits : {x y z s t u i j h : ℕ} → x ≡ 2 ^ s → s ≡ i → y ≡ 2 ^ t → t ≡ j → z ≡ 2 ^ u → u ≡ h
    → bit_or x (bit_or y z) ≡ mask_of (i ∷ j ∷ h ∷ [])
three_bits {i = i} {j = j} {h = h} d e d' e' d'' e'' =
    (λ k. bit_or ((d ∙ ap (λ (j : ℕ). 2 ^ j) e) k) (bit_or ((d' ∙ ap (λ (j : ℕ). 2 ^ j) e') k) ((d'' ∙ ap (λ (j : ℕ). 2 ^ j) e'') k))) ∙ mask_three i j h

pub mask_cons : {x y : ℕ} (s : ℕ) (ks : List ℕ) → x ≡ 2 ^ s → y ≡ mask_of ks → bit_or x y ≡ mask_of (s ∷ ks)
unfolding mask_of
mask_cons s ks d e = λ i. bit_or (d i) (e i)

-- ---- what a step asks and leaves, where its target is known by an equation

pub exchange_needs : {n : ℕ} (ks : List ℕ) {t control j : ℕ} → t ≡ j → control ≡ mask_of ks → Proper n (exchange ks j)
    → (t < n) × (bit_and control (2 ^ t) ≡ 0)
exchange_needs ks {j = j} e m p = rw (e, m) (p.0, target_apart j ks p.2)

module _ {n k : ℕ} {l l' : List ℤ} {r : Option ℕ} where
  pub controlled_at : (g : ℕ → List ℕ → Gate) (ks : List ℕ) {control t j : ℕ} → t ≡ j → control ≡ mask_of ks → Proper n (g j ks) → Controlled n k control (g t) l l' r
      → Stepped n k (g j ks) l l' r
  controlled_at g ks {control} e m p w = (subst (λ (x : ℕ). Controlled n k control (g x) l l' r) e w).by ks m p

  pub controlled_at2 : (g : ℕ → ℕ → List ℕ → Gate) (ks : List ℕ) {control s t i j : ℕ} → s ≡ i → t ≡ j → control ≡ mask_of ks → Proper n (g i j ks)
      → Controlled n k control (g s t) l l' r → Stepped n k (g i j ks) l l' r
  controlled_at2 g ks {control} {t = t} {i = i} d e m p w =
      (subst (λ (y : ℕ). Controlled n k control (g i y) l l' r) e (subst (λ (x : ℕ). Controlled n k control (g x t) l l' r) d w)).by ks m p

  pub sx_at : {t j : ℕ} → t ≡ j → Stepped n k (then (had [] t) (then (phase (t ∷ []) 2) (had [] t))) l l' r
      → Stepped n k (then (had [] j) (then (phase (j ∷ []) 2) (had [] j))) l l' r
  sx_at e w = subst (λ (x : ℕ). Stepped n k (then (had [] x) (then (phase (x ∷ []) 2) (had [] x))) l l' r) e w

-- what a swap asks: each of its exchanges has its target apart from its controls
pub swap_needs : {n : ℕ} (ks : List ℕ) {s t control i j : ℕ} → s ≡ i → t ≡ j → control ≡ mask_of ks → Proper n (exchanges3 ks i j)
    → (s < n) × (t < n) × (bit_and (2 ^ t) (2 ^ s) ≡ 0) × (bit_and (bit_or (2 ^ s) control) (2 ^ t) ≡ 0)
unfolding mask_of
swap_needs ks {i = i} {j = j} d e m p =
    rw (d, e, m) (p.0.0, p.1.0.0, ap (λ (x : ℕ). bit_and x (2 ^ i)) (mask_one j) ∙ target_apart i (j ∷ []) p.0.2, target_apart j (i ∷ ks) p.1.0.2)
