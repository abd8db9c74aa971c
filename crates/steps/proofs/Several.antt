-- Gates of several row operations in place: Y and Cy, Swap and Cswap, and the turn of Sx. Assumes nothing.
use mathlib.Core.Path.{◌≡◌, refl, sym, subst}
use mathlib.Core.List.{List, [], ◌∷◌}
use Prim.Native.Nat.{ℕ, ◌^◌, ◌≤◌, ◌<◌}
use lib.Bits.{bit_or}
use lib.IntN.{ℤ}
use lib.ListN.{length}
use Rattle.std.specs.Prelude.{Some}
use Rattle.cyclotomic.specs.Zomega.{Zω, Small}
use Rattle.circuit.specs.Pairs.{mask_of}
use Rattle.exact.specs.Rows.{phase, turned_exchange, exchanges3}
use Rattle.exact.specs.Fits.{most_k}
use Rattle.exact.specs.Places.{read}
use Rattle.exact.proofs.Words.{Proper, AllSmall}
use Rattle.places.specs.Places.{places, Same, Kept}
use Rattle.rows.specs.Rows.{source_row, phase_rows, exchange_rows}
use Rattle.rows.proofs.Pairs.{source_lt}
use Rattle.places.specs.Held.{Ready}
use Rattle.steps.specs.Step.{Stepped, Controlled}
use Rattle.steps.proofs.Steps.{phase_stepped, exchange_stepped, ready_next, stepped_then}
use Rattle.steps.proofs.Masks.{one_bit, mask_cons}

-- what a row operation ensures, where its exact result is x
abbrev pub Rowed : ℕ → (ℕ → ℕ → Zω) → List ℤ → List ℤ → Type 0
Rowed n x l l' = (length l' ≡ places) × (Same n (read n l') x × Kept n l l')

-- an exchange keeps what is within the limit
pub exchanged_small : (n control t : ℕ) {l l' : List ℤ} → t < n → Rowed n (exchange_rows control (2 ^ t) (read n l)) l l' → AllSmall n (read n l) → AllSmall n (read n l')
exchanged_small n control t h s w =
    record { small = λ r c i j. subst Small (sym (s.1.0.at r c i j)) (w.small (source_row control (2 ^ t) r) c (source_lt n control t r h i) j) }

module _ {n k : ℕ} (b : k ≤ most_k) {l l1 : List ℤ} (w : Ready n k l) where
  -- the turn of one bit's rows
  pub turned_one : (p t : ℕ) {bit : ℕ} → bit ≡ 2 ^ t → Rowed n (phase_rows bit p (read n l)) l l1 → Stepped n k (phase (t ∷ []) p) l l1 (Some k)
  turned_one p t {bit} e f = phase_stepped n k l l1 w bit p b f.0 f.1.0 f.1.1 (t ∷ []) (one_bit e refl)

  pub y_stepped : {l2 l3 : List ℤ} (control t : ℕ) {bit : ℕ} → bit ≡ 2 ^ t → Rowed n (phase_rows bit 6 (read n l)) l l1
      → Rowed n (exchange_rows control (2 ^ t) (read n l1)) l1 l2 → Rowed n (phase_rows bit 2 (read n l2)) l2 l3
      → Controlled n k control (λ ks. turned_exchange ks t) l l3 (Some k)
  y_stepped {l2} {l3} control t {bit} e f g h = record { by = λ ks m p. all ks m p (turned_one 6 t e f) }
    where
      third : Ready n k l2 → Stepped n k (phase (t ∷ []) 2) l2 l3 (Some k)
      third v = phase_stepped n k l2 l3 v bit 2 b h.0 h.1.0 h.1.1 (t ∷ []) (one_bit e refl)

      all : (ks : List ℕ) → control ≡ mask_of ks → Proper n (turned_exchange ks t) → Stepped n k (phase (t ∷ []) 6) l l1 (Some k) → Stepped n k (turned_exchange ks t) l l3 (Some k)
      all ks m p one =
          let two = exchange_stepped n k l1 l2 (ready_next one) control t b g.0 g.1.0 g.1.1 ks m p.1.0 in
          stepped_then n k _ _ l p.1 (Some k) one (stepped_then n k _ _ l1 p.1.1 (Some k) two (third (ready_next two)))

  pub swap_stepped : {l2 l3 : List ℤ} (control s t : ℕ) {bs bt : ℕ} → bs ≡ 2 ^ s → bt ≡ 2 ^ t → Rowed n (exchange_rows bt (2 ^ s) (read n l)) l l1
      → Rowed n (exchange_rows (bit_or bs control) (2 ^ t) (read n l1)) l1 l2 → Rowed n (exchange_rows bt (2 ^ s) (read n l2)) l2 l3
      → Controlled n k control (λ ks. exchanges3 ks s t) l l3 (Some k)
  swap_stepped {l2} {l3} control s t {bs} {bt} d e f g h = record { by = all }
    where
      all : (ks : List ℕ) → control ≡ mask_of ks → Proper n (exchanges3 ks s t) → Stepped n k (exchanges3 ks s t) l l3 (Some k)
      all ks m p =
          let one = exchange_stepped n k l l1 w bt s b f.0 f.1.0 f.1.1 (t ∷ []) (one_bit e refl) p.0 in
          let two = exchange_stepped n k l1 l2 (ready_next one) (bit_or bs control) t b g.0 g.1.0 g.1.1 (s ∷ ks) (mask_cons s ks d m) p.1.0 in
          let three = exchange_stepped n k l2 l3 (ready_next two) bt s b h.0 h.1.0 h.1.1 (t ∷ []) (one_bit e refl) p.1.1 in
          stepped_then n k _ _ l p.1 (Some k) one (stepped_then n k _ _ l1 p.1.1 (Some k) two three)
