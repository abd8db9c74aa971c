-- What is looked up ahead is a hint, and stays one; and the array that holds it. Assumes nothing.
use mathlib.Core.Path.{◌≡◌, refl, sym, ap, ◌∙◌}
use mathlib.Core.List.{List, [], ◌∷◌, ◌++◌, map}
use Prim.Native.Nat.{ℕ, ◌+◌, ◌-◌, ◌<◌}
use native.Mathlib.Numerals.{add-one}
use native.Mathlib.Omega.{arith}
use lib.ListN.{length, get_or, set, take}
use lib.Seq.{take-suc, take-suc-set}
use Rattle.walk.specs.Lookup.{Lookup, found}
use Rattle.walk.specs.Lookup as lookup
use Rattle.walk.specs.Index.{By, scan, indexed}
use Rattle.walk.proofs.Sequences.{map_snoc}
use Rattle.looked_ahead.specs.Ahead.{ahead_by, Hint, ahead_of, LookedAhead}

-- what is looked up ahead is a hint
pub ahead_leads : (by : By) (l : Lookup) → Hint l (ahead_by by l)
ahead_leads scan l = record { leads = λ h. absurd (h refl) }
ahead_leads indexed (found k) = record { leads = λ h. refl }
ahead_leads indexed lookup.none = record { leads = λ h. absurd (h refl) }

-- and stays one where a node that the look-up gave is the one that it gives later
pub hint_stays : {l l' : Lookup} {a : ℕ} → (l ≡ found a → l' ≡ found a) → Hint l a → Hint l' a
hint_stays f h = record { leads = λ e. f (h.leads e) }

-- what y says of the first j of some numbers stands in the first places, and what it says of the next is stored
pub mapped_more : (y : ℕ → ℕ) (ps new : List ℕ) (j : ℕ) {v : ℕ} → j < length ps → j < length new → v ≡ y (get_or ps j 0) → take j new ≡ map y (take j ps)
    → take (j + 1) (set new j v) ≡ map y (take (j + 1) ps)
mapped_more y ps new j {v} l r e h =
    ap (λ (i : ℕ). take i (set new j v)) (add-one j) ∙ take-suc-set new j v r ∙ ap (λ (z : List ℕ). z ++ (v ∷ [])) h ∙ ap (λ (x : ℕ). map y (take j ps) ++ (x ∷ [])) e
    ∙ sym (ap (λ (i : ℕ). map y (take i ps)) (add-one j) ∙ ap (map y) (take-suc ps j 0 l) ∙ map_snoc y (take j ps) (get_or ps j 0))

-- what was looked up ahead, as a slice from place 0 on
pub looked_first : {by : By} {i f nodes : List ℕ} {count size : ℕ} (prints : List ℕ) → LookedAhead by i f count (take size prints) nodes size
    → take (size - 0) nodes ≡ ahead_of by i f count (take (size - 0) prints)
looked_first {size = size} prints w = let z : size - 0 ≡ size = omega arith in rw z w.is
