-- One entry more of a matrix is mixed in, read at the places of its turn. Assumes nothing.
use mathlib.Core.Path.{◌≡◌, sym, ap, ◌∙◌}
use mathlib.Core.List.{List}
use Prim.Native.Nat.{ℕ, ◌+◌}
use native.Mathlib.Numerals.{add-one}
use lib.IntN.{ℤ}
use Rattle.place_turns.specs.declared.TurnPlaces.{TurnPlaces}
use Rattle.cyclotomic.specs.Zomega.{turn}
use Rattle.cyclotomic.specs.Zomega.{eight_of}
use Rattle.place_turns.specs.Eights.{read_at, PlacesOf}
use Rattle.exact.specs.Fingerprint.{Streams, mix_all, four_words, words_of}
use Rattle.exact.specs.Places.{entry}
use Rattle.prints.proofs.Mixing.{words_last}

-- the words of one entry more, read at a turn's places of its eight
pub eight_last : {p : ℕ} {t : TurnPlaces} {x : List ℤ} {s r : Streams} (l : List ℤ) (s₀ : Streams) (e : ℕ) → PlacesOf p t → x ≡ eight_of (entry l e)
    → s ≡ mix_all s₀ (words_of e (λ i. turn p (entry l i))) → r ≡ mix_all s (four_words (read_at x t))
    → r ≡ mix_all s₀ (words_of (e + 1) (λ i. turn p (entry l i)))
eight_last {t = t} l s₀ e h g i f =
    let z = ap (λ (y : List ℤ). read_at y t) g ∙ h.turns (entry l e) in
    rw (add-one e) (f ∙ (λ k. mix_all (i k) (four_words (z k))) ∙ sym (words_last e s₀ _))
