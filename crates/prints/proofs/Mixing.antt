-- The fingerprint by places: the words of one entry more are mixed in after the others, and the whole is width,
-- exponent and entries. Assumes nothing.
use Rattle.std.proofs.Common.{◌≡◌, ℕ, zero, suc, ◌*◌, ◌^◌, ◌<◌, List, ℤ, refl, mod-eq_of_lt}
use Rattle.cyclotomic.specs.Zomega.{Zω, turn}
use Rattle.words.specs.Words.{words}
use Rattle.exact.specs.Phase.{flat, phase_of, phased}
use Rattle.exact.specs.Fingerprint.{Streams, start, mix, mix_all, fold, four_words, words_of, fingerprint}
use Rattle.exact.proofs.Prints.{words_same}
use Rattle.exact.specs.Places.{entry, held}
use Rattle.places.proofs.Placed.{read_at}
use Rattle.phases.proofs.Pivots.{phase_any}

-- the words of one entry more
pub words_last : (m : ℕ) (s : Streams) (f : ℕ → Zω) → mix_all s (words_of (suc m) f) ≡ mix_all (mix_all s (words_of m f)) (four_words (f m))
words_last zero s f = refl
words_last (suc m) s f = words_last m (mix_all s (four_words (f 0))) (λ i. f (suc i))

-- the words of the entries, turned by the phase
phased_words : (n k p : ℕ) (l : List ℤ) → p ≡ phase_of n (held n 0 l)
    → words_of (2 ^ n * 2 ^ n) (λ i. turn p (entry l i)) ≡ words_of (2 ^ n * 2 ^ n) (flat n (phased n (held n k l)).e)
phased_words n k p l e = words_same (2 ^ n * 2 ^ n) _ _ (λ i q. rw (e, phase_any n k 0 l, read_at n l i))

-- width, exponent, and then the entries
pub print_is : (n k p : ℕ) (l : List ℤ) → n < words → k < words → p ≡ phase_of n (held n 0 l)
    → fold (mix_all (mix (mix start n) k) (words_of (2 ^ n * 2 ^ n) (λ i. turn p (entry l i)))) ≡ fingerprint n (held n k l)
unfolding fingerprint
print_is n k p l h g e = rw (mod-eq_of_lt h, mod-eq_of_lt g, phased_words n k p l e)
