-- The fingerprint of an exact matrix, on naturals modulo 2^64: defined of any product, whether it fits or not, since
-- the demands speak of all lists of a basis. SPECIFICATION, chapter 5. Assumes nothing.
use Rattle.std.specs.Prelude.{List, [], ◌∷◌, ◌++◌, ℕ, zero, suc, ◌+◌, ◌*◌, ◌^◌, ◌/◌, ◌%◌}
use Rattle.std.specs.Int.Bits.{bit_xor}
use Rattle.cyclotomic.specs.Zomega.{Zω}
use Rattle.words.specs.Words.{words, word_product, rotated, word}
use Rattle.exact.specs.Matrix.{Exact}
use Rattle.exact.specs.Phase.{flat, phased}

-- the two streams, 64-bit numbers (SPECIFICATION 5.2)
pub record Streams : Type 0 where
  pub first : ℕ
  pub second : ℕ

-- their first values, hex cbf29ce484222325 and 9e3779b97f4a7c15 (SPECIFICATION 5.2)
abbrev pub start : Streams
start = record { first = 14695981039346656037; second = 11400714819323198485 }

-- both after one word; the constants are hex 100000001b3, 517cc1b727220a95 and 94d049bb133111eb (SPECIFICATION 5.2)
unfoldable pub mix : Streams → ℕ → Streams
mix s w = record {
  first = word_product (bit_xor s.first w) 1099511628211;
  second = word_product (rotated 27 (bit_xor s.second ((w + 5871781006564002453) % words))) 10723151780598845931;
}

-- both after all words, in order
abbrev pub mix_all : Streams → List ℕ → Streams
mix_all s [] = s
mix_all s (w ∷ ws) = mix_all (mix s w) ws

-- a number xor itself shifted right by k (SPECIFICATION 5.3)
abbrev pub xor_shift : ℕ → ℕ → ℕ
xor_shift k a = bit_xor a (a / 2 ^ k)

-- one number of the two streams; the factors are hex bf58476d1ce4e5b9 and 94d049bb133111eb (SPECIFICATION 5.3)
unfoldable pub fold : Streams → ℕ
fold s =
    xor_shift 31 (word_product (xor_shift 27 (word_product (xor_shift 30 (bit_xor s.first (rotated 32 s.second))) 13787848793156543929)) 10723151780598845931)

-- the words of an entry's coefficients
abbrev pub four_words : Zω → List ℕ
four_words x = word x.a ∷ word x.b ∷ word x.c ∷ word x.d ∷ []

-- the words of m entries
abbrev pub words_of : ℕ → (ℕ → Zω) → List ℕ
words_of zero f = []
words_of (suc m) f = four_words (f 0) ++ words_of m (λ i. f (suc i))

-- the words are the width, the exponent and the coefficients of the phased matrix, each modulo 2^64 (SPECIFICATION 5.1)
unfoldable pub fingerprint : ℕ → Exact → ℕ
fingerprint n x = fold (mix_all start (n % words ∷ x.k % words ∷ words_of (2 ^ n * 2 ^ n) (flat n (phased n x).e)))
