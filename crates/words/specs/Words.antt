-- Words of 64 bits. Assumes nothing.
use Rattle.std.specs.Prelude.{ℕ, ◌+◌, ◌-◌, ◌*◌, ◌/◌, ◌%◌, ◌^◌, ℤ, pos, negsuc}

-- how many words there are
abbrev pub words : ℕ
words = 2 ^ 64

-- the product modulo 2^64 (SPECIFICATION 5.2)
unfoldable pub word_product : ℕ → ℕ → ℕ
word_product a b = (a * b) % words

-- rotated left by k: each bit moves up k places, and those that pass bit 63 come in again at bit 0 (SPECIFICATION 5.2)
unfoldable pub rotated : ℕ → ℕ → ℕ
rotated k a = (a * 2 ^ (k % 64)) % words + a / 2 ^ (64 - k % 64)

-- the word of a coefficient: its remainder by 2^64, which extends its sign (SPECIFICATION 5.1)
unfoldable pub word : ℤ → ℕ
word (pos n) = n % words
word (negsuc n) = words - 1 - n % words
