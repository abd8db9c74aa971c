-- `rotate_left` meets its contract: std's rotation is an or of two parts that share no bit, and at no places the word
-- itself. Assumes nothing.
use Rattle.std.proofs.Common.{◌≡◌, ℕ, zero, suc, ◌-◌, ◌*◌, ◌/◌, ◌%◌, ◌^◌, ◌<◌, refl, ◌∙◌, subst, mod-eq_of_lt, arith}
use Rattle.std.specs.Int.Bits.{bit_or, or_self}
use Rattle.words.specs.Words.{rotated}
use Rattle.words.proofs.Halves.{rotate_word, rotate_none}
use Rattle.words.proofs.rotate_left.Goals as goal

turned : (k a r : ℕ) → a < 2 ^ 64 → k % 64 ≡ r → bit_or ((a * 2 ^ r) % 2 ^ 64) (a / 2 ^ ((64 - r) % 64)) ≡ rotated k a
turned k a zero g e =
    let p : (a * 2 ^ 0) % 2 ^ 64 ≡ a = omega arith in
    let q : a / 2 ^ ((64 - 0) % 64) ≡ a = omega arith in
    rw (p, q, or_self) (rotate_none k a g e)
turned k a (suc r) g e =
    let l : k % 64 < 64 = omega arith in
    let s : (64 - suc r) % 64 ≡ 64 - suc r = mod-eq_of_lt (omega arith) in
    rw s (subst (λ (j : ℕ). bit_or ((a * 2 ^ j) % 2 ^ 64) (a / 2 ^ (64 - j)) ≡ rotated k a) e (rotate_word k a g))

pub returns : goal.returns
returns c = c.rotate_left.ensures ∙ turned c.args.places c.args.a (c.args.places % 64) (omega arith) refl
