-- `sign_extended` meets its contract: a coefficient fits once it is widened, and its bits are its word. Assumes nothing.
use Rattle.std.proofs.Common.{◌≡◌, ◌^◌, ◌<◌, ℤ, pos, negsuc, ◌∙◌, arith, to_z-of_z, w64, SFits, of_z}
use lib.Signed.{mag}
use mir.Val.{hbits}
use Rattle.coefficients.specs.Coefficients.{near}
use Rattle.words.specs.Words.{word}
use Rattle.words.proofs.sign_extended.Goals as goal

bits_are : (x : ℤ) → mag x < 2 ^ hbits near → of_z w64 x ≡ word x
unfolding word
bits_are (pos n) f = omega arith
bits_are (negsuc n) f = omega arith

widened : {x : ℤ} → SFits near x → SFits w64 x
widened f = record { sfits = omega (arith, f.sfits) }

pub returns : goal.returns
returns c =
    let f = c.ranges.x in
    rw (to_z-of_z f, to_z-of_z (widened f)) at c.cast_unsigned.ensures ∙ bits_are c.args.x f.sfits
