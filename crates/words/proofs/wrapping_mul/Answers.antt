-- `wrapping_mul` meets its contract: of the four products of halves, the high one's part below 2^64 is 0. Assumes
-- nothing.
use Rattle.words.proofs.Halves.{whole}
use Rattle.words.proofs.wrapping_mul.Goals as goal

pub returns : goal.returns
returns c =
    let s = c.args in
    whole s.a s.b c.wrapping_add_u64-cross.result c.wrapping_add_u64.result c.wrapping_add_u64-cross.ensures.value
    c.wrapping_add_u64.ensures.value
