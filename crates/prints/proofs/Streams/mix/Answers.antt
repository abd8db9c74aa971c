-- `mix` meets its contract: each stream goes by the callees' products, rotation and sum, which are the definition's.
use Rattle.exact.specs.Fingerprint.{mix}
use Rattle.prints.proofs.Streams.mix.Goals as goal

pub returns : goal.returns
unfolding mix
returns c =
    rw (
      c.wrapping_mul-second.ensures,
      c.rotate_left.ensures,
      c.wrapping_add_u64-shifted.ensures.value,
      c.wrapping_mul-first.ensures,
    )
