-- `open_width` meets its contract: the fingerprint of the places that hold the identity is the identity's. Assumes
-- nothing.
use mathlib.Core.Path.{◌∙◌}
use native.Mathlib.Omega.{arith}
use Rattle.exact.proofs.Prints.{fingerprint_equal}
use Rattle.places.proofs.Placed.{area_le}
use Rattle.width_layer.proofs.open_width.Goals as goal

pub unitary_fingerprint-print-requires-clause-n_in_bounds : goal.unitary_fingerprint-print-requires-clause-n_in_bounds
unitary_fingerprint-print-requires-clause-n_in_bounds c = omega (arith, area_le _ c.requires.narrow, c.put_identity.ensures.identity.long)

pub returns : goal.returns
returns c = record {
  opened =
      let l = c.args.limits in
      c.put_root.ensures.put l (c.unitary_fingerprint-print.ensures ∙ fingerprint_equal l.width c.put_identity.ensures.identity.equal);
}
