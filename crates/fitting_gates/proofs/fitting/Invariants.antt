-- `fitting` meets its contract: of the gates passed, those whose steps fit stand in the first places, with the
-- fingerprints of their candidates. Assumes nothing.
use mathlib.Core.Path.{◌≡◌}
use Prim.Native.Nat.{◌*◌}
use lib.ListN.{length, take}
use Rattle.exact.specs.Places.{held}
use Rattle.places.specs.Places.{places}
use Rattle.fitting_gates.specs.Fitting.{unfit, candidate_print}
use Rattle.fitting_gates.proofs.TwoSifted.{TwoSifted}
use Rattle.fitting_gates.proofs.fitting.Given as goal

abbrev pub invariant-loop-pair : goal.invariant-loop-pair
invariant-loop-pair l =
    TwoSifted (unfit l.n (held l.n l.exponent l.m)) (candidate_print l.n (held l.n l.exponent l.m)) (take l.size l.initial.kept) l.initial.kept l.initial.prints l.kept l.prints l.fit (2 * l.pair)
    × (length l.left ≡ places) × (length l.right ≡ places)
