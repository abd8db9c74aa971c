-- What counts as known while a width is built, and what answers a matrix. A mode decides the first alone; whatever is
-- shown of all rules that meet the walk's laws holds of each mode. Assumes nothing.
use Rattle.std.specs.Prelude.{Bool, ◌&&◌}
use Rattle.walk.specs.Walk.{Rules}

-- byPrint: a node with the candidate's fingerprint makes it known. keeping: a node that has the fingerprint and is
-- equal up to phase does, so that clashing nodes are both kept (SPECIFICATION 6.7, 6.16)
pub data Mode : Type 0 where
  by_print : Mode
  keeping : Mode

abbrev pub known_in : Mode → (R : Rules) → R.Mat → R.Mat → Bool
known_in by_print R x y = R.known x y
known_in keeping R x y = R.known x y && R.equal x y

-- in every mode a matrix is answered by a node that has its fingerprint and is equal to it up to phase (SPECIFICATION
-- 7.4)
abbrev pub in_mode : Mode → Rules → Rules
in_mode mode R = record {
  Mat = R.Mat;
  one = R.one;
  act = R.act;
  fits = R.fits;
  known = known_in mode R;
  answers = λ x y. R.answers x y && R.equal x y;
  equal = R.equal;
  inverse = R.inverse;
  disjoint = R.disjoint;
  generators = R.generators;
}
