-- What a list of gates is answered: a number, or a refusal by number and position. The contracts of the code speak of
-- these numbers and not of the cases of an enum (SPECIFICATION 12.8). Assumes nothing.
use Rattle.std.specs.Prelude.{List, ℕ}
use Rattle.ints.specs.Lists.{pick}
use Rattle.cyclotomic.specs.Told.{does_not_fit}
use Rattle.exact.specs.Matrix.{Exact}
use Rattle.exact.specs.Rows.{Gate, act}
use Rattle.exact.specs.Lists.{product}
use Rattle.exact.specs.Fits.{step_fits, Steps, all_fit, unfit_at, steps}

-- what was asked for (an exponent, a fingerprint), or a refusal: first its number, then its position (SPECIFICATION
-- 9.1)
pub data Answer : Type 0 where
  given : ℕ → Answer
  refused : ℕ → ℕ → Answer

-- by its product's exponent, and by how its steps went
abbrev pub by_steps : ℕ → Steps → Answer
by_steps k all_fit = given k
by_steps k (unfit_at i) = refused does_not_fit i

-- a list: the exponent of its product where every step fits, and otherwise 8 at the first gate whose step does not
-- (SPECIFICATION 4.2, 4.3)
unfoldable pub list_answer : ℕ → List ℕ → Answer
list_answer n codes = by_steps (product n codes).k (steps n codes)
