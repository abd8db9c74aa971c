-- Lists of gate codes, oldest first, and their products, which are exact: the demands speak of them whether they fit or
-- not. Assumes nothing.
use Rattle.std.specs.Prelude.{List, [], ◌∷◌, ℕ}
use Rattle.exact.specs.Matrix.{Exact, identity}
use Rattle.exact.specs.Rows.{gate_of, act}

-- what the steps of a list make of the matrix x, the oldest gate first (SPECIFICATION 3.3)
abbrev pub after : ℕ → Exact → List ℕ → Exact
after n x [] = x
after n x (g ∷ l) = after n (act n (gate_of n g) x) l

-- the product: what they make of the identity. It is in lowest denominator, since each step ends with lowering
-- (SPECIFICATION 3.5)
unfoldable pub product : ℕ → List ℕ → Exact
product n l = after n identity l
