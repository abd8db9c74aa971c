-- The T charge of a list: the one place where T gates are counted. Assumes nothing.
use Rattle.std.specs.Prelude.{List, [], ◌∷◌, ℕ, ◌+◌}
use Rattle.kinds.specs.Kinds.{kind_charge}
use Rattle.circuit.specs.Codes.{kind_of}

unfoldable pub charge : List ℕ → ℕ
charge [] = 0
charge (g ∷ gs) = kind_charge (kind_of g) + charge gs
