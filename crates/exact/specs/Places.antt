-- How signed places hold a matrix: four coefficients for each entry, entries row after row (SPECIFICATION 1.7).
-- Contracts read the code's arrays by it as exact matrices. Assumes nothing.
use Rattle.std.specs.Prelude.{List, ℕ, ◌+◌, ◌*◌, ◌^◌, ℤ, pos, get_or}
use Rattle.cyclotomic.specs.Zomega.{Zω, mk}
use Rattle.exact.specs.Matrix.{Exact}

-- entry number e: a, b, c, d at four places in this order
unfoldable pub entry : List ℤ → ℕ → Zω
entry l e = mk (get_or l (4 * e) (pos 0)) (get_or l (4 * e + 1) (pos 0)) (get_or l (4 * e + 2) (pos 0)) (get_or l (4 * e + 3) (pos 0))

-- the entries of the matrix of width n
abbrev pub read : ℕ → List ℤ → ℕ → ℕ → Zω
read n l r c = entry l (r * 2 ^ n + c)

-- the matrix of width n over √2 to the k
abbrev pub held : ℕ → ℕ → List ℤ → Exact
held n k l = record { k = k; e = read n l }
