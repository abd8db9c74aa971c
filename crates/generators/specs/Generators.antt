-- The generators of a basis at a width (SPECIFICATION 2.8). Assumes nothing.
use Rattle.std.specs.Prelude.{◌≡◌, true, ℕ}
use mathlib.Core.List.{List, [], ◌∷◌, Memᴰ}
use Rattle.ints.specs.Lists.{pick, range, each, Rising}
use Rattle.circuit.specs.Codes.{code_of, valid_for}

-- the most generators at a width up to 5
abbrev pub most : ℕ
most = 105

-- the kinds below this number are tried: the last that a basis allows is Ccz, 11
abbrev pub tried : ℕ
tried = 12

-- the code, if it is one of the basis at the width
unfoldable pub kept : ℕ → ℕ → ℕ → List ℕ
kept n basis g = pick (valid_for n basis g) (g ∷ []) []

-- the loops, the innermost first: over the third operand, the second, the first
abbrev pub thirds : ℕ → ℕ → ℕ → ℕ → ℕ → List ℕ
thirds n basis k a b = each (range 0 n) (λ c. kept n basis (code_of k a b c))

abbrev pub seconds : ℕ → ℕ → ℕ → ℕ → List ℕ
seconds n basis k a = each (range 0 n) (λ b. thirds n basis k a b)

abbrev pub firsts : ℕ → ℕ → ℕ → List ℕ
firsts n basis k = each (range 0 n) (λ a. seconds n basis k a)

-- by kind, then first, second, third operand, each rising (SPECIFICATION 2.8)
unfoldable pub generators : ℕ → ℕ → List ℕ
generators n basis = each (range 0 tried) (λ k. firsts n basis k)

-- the codes are those that are valid at the width and of a kind in the basis, each once, in rising order
pub record Lists (n basis : ℕ) (codes : List ℕ) : Type 0 where
  pub rising : Rising codes
  pub sound : (g : ℕ) → Memᴰ g codes → valid_for n basis g ≡ true
  pub complete : (g : ℕ) → valid_for n basis g ≡ true → Memᴰ g codes
