-- The walk at a width and a basis, in a mode, over exact matrices. And the words of demand 3 about lists, which are
-- here oldest gate first, as callers have them. Assumes nothing.
use Rattle.std.specs.Prelude.{◌≡◌, Bool, true, List, reverse, ℕ, ◌≤◌, eqb, length}
use Rattle.ints.specs.Lists.{all}
use Rattle.circuit.specs.Codes.{valid_for}
use Rattle.circuit.specs.Pairs.{inverse, disjoint}
use Rattle.generators.specs.Generators.{generators}
use Rattle.exact.specs.Matrix.{Exact, identity, PowerOf}
use Rattle.exact.specs.Rows.{act, gate_of}
use Rattle.exact.specs.Lists.{product}
use Rattle.exact.specs.Fits.{step_fits}
use Rattle.exact.specs.Phase.{up_to_phase}
use Rattle.exact.specs.Fingerprint.{fingerprint}
use Rattle.walk.specs.Walk.{Rules, Node, Build, walk}
use Rattle.walk.specs.Modes.{Mode, in_mode}

-- two matrices have one fingerprint
unfoldable pub same_print : ℕ → Exact → Exact → Bool
same_print n x y = eqb (fingerprint n x) (fingerprint n y)

-- ---- what the arrays hold of a node

-- the fingerprint of its list's product, oldest gate first (SPECIFICATION 8.8)
abbrev pub print_of : ℕ → Node → ℕ
print_of n v = fingerprint n (product n (reverse v.list))

-- the number of its parent; for node 0 the mark
abbrev pub parent_of : Node → ℕ
parent_of v = v.parent

-- ---- the walk

-- what the modes are made of at width n with a basis: a fingerprint alone makes known and answers
abbrev pub plain_at : ℕ → ℕ → Rules
plain_at n basis = record {
  Mat = Exact;
  one = identity;
  act = λ g x. act n (gate_of n g) x;
  fits = λ g x. step_fits n (gate_of n g) x;
  known = same_print n;
  answers = same_print n;
  equal = up_to_phase n;
  inverse = inverse;
  disjoint = disjoint;
  generators = generators n basis;
}

-- what the walk is handed
abbrev pub at_width : Mode → ℕ → ℕ → Rules
at_width mode n basis = in_mode mode (plain_at n basis)

-- the width as a build with gate limit G and entry limit E leaves it (SPECIFICATION 6.4 to 6.9, 6.16)
abbrev pub built : Mode → ℕ → ℕ → ℕ → ℕ → Build
built mode n basis G E = walk (at_width mode n basis) G E

-- a list of the basis at the width: all its codes, if it has any, are valid for the basis there (SPECIFICATION 8.6)
abbrev pub ListOf : ℕ → ℕ → List ℕ → Type 0
ListOf n basis l = all (valid_for n basis) l ≡ true

-- no clash: where two lists of the basis at the width, each of at most G gates, have one fingerprint, the product of
-- the second is a power of omega times that of the first (SPECIFICATION 8.14)
abbrev pub NoSharedPrint : ℕ → ℕ → ℕ → Type 0
NoSharedPrint n basis G =
    (l m : List ℕ) → ListOf n basis l → ListOf n basis m → length l ≤ G → length m ≤ G
    → fingerprint n (product n l) ≡ fingerprint n (product n m) → PowerOf n (product n l) (product n m)
