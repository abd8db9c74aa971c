-- A code and its parts: each gives the other back. Codes of a basis are valid. Assumes nothing.
use mathlib.Core.Path.{◌≡◌, refl}
use mathlib.Core.Bool.{true, ◌&&◌}
use mathlib.Core.List.{List, [], ◌∷◌}
use Prim.Native.Nat.{ℕ, ◌<◌}
use native.Mathlib.Omega.{arith}
use Rattle.ints.specs.Lists.{all}
use Rattle.ints.proofs.Bools.{and_both, and_left, and_right, both_true}
use Rattle.kinds.specs.Kinds.{of_tables}
use Rattle.circuit.specs.Sets.{member}
use Rattle.circuit.specs.Codes.{code_of, kind_number, kind_of, first, second, third, valid, valid_for}

pub code_whole : (g : ℕ) → code_of (kind_number g) (first g) (second g) (third g) ≡ g
code_whole g = omega arith

module _ (k a b c : ℕ) (ha : a < 16) (hb : b < 16) (hc : c < 16) where
  pub code_kind : kind_number (code_of k a b c) ≡ k
  code_kind = omega arith

  pub code_first : first (code_of k a b c) ≡ a
  code_first = omega arith

  pub code_second : second (code_of k a b c) ≡ b
  code_second = omega arith

  pub code_third : third (code_of k a b c) ≡ c
  code_third = omega arith

-- a code of a basis is valid, and of a kind of tables
pub code_valid : (n basis g : ℕ) → valid_for n basis g ≡ true → valid n g ≡ true
unfolding valid_for
code_valid n basis g h = and_right (of_tables (kind_of g)) (valid n g) (and_right (member basis (kind_number g)) (of_tables (kind_of g) && valid n g) h)

pub code_table : (n basis g : ℕ) → valid_for n basis g ≡ true → of_tables (kind_of g) ≡ true
unfolding valid_for
code_table n basis g h = and_left (of_tables (kind_of g)) (valid n g) (and_right (member basis (kind_number g)) (of_tables (kind_of g) && valid n g) h)

-- codes of a basis are valid
pub basis_valid : (n basis : ℕ) (l : List ℕ) → all (valid_for n basis) l ≡ true → all (valid n) l ≡ true
unfolding all
basis_valid n basis [] h = refl
basis_valid n basis (g ∷ l) h =
    let t = both_true (valid_for n basis g) (all (valid_for n basis) l) h in
    and_both (valid n g) (all (valid n) l) (code_valid n basis g t.0) (basis_valid n basis l t.1)
