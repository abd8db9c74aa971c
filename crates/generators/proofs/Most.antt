-- No basis has more generators than there are places for, at any width up to 5: a basis only leaves codes out, and one
-- test counts the codes of all kinds at each of the widths. Assumes nothing.
use mathlib.Core.Path.{◌≡◌, refl}
use mathlib.Core.Bool.{Bool, true, false, ◌&&◌}
use mathlib.Core.List.{List, [], ◌∷◌}
use Prim.Native.Nat.{ℕ, ◌≤◌}
use native.Mathlib.Nat.{le_trans}
use native.Mathlib.Omega.{arith}
use borrow.Author.Tests.{leb-true}
use lib.Dec.{leb}
use lib.ListN.{length}
use Rattle.ints.specs.Lists.{pick, range, each, all, elem, distinct}
use Rattle.ints.proofs.Bools.{all_range}
use Rattle.ints.proofs.Runs.{each_length_le}
use Rattle.kinds.specs.Kinds.{kind_at, arity, sorted, is_kind, of_tables}
use Rattle.circuit.specs.Sets.{member}
use Rattle.circuit.specs.Codes.{code_of, kind_number, kind_of, valid, valid_for}
use Rattle.operands.specs.Operands.{placed, rises}
use Rattle.generators.specs.Generators.{most, kept, thirds, seconds, firsts, generators}

-- the code, if it is valid at the width
unfoldable good : ℕ → ℕ → List ℕ
good n g = pick (valid n g) (g ∷ []) []

-- the generators with the basis test left out
unfoldable unbound : ℕ → List ℕ
unbound n = each (range 0 12) (λ k. each (range 0 n) (λ a. each (range 0 n) (λ b. each (range 0 n) (λ c. good n (code_of k a b c)))))

kept_le : (n basis g : ℕ) → length (kept n basis g) ≤ length (good n g)
unfolding kept good valid_for
kept_le n basis g = by (member basis (kind_number g)) (of_tables (kind_of g)) (valid n g)
  where
    by : (s o t : Bool) → length (pick (s && (o && t)) (g ∷ []) []) ≤ length (pick t (g ∷ []) [])
    by true true t = omega arith
    by true false true = omega arith
    by true false false = omega arith
    by false o true = omega arith
    by false o false = omega arith

abbrev enough : ℕ → Bool
enough n = leb (length (unbound n)) most

-- at each width below 6 the codes of all kinds are few enough, counted
counted : all enough (range 0 6) ≡ true
unfolding all range each unbound good valid placed rises elem distinct is_kind arity sorted kind_at
counted = refl

pub most_enough : (n basis : ℕ) → n ≤ 5 → length (generators n basis) ≤ most
unfolding generators unbound
most_enough n basis h =
    le_trans
    (each_length_le (range 0 12) (firsts n basis) _
    (λ k. each_length_le (range 0 n) (seconds n basis k) _
    (λ a. each_length_le (range 0 n) (thirds n basis k a) _
    (λ b. each_length_le (range 0 n) _ _
    (λ c. kept_le n basis (code_of k a b c))))))
    (leb-true (length (unbound n)) most (all_range enough 6 0 counted n (omega arith) (omega arith)))
