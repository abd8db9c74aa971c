-- Laws of the first row whose condition holds, and of an entry by its rows. Assumes nothing.
use mathlib.Core.Path.{◌≡◌, refl, ap, ◌∙◌}
use mathlib.Core.Bool.{true, false}
use mathlib.Core.List.{List, [], ◌∷◌, ◌++◌}
use Prim.Native.Nat.{ℕ, ◌<◌}
use native.Mathlib.Omega.{arith}
use borrow.Author.Tests.{ne_eqb}
use lib.IntN.{ℤ}
use lib.Dec.{eqb}
use Rattle.ints.specs.Lists.{pick}
use Rattle.exact.proofs.Values.{pick_ind}
use Rattle.walk.specs.Index.{By, scan, indexed}
use Rattle.tables.specs.Checks.{Row, first_row, first_position, by_rows, Limits, limit_rows, index_row, query_rows}

-- ---- what is so of every row

abbrev pub Each : (Row → Type 0) → List Row → Type 0
Each P [] = Unit {0}
Each P (r ∷ rs) = P r × Each P rs

-- P is so of every row's number
abbrev pub Numbers : (ℕ → Type 0) → List Row → Type 0
Numbers P = Each (λ r. P r.number)

-- then of the first's that holds, if it is so of 0 too
pub first_number : (P : ℕ → Type 0) (rs : List Row) → P 0 → Numbers P rs → P (first_row rs)
unfolding first_row
first_number P [] z u = z
first_number P (r ∷ rs) z u = pick_ind P r.holds (λ e. u.0) (λ e. first_number P rs z u.1)

-- every row's number is not 0
abbrev pub Numbered : List Row → Type 0
Numbered = Numbers (λ k. 0 < k)

pub numbered_limits : (l : Limits) → Numbered (limit_rows l)
numbered_limits l = (omega arith, (omega arith, (omega arith, (omega arith, tt))))

pub numbered_query : (n k : ℕ) (numbers : List ℤ) → Numbered (query_rows n k numbers)
numbered_query n k numbers = (omega arith, (omega arith, (omega arith, (omega arith, tt))))

-- by either look-up
pub index_number : (l : Limits) (by : By) (places : ℕ) → (index_row l by places).number ≡ 17
index_number l scan places = refl
index_number l indexed places = refl

-- every row tells no position; then the first that holds tells none
abbrev pub NoPositions : List Row → Type 0
NoPositions = Each (λ r. r.position ≡ 0)

pub first_position_lem : (rs : List Row) → NoPositions rs → first_position rs ≡ 0
first_position_lem [] u = refl
first_position_lem (r ∷ rs) u = pick_ind (λ (p : ℕ). p ≡ 0) r.holds (λ e. u.0) (λ e. first_position_lem rs u.1)

pub no_positions_append : (rs ss : List Row) → NoPositions rs → NoPositions ss → NoPositions (rs ++ ss)
no_positions_append [] ss u v = v
no_positions_append (r ∷ rs) ss u v = (u.0, no_positions_append rs ss u.1 v)

pub no_positions_index : (l : Limits) (by : By) (places : ℕ) → NoPositions (index_row l by places ∷ [])
no_positions_index l scan places = (refl, tt)
no_positions_index l indexed places = (refl, tt)

pub no_positions_limits : (l : Limits) → NoPositions (limit_rows l)
no_positions_limits l = (refl, (refl, (refl, (refl, tt))))

pub no_positions_query : (n k : ℕ) (numbers : List ℤ) → NoPositions (query_rows n k numbers)
no_positions_query n k numbers = (refl, (refl, (refl, (refl, tt))))

-- ---- an entry, by its rows

module _ {A : Type 0} (rs : List Row) (asked : A) (refuse : ℕ → ℕ → A) where
  -- none holds
  pub rows_pass : first_row rs ≡ 0 → by_rows rs asked refuse ≡ asked
  rows_pass e = ap (λ (r : ℕ). pick (eqb r 0) asked (refuse r (first_position rs))) e

  -- the first that holds refuses
  pub rows_refuse : (r : ℕ) → 0 < r → first_row rs ≡ r → by_rows rs asked refuse ≡ refuse r (first_position rs)
  rows_refuse r h e = ap (λ (r : ℕ). pick (eqb r 0) asked (refuse r (first_position rs))) e ∙ rw (ne_eqb r 0 (omega arith))

  -- at no position, where none is told
  pub rows_refuse_at_0 : NoPositions rs → (r : ℕ) → 0 < r → first_row rs ≡ r → by_rows rs asked refuse ≡ refuse r 0
  rows_refuse_at_0 u r h e = rows_refuse r h e ∙ ap (refuse r) (first_position_lem rs u)

-- ---- one row and the rest

-- a row that holds is the first
pub first_here : (r : Row) (rs : List Row) → r.holds ≡ true → first_row (r ∷ rs) ≡ r.number
unfolding first_row
first_here r rs e = rw e

-- a row that does not hold is passed
pub first_past : (r : Row) (rs : List Row) → r.holds ≡ false → first_row (r ∷ rs) ≡ first_row rs
unfolding first_row
first_past r rs e = rw e

-- the last row does not hold
pub first_last : (r : Row) → r.holds ≡ false → first_row (r ∷ []) ≡ 0
unfolding first_row
first_last r e = rw e

-- where no row holds, the first one does not, and none of the rest does
pub first_none : (r : Row) (rs : List Row) → 0 < r.number → first_row (r ∷ rs) ≡ 0 → (r.holds ≡ false) × (first_row rs ≡ 0)
unfolding first_row
first_none r rs p =
    pick_ind (λ (z : ℕ). z ≡ 0 → (r.holds ≡ false) × (first_row rs ≡ 0)) r.holds (λ e f. absurd (omega arith)) (λ e f. (e, f))

-- ---- rows after rows

-- where none of the first rows holds, the later ones decide
pub first_row_append : (rs ss : List Row) → Numbered rs → first_row rs ≡ 0 → first_row (rs ++ ss) ≡ first_row ss
first_row_append [] ss p e = refl
first_row_append (r ∷ rs) ss p e =
    let f = first_none r rs p.0 e in
    first_past r (rs ++ ss) f.0 ∙ first_row_append rs ss p.1 f.1

-- a refusal of the first rows stays
pub first_some : (rs ss : List Row) (a : ℕ) → 0 < a → first_row rs ≡ a → first_row (rs ++ ss) ≡ a
unfolding first_row
first_some [] ss a p = λ e. absurd (omega arith)
first_some (r ∷ rs) ss a p =
    pick_ind (λ (z : ℕ). z ≡ a → first_row ((r ∷ rs) ++ ss) ≡ a) r.holds
    (λ h e. first_here r (rs ++ ss) h ∙ e) (λ h e. first_past r (rs ++ ss) h ∙ first_some rs ss a p e)

-- where none of all the rows holds, none of the first does and none of the later does
pub append_none : (rs ss : List Row) → Numbered rs → first_row (rs ++ ss) ≡ 0 → (first_row rs ≡ 0) × (first_row ss ≡ 0)
unfolding first_row
append_none [] ss p e = (refl, e)
append_none (r ∷ rs) ss p e =
    let f = first_none r (rs ++ ss) p.0 e in
    let g = append_none rs ss p.1 f.1 in
    (first_past r rs f.0 ∙ g.0, g.1)
