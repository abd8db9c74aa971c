-- What is asked of a search once the rows of a find are passed; row 12 of an answer, and what is answered where it does
-- not hold. Assumes nothing.
use mathlib.Core.Path.{◌≡◌, refl, ◌∙◌}
use mathlib.Core.Bool.{false}
use mathlib.Core.List.{List}
use Prim.Native.Nat.{ℕ, ◌≤◌, ◌<◌}
use borrow.Author.Tests.{lt-ltb, le-ltb}
use lib.ListN.{length}
use Rattle.walk.specs.Answers.{refused, Outcome, outcome}
use Rattle.refusal.specs.Told.{by_row}
use Rattle.refusal.proofs.Numbers.{passed}
use Rattle.tables.specs.Checks.{Arrays, room_row}
use Rattle.tables.specs.Tables.{Table, Query, record_row}
use Rattle.tables.proofs.Asked.{part_asked, good_look}
use Rattle.murm_query.specs.Work.{Askable}
use Rattle.murm_find.specs.Entries.{asked_of}
use Rattle.murm_find.specs.Work.{LentChecked}

-- what `find_any` and `ask` require, of a find that `check_lent` has passed
pub may_search : (t : Table) (a : Arrays) (q : Query) → LentChecked t a q (by_row 0)
    → ((record_row t).holds ≡ false) × (((room_row t.limits a).holds ≡ false) × Askable q)
may_search t a q f = let (r, m, p, e) = good_look t a.by a _ (passed f.told) in (r, (m, (e, f.small refl)))

module _ (t : Table) (a : Arrays) (q : Query) (out : List ℕ) where
  pub short_list : length out < t.limits.gates → outcome (refused 12 0) out ≡ asked_of t a q out
  short_list h = rw (lt-ltb (length out) t.limits.gates h)

  pub long_list_lem : t.limits.gates ≤ length out → {o : Outcome} → o ≡ part_asked t a q out → o ≡ asked_of t a q out
  long_list_lem h e = e ∙ rw (le-ltb (length out) t.limits.gates h)
