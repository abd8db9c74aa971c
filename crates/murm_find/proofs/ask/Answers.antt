-- `ask` meets its contract: the list found is copied. Assumes nothing.
use mathlib.Core.Path.{sym, ap, ◌∙◌}
use mathlib.Core.List.{[], ◌++◌}
use Prim.Native.Nat.{ℕ, ◌≤◌}
use native.Mathlib.Omega.{arith}
use lib.ListN.{length, take, drop, length-take}
use lib.Seq.{length-take-le}
use Rattle.std.specs.Prelude.{Ok}
use Rattle.walk.specs.Answers.{given, outcome}
use Rattle.murm_config.specs.Told.{told_murm}
use Rattle.murm_query.specs.Entries.{told_query}
use Rattle.murm_part.specs.Told.{told_lent}
use Rattle.width_answer.proofs.Widths.{found_short, found_within}
use Rattle.murm_part.proofs.Parts.{record_counted, same_count}
use Rattle.murm_find.proofs.Answered.{long_list_lem}
use Rattle.murm_find.proofs.ask.Goals as goal

pub find_any-requires-clause-counted : goal.find_any-requires-clause-counted
find_any-requires-clause-counted c = record_counted (told_murm c.args.table) c.args.query.width c.requires.table_value c.count_at-count.ensures

pub slice_bounds-list-end : goal.slice_bounds-list-end
slice_bounds-list-end c = found_within _ _ _ [] _ c.find_any.ensures (c.in_ok-size.was ∙ ap Ok c.in-Some.is)

pub slice_bounds-copy_codes-end : goal.slice_bounds-copy_codes-end
slice_bounds-copy_codes-end c =
    let within : c.in-Some.size ≤ length c.find_any.new.list = found_within _ _ _ [] _ c.find_any.ensures (c.in_ok-size.was ∙ ap Ok c.in-Some.is) in
    sym (length-take-le c.in-Some.size c.find_any.new.list within)

pub copy_codes-requires : goal.copy_codes-requires
copy_codes-requires c =
    omega (
      arith,
      c.if-out-table.false,
      found_short _ _ _ [] _ c.find_any.ensures (c.in_ok-size.was ∙ ap Ok c.in-Some.is),
      length-take c.in-Some.size c.find_any.new.list,
    )

pub returns-in-Some : goal.returns-in-Some
returns-in-Some c =
    let a = c.args in
    let t = told_murm a.table in
    let m = told_lent a.lent in
    let q = told_query a.query in
    let size = c.in-Some.size in
    let list = c.find_any.new.list in
    let within : size ≤ length list = found_within _ _ _ [] _ c.find_any.ensures (c.in_ok-size.was ∙ ap Ok c.in-Some.is) in
    let found = same_count t.limits m q c.count_at-count.ensures c.in_ok-size.ensures in
    let copies = rw c.in-Some.is at found.copies a.out.now in
    long_list_lem t m q a.out.now c.if-out-table.false
    (ap (outcome (given size)) (c.copy_codes.ensures ∙ ap (λ (j : ℕ). take size list ++ drop j a.out.now) (length-take-le size list within)) ∙ copies)
