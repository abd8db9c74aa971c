-- What a built table answers: rows 13 and 5 do not refuse it, and a width that it has answers as the walk does, where
-- its index was filled from it. Assumes nothing.
use mathlib.Core.Path.{◌≡◌, refl, sym, ap, ◌∙◌}
use mathlib.Core.Bool.{false}
use mathlib.Core.List.{List, [], ◌∷◌, ◌++◌, reverse}
use mathlib.Core.Option.{Option, none, some}
use Prim.Native.Nat.{ℕ, ◌+◌, ◌-◌, ◌*◌, ◌≤◌, ◌<◌}
use native.Mathlib.Omega.{arith}
use lib.IntN.{ℤ}
use lib.ListN.{length, get_or, drop}
use lib.Seq.{get_or-take, get_or-drop}
use Rattle.exact.specs.Matrix.{Exact, Lowest, all_divisible}
use Rattle.exact.specs.Places.{read, held}
use Rattle.walk.specs.Walk.{list_at}
use Rattle.walk.specs.Modes.{Mode}
use Rattle.walk.specs.AtWidth.{at_width}
use Rattle.walk.specs.Index.{By, scan}
use Rattle.walk.specs.Chains.{good}
use Rattle.walk.specs.Finds.{chain_at}
use Rattle.walk.specs.Meaning.{BadFound}
use Rattle.walk.proofs.Nodewise.{answered}
use Rattle.walk.proofs.Grown.{Shape}
use Rattle.walk.proofs.Layers.{walk_shape}
use Rattle.walk.proofs.Holding.{Holding, held_chain, not_bad, given_held}
use Rattle.walk.specs.Answers.{given, refused, outcome, answer_of}
use Rattle.walk.specs.Answers as a
use Rattle.walk.proofs.Meaning.{kind_of_lem, at_below}
use Rattle.tables.specs.Checks.{first_row, Arrays, room_row, index_row, parts_row, query_rows}
use Rattle.tables.specs.Tables.{Table, Width, width_at, walk_of, Query, query, matrix_of, record_row, list_row, part_of, not_a_width, synthesized, limits_at, part_at}
use Rattle.tables.specs.Built.{Built, FilledFrom}
use Rattle.tables.specs.EitherLookup.{scanned}
use Rattle.tables.specs.Demand3.{Gives}
use Rattle.tables.proofs.Rows.{index_number, first_number, first_past}
use Rattle.tables.proofs.Causes.{is_true, fails, none_to}
use Rattle.tables.proofs.InWords.{not-both, query_in_words}
use Rattle.tables.proofs.Accepted.{accepted}
pub use Rattle.tables.proofs.Counts.{has_width, a_width, counted}
use Rattle.tables.proofs.Counts.{walk_count, count_at_lem, width_is, good_record}
use Rattle.tables.proofs.Indexes.{looks_scan}
use Rattle.tables.proofs.Asked.{passed, good_look, look_passed}
use Rattle.tables.proofs.Joined.{told_option, joined}
use Rattle.tables.proofs.Replies.{not_given, one_list, row_of_answer, width_asked, gives_asked, gives_answers}

-- ---- a query that no row refuses

-- row 11: it is in lowest denominator
pub asked_lowest : (n k : ℕ) (numbers : List ℤ) → first_row (query_rows n k numbers) ≡ 0 → Lowest n (held n k numbers)
asked_lowest n k numbers e = record { lowest = λ h. fails (is_true (all_divisible n (read n numbers))) (λ d. (none_to (query_in_words (query n k numbers)) e).1.1.1.0 0 ((h, d), refl)) }

-- ---- the rows of an answer

-- none but that of the record is 13
pub only_record : (t : Table) (a : Arrays) (q : Query) (out : List ℕ) → (record_row t).holds ≡ false → row_of_answer t a q out ≡ 13 → ⊥
only_record t a q out r e =
    first_number (λ (k : ℕ). k ≡ 13 → ⊥)
    (room_row t.limits a ∷ parts_row t.limits a ∷ (query_rows q.width q.exponent q.numbers ++ (list_row t out ∷ []))) (other 0 (omega arith)) (
      other 5 (omega arith),
      (
        λ z. absurd (omega (arith, z, index_number t.limits a.by (length a.index))),
        (other 6 (omega arith), (other 9 (omega arith), (other 10 (omega arith), (other 11 (omega arith), (other 12 (omega arith), tt))))),
      ),
    )
    (sym (first_past (record_row t) _ r) ∙ e)
  where
    other : (k : ℕ) → k < 13 → k ≡ 13 → ⊥
    other k h z = absurd (omega (arith, h, z))

-- where no row holds, none of the query's does
pub query_passed : (t : Table) (a : Arrays) (q : Query) (out : List ℕ) → row_of_answer t a q out ≡ 0 → first_row (query_rows q.width q.exponent q.numbers) ≡ 0
query_passed t a q out e = (good_look t a.by a _ (passed t a q out e).0).3

-- ---- an answer of the walk, told

pub told_some : (o : Option (List ℕ)) (out l : List ℕ) → told_option o out ≡ outcome (given (length l)) (l ++ drop (length l) out) → o ≡ some l
told_some none out l e = not_given (omega arith) e
told_some (some m) out l e = ap some (one_list m l out e)

pub told_none : (o : Option (List ℕ)) (out : List ℕ) → told_option o out ≡ outcome a.none out → o ≡ none
told_none none out e = refl
told_none (some m) out e = not_given (omega arith) (sym e)

pub not_refusal : (o : Option (List ℕ)) (r : ℕ) (out : List ℕ) → told_option o out ≡ outcome (refused r 0) out → ⊥
not_refusal none r out e = absurd (omega (arith, kind_of_lem e))
not_refusal (some l) r out e = absurd (omega (arith, kind_of_lem e))

-- by the scan nothing is asked of an index
pub scan_filled : (t : Table) (a : Arrays) → a.by ≡ scan → FilledFrom t a
scan_filled t a e = record {
  parts = ap (λ (y : By). (index_row t.limits y (length a.index)).holds) e;
  is = λ h. not-both e h;
}

-- ---- a built table

module _ {mode : Mode} (t : Table) (a : Arrays) (b : Built mode t a) where
  -- its basis and its limits
  abbrev B : ℕ
  B = t.limits.basis

  abbrev Q : ℕ
  Q = t.limits.qubits

  abbrev G : ℕ
  G = t.limits.gates

  abbrev E : ℕ
  E = t.limits.entries

  -- the query's rows and the list's decide, where 17 does not refuse
  pub rows_are : (parts_row t.limits a).holds ≡ false → (q : Query) (out : List ℕ)
      → row_of_answer t a q out ≡ first_row (query_rows q.width q.exponent q.numbers ++ (list_row t out ∷ []))
  rows_are p q out = look_passed t a.by a _ (good_record t a b) b.room p

  pub widths_small : (w : ℕ) → w ≤ Q → w ≤ 5
  widths_small w h = omega (arith, (accepted t.limits b.accepted).widths)

  -- ---- a width that it has

  module _ (w : ℕ) (p : 0 < w) (h : w ≤ Q) where
    -- a place of the width's part
    in_part : (xs : List ℕ) (j : ℕ) → j < E → get_or (part_of w E xs) j 0 ≡ get_or xs ((w - 1) * E + j) 0
    in_part xs j l = get_or-take E (drop ((w - 1) * E) xs) j 0 l ∙ get_or-drop ((w - 1) * E) xs j 0

    few : length (walk_of mode t.limits w).nodes ≤ E
    few = (walk_count mode t.limits w (accepted t.limits b.accepted).some).1

    -- the parts hold the nodes of the walk
    holding : Holding w (walk_of mode t.limits w).nodes (part_of w E a.prints) (part_of w E a.parents) (part_of w E a.codes)
    holding = record {
      prints = λ j l. in_part a.prints j (omega (arith, few)) ∙ (b.nodes w p h j l).print;
      parents = λ j l. in_part a.parents j (omega (arith, few)) ∙ (b.nodes w p h j l).parent;
      codes = λ j l. in_part a.codes j (omega (arith, few)) ∙ (b.nodes w p h j l).code;
    }

    shape : Shape (at_width mode w B) G E (walk_of mode t.limits w)
    shape = walk_shape (at_width mode w B) G E

    -- a node's chain is its list
    pub chain_at_lem : (k : ℕ) → k < (width_at t w).count → chain_at (limits_at t.limits w) (part_at t a w) k ≡ good (reverse (list_at (walk_of mode t.limits w).nodes k))
    chain_at_lem k l =
        held_chain mode (limits_at t.limits w) (widths_small w h) shape.layered.grown shape.limit (part_at t a w) (count_at_lem t a b w p h) holding k
        (omega (arith, l, ap (λ (v : Width). v.count) (width_is t a b w p h)))

    -- and none that is looked at is bad
    good_chains : (x : Exact) → BadFound (limits_at t.limits w) (part_at t a w) x → ⊥
    good_chains =
        not_bad mode (limits_at t.limits w) (widths_small w h) shape.layered.grown shape.limit (part_at t a w) (count_at_lem t a b w p h) holding

    -- it answers as the walk does, where the index was filled from it
    pub part_answers : FilledFrom t a → (x : Exact) (out : List ℕ)
        → answer_of (limits_at t.limits w) (part_at t a w) x out
        ≡ told_option (answered mode w B G E x) out
    part_answers f x out =
        joined mode (limits_at t.limits w) (widths_small w h) (part_at t a w) (count_at_lem t a b w p h) holding x (looks_scan t a f (good_record t a b) w p h) out

  -- whatever the index holds, what is looked at has no fault: it is one of the width's nodes
  pub no_fault : (w : ℕ) (x : Exact) → BadFound (limits_at t.limits w) (part_at t a w) x → ⊥
  no_fault w x f = let (p, h, z) = counted t w (at_below (limits_at t.limits w) (part_at t a w) x f.leads) in good_chains w p h x f

  -- ---- a query

  module _ (q : Query) (out : List ℕ) where
    -- that no row refuses, of a width that the table has
    pub told_walk : FilledFrom t a → row_of_answer t a q out ≡ 0 → not_a_width t q.width ≡ false → synthesized t a q out ≡ told_option (answered mode q.width B G E (matrix_of q)) out
    told_walk x e f = let w = a_width t q.width f in width_asked t a q out e f ∙ part_answers q.width w.0 w.1 x (matrix_of q) out

    -- a list is the walk's, whatever the index holds
    pub gives_walk : (l : List ℕ) → Gives t a q out l → answered mode q.width B G E (matrix_of q) ≡ some l
    gives_walk l g =
        let (e, f, z) = gives_asked t a q out l g in
        let (p, h) = a_width t q.width f in
        let s = shape q.width p h in
        let r = gives_answers t a q out l g in
        given_held mode (limits_at t.limits q.width) (widths_small q.width h) s.layered.grown s.limit (part_at t a q.width)
        (count_at_lem t a b q.width p h) (holding q.width p h) (matrix_of q)
        (asked_lowest q.width q.exponent q.numbers (query_passed t a q out e)) r.node l r.found

-- the arrays alone are the table: it is built by the scan too
scan_built : {mode : Mode} (t : Table) (a : Arrays) → Built mode t a → Built mode t (scanned a)
scan_built t a b = record {
  accepted = b.accepted;
  returned = b.returned;
  room = b.room;
  nodes = λ w p h j l. let n = b.nodes w p h j l in record { print = n.print; parent = n.parent; code = n.code };
}

-- a list that is given through any index is given by the scan
pub scan_gives : {mode : Mode} (t : Table) (a : Arrays) → Built mode t a → (q : Query) (out l : List ℕ) → Gives t a q out l → Gives t (scanned a) q out l
scan_gives t a b q out l g =
    let (e, f, z) = gives_asked t a q out l g in
    let parts = (good_look t a.by a _ (passed t a q out e).0).2 in
    told_walk t (scanned a) (scan_built t a b) q out (scan_filled t (scanned a) refl)
    (rows_are t (scanned a) (scan_built t a b) refl q out ∙ sym (rows_are t a b parts q out) ∙ e) f
    ∙ ap (λ (o : Option (List ℕ)). told_option o out) (gives_walk t a b q out l g)
