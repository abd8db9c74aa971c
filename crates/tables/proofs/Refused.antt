-- Where a lent table answers none and where a list, and which rows refuse of a built one, exactly. Assumes nothing.
use mathlib.Core.Path.{◌≡◌, refl, sym, ap, ◌∙◌, subst}
use mathlib.Core.Logic.{◌↔◌, ◌⊎◌, inl, inr}
use mathlib.Core.Bool.{true, false}
use mathlib.Core.List.{List, [], ◌∷◌, ◌++◌}
use Prim.Native.Nat.{ℕ, ◌<◌}
use native.Mathlib.Omega.{arith}
use lib.ListN.{length, drop}
use Rattle.walk.specs.Modes.{Mode}
use Rattle.walk.specs.Answers.{refused, outcome}
use Rattle.walk.specs.Meaning.{AnsweredBy, NoList, BadFound}
use Rattle.walk.proofs.Meaning.{kind_of_lem}
use Rattle.tables.specs.Checks.{Row, first_row, Arrays, parts_row, query_rows}
use Rattle.tables.specs.Tables.{Table, Query, matrix_of, list_row, not_a_width, limits_at, part_at}
use Rattle.tables.specs.Built.{Built}
use Rattle.tables.specs.Demand3.{Gives, GivesNone, Refuses, NotRefused}
use Rattle.tables.specs.Exactly.{cause, First, query_causes}
use Rattle.tables.proofs.Rows.{NoPositions, first_position_lem, no_positions_append, no_positions_query}
use Rattle.tables.proofs.Causes.{is_lt, InWords, done, more, words_append, first_to, first_from}
use Rattle.tables.proofs.InWords.{query_in_words}
use Rattle.tables.proofs.Replies.{number_of, row_of_answer, ReplyCase, not_a_width_lem, part_asked_lem, by_row, row_refuses, width_none, width_asked, cases}
use Rattle.tables.proofs.Replies.{gives_asked, asked_means, gives_answers}
use Rattle.tables.proofs.OfBuilt.{rows_are}
use Rattle.tables.proofs.Demand3.{demand}

-- ---- a lent table

module _ (t : Table) (a : Arrays) (q : Query) (out : List ℕ) where
  -- the part of the query's width
  abbrev BadPart : Type 0
  BadPart = BadFound (limits_at t.limits q.width) (part_at t a q.width) (matrix_of q)

  abbrev NoPart : Type 0
  NoPart = NoList (limits_at t.limits q.width) (part_at t a q.width) (matrix_of q)

  -- a refusal comes from the first row that holds, or is 13 for a chain that is met
  data Refusal (r : ℕ) : Type 0 where
    row_holds : 0 < r → row_of_answer t a q out ≡ r → Refusal r
    chain_bad : r ≡ 13 → row_of_answer t a q out ≡ 0 → not_a_width t q.width ≡ false → BadPart → Refusal r

  refused_by : (r : ℕ) → Refuses t a q out r → Refusal r
  refused_by r n = by (cases t a q out)
    where
      by : ReplyCase t a q out → Refusal r
      by (not_a_width_lem e w m) = absurd (omega (arith, kind_of_lem (sym m ∙ n)))
      by (part_asked_lem e w p) = let x = ((asked_means t a q out).is_refused r 0 out).0 (sym p ∙ n) in chain_bad x.1 e w x.0
      by (by_row s h e m) = let z = number_of (sym m ∙ n) in row_holds (omega arith) (e ∙ z)

  -- none is told exactly where no row holds, and the table has not the width or the part of the width has no list
  pub none_exactly : GivesNone t a q out ↔ ((row_of_answer t a q out ≡ 0) × ((not_a_width t q.width ≡ true) ⊎ ((not_a_width t q.width ≡ false) × NoPart)))
  none_exactly = (to, from)
    where
      to : GivesNone t a q out → (row_of_answer t a q out ≡ 0) × ((not_a_width t q.width ≡ true) ⊎ ((not_a_width t q.width ≡ false) × NoPart))
      to n = by (cases t a q out)
        where
          by : ReplyCase t a q out → (row_of_answer t a q out ≡ 0) × ((not_a_width t q.width ≡ true) ⊎ ((not_a_width t q.width ≡ false) × NoPart))
          by (not_a_width_lem e w m) = (e, inl w)
          by (part_asked_lem e w p) = (e, inr (w, (((asked_means t a q out).is_none out).0 (sym p ∙ n)).0))
          by (by_row s h e m) = absurd (omega (arith, kind_of_lem (sym m ∙ n)))

      from : (row_of_answer t a q out ≡ 0) × ((not_a_width t q.width ≡ true) ⊎ ((not_a_width t q.width ≡ false) × NoPart)) → GivesNone t a q out
      from (e, inl w) = width_none t a q out e w
      from (e, inr (w, x)) = width_asked t a q out e w ∙ ((asked_means t a q out).is_none out).1 (x, refl)

  -- a list is given exactly where no row holds, the table has the width, and the part of the width has the list
  pub gives_exactly : (l : List ℕ) → Gives t a q out l
      ↔ ((row_of_answer t a q out ≡ 0) × (not_a_width t q.width ≡ false)
      × AnsweredBy (limits_at t.limits q.width) (part_at t a q.width) (matrix_of q) l)
  gives_exactly l = (
    (λ g. let (e, w, p) = gives_asked t a q out l g in (e, w, gives_answers t a q out l g)),
    (λ x. width_asked t a q out x.0 x.1 ∙ ((asked_means t a q out).is_list (length l) (l ++ drop (length l) out)).1 (l, x.2, refl, refl)),
  )

  -- ---- a built table whose index 17 does not refuse: the query's rows and the list's are all

  pub refused_built : {mode : Mode} → Built mode t a → (parts_row t.limits a).holds ≡ false → (r : ℕ) → Refuses t a q out r ↔ First r 0 (query_causes q ++ (cause 12 (length out < t.limits.gates) ∷ []))
  refused_built {mode} b i r = (
    (λ n. let (h, e) = to n (refused_by r n) in subst (λ (p : ℕ). First r p (query_causes q ++ (cause 12 (length out < t.limits.gates) ∷ []))) (first_position_lem rows none) (first_to words r h (sym (rows_are t a b i q out) ∙ e))),
    (λ w. let (e, h, z) = first_from words r 0 w in row_refuses t a q out r h (rows_are t a b i q out ∙ e)),
  )
    where
      rows : List Row
      rows = query_rows q.width q.exponent q.numbers ++ (list_row t out ∷ [])

      none : NoPositions rows
      none = no_positions_append (query_rows q.width q.exponent q.numbers) (list_row t out ∷ []) (no_positions_query q.width q.exponent q.numbers) (refl, tt)

      words : InWords rows (query_causes q ++ (cause 12 (length out < t.limits.gates) ∷ []))
      words = words_append (query_in_words q) (more 12 (omega arith) (is_lt (length out) t.limits.gates) done)

      to : Refuses t a q out r → Refusal r → (0 < r) × (row_of_answer t a q out ≡ r)
      to n (row_holds h e) = (h, e)
      to n (chain_bad z e w x) = absurd (demand.never_13 mode t a b q out (n ∙ ap (λ (s : ℕ). outcome (refused s 0) out) z))

  -- a query that none of these rows refuses is not refused
  pub never_refused : {mode : Mode} → Built mode t a → (parts_row t.limits a).holds ≡ false → first_row (query_rows q.width q.exponent q.numbers ++ (list_row t out ∷ [])) ≡ 0 → NotRefused t a q out
  never_refused {mode} b i e r n = by (refused_by r n)
    where
      by : Refusal r → ⊥
      by (row_holds h z) = absurd (omega (arith, h, sym z ∙ (rows_are t a b i q out ∙ e)))
      by (chain_bad z x w y) = demand.never_13 mode t a b q out (n ∙ ap (λ (s : ℕ). outcome (refused s 0) out) z)
