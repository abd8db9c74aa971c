-- What the samples state: computed, or from demand 3. Assumes nothing.
use mathlib.Core.Path.{◌≡◌, refl, sym, ap, ◌∙◌, subst}
use mathlib.Core.Logic.{◌⊎◌, inl, inr}
use mathlib.Core.Bool.{true, false, not}
use mathlib.Core.List.{List, [], ◌∷◌}
use mathlib.Core.Option.{Option, none, some}
use Prim.Native.Nat.{ℕ, zero, suc, ◌^◌, ◌≤◌, ◌<◌}
use native.Mathlib.Omega.{arith}
use borrow.Author.Tests.{lt-ltb, le-ltb, ltb-true, eq-eqb}
use lib.Dec.{eqb, ltb}
use lib.IntN.{pos}
use lib.ListN.{length, replicate}
use Rattle.ints.specs.Bits.{bit}
use Rattle.ints.specs.Lists.{range, each, all, elem, distinct}
use Rattle.ints.proofs.Bools.{clash}
use Rattle.cyclotomic.specs.Zomega.{Zω, zeroω, oneω, addω, mulω, is_zero, turn, less, least_up_to, fits, eqω}
use Rattle.coefficients.specs.Coefficients.{eq_z}
use Rattle.words.specs.Words.{word_product, rotated, word}
use Rattle.circuit.specs.Sets.{subset}
use Rattle.kinds.specs.Kinds.{kind_at, number, arity, sorted, is_kind, dual, of_tables}
use Rattle.circuit.specs.Codes.{mark, valid, valid_for}
use Rattle.operands.specs.Operands.{placed, rises}
use Rattle.circuit.specs.Pairs.{inverse, qubits, disjoint}
use Rattle.generators.specs.Generators.{kept, generators}
use Rattle.exact.specs.Matrix.{Exact, identity, lower, PowerOf}
use Rattle.exact.proofs.Words.{Equal}
use Rattle.exact.specs.Unitary.{conj, inner, Unitary}
use Rattle.exact.specs.Rows.{flip, column, gate_of}
use Rattle.exact.specs.Lists.{product}
use Rattle.exact.specs.Fits.{step_fits, steps}
use Rattle.exact.specs.Phase.{pivot, phase_of, up_to_phase}
use Rattle.exact.specs.Fingerprint.{mix, fold, fingerprint}
use Rattle.exact.specs.Places.{entry}
use Rattle.walk.specs.Lookup.{lowest_from}
use Rattle.walk.specs.Index.{probed, probe_of, inserted, free_of}
use Rattle.walk.specs.Index as index
use Rattle.walk.specs.Chains.{marked, chain_of}
use Rattle.walk.specs.Walk.{Build, skipped, try, try_all, layer, deeper, depths, walk}
use Rattle.exact.proofs.Listed.{product_nil}
use Rattle.walk.proofs.Nodewise.{recheck, answer_by, answered}
use Rattle.walk.specs.Modes.{Mode, by_print, keeping}
use Rattle.walk.specs.AtWidth.{same_print, at_width, built, ListOf, NoSharedPrint, print_of}
use Rattle.walk.specs.Known.{SkippedRightly}
use Rattle.walk.proofs.Nodes.{first}
use Rattle.walk.proofs.Layers.{walk_shape}
use Rattle.walk.proofs.Known.{present_no_clash}
use Rattle.walk.proofs.Exactly.{no_clash}
use Rattle.samples.proofs.Walks as walks
use Rattle.samples.proofs.NotEmpty.{no_shared}
use Rattle.walk.specs.Finds.{rechecked, find_from, find_by}
use Rattle.walk.specs.Finds as f
use Rattle.walk.specs.Answers.{write_of}
use Rattle.walk.proofs.Meaning.{kind_of_lem}
use Rattle.tables.specs.Checks.{first_row, Limits, limits_of, limit_rows, Arrays, in_parts, parts_row, any_below, query_rows}
use Rattle.tables.specs.Tables.{Table, width_at, walk_of, record_of, built_to, refusal, left, build_rows, build_of, filled_index, filled, not_filled, fill_left, fill_of, parts_to, Query, query, matrix_of, list_row, found_in, written_in, synthesized}
use Rattle.tables.specs.Built.{Built, FilledFrom}
use Rattle.tables.specs.EitherLookup.{scanned, through}
use Rattle.tables.specs.Demand3.{Gives, GivesNone, Refuses, NotRefused, NoSmaller, Reaches, Complete}
use Rattle.samples.specs.Tables.{x_limits, deep_limits, larger_limits, ch_limits, Places, ask_x, ask_t, ask_zero, eight_places, damaged, mistaken, circular, foreign, no_parent_mark, no_code_mark, forgotten, emptied, crowded, misled, one_place, no_places, strange, fewer, clashing, three, alike, Samples}
use Rattle.tables.proofs.Rows.{numbered_query, first_here, first_past, first_row_append}
use Rattle.tables.proofs.Accepted.{room_is}
use Rattle.tables.proofs.FromBuild.{rows_none, build_fills, build_refusal}
use Rattle.tables.proofs.Asked.{part_found, answer_passed, asked_by}
use Rattle.tables.proofs.Joined.{told_option}
use Rattle.tables.proofs.Replies.{row_of_answer, row_refuses}
use Rattle.tables.proofs.OfBuilt.{scan_filled, has_width, not_refusal, rows_are, told_walk}
use Rattle.tables.proofs.Demand3.{demand, beside}
use Rattle.tables.proofs.FindWrite.{find_write}
use Rattle.tables.specs.AnswerRule.{first_found_in, first_synthesized}
use Rattle.walk.specs.Answers as ans
use Rattle.tables.specs.FindWrite.{Finds, FindsNone, FindRefuses, Writes, WriteRefuses}

-- ---- computed

-- matrices of width 1 are equal by four entries
four : (x y : Exact) → x.k ≡ y.k → x.e 0 0 ≡ y.e 0 0 → x.e 0 1 ≡ y.e 0 1 → x.e 1 0 ≡ y.e 1 0 → x.e 1 1 ≡ y.e 1 1 → Equal 1 x y
four x y k e00 e01 e10 e11 = record { exponent = k; entries = at }
  where
    at : (r c : ℕ) → r < 2 ^ 1 → c < 2 ^ 1 → x.e r c ≡ y.e r c
    at zero zero p q = e00
    at zero (suc zero) p q = e01
    at (suc zero) zero p q = e10
    at (suc zero) (suc zero) p q = e11
    at zero (suc (suc c)) p q = absurd (omega arith)
    at (suc zero) (suc (suc c)) p q = absurd (omega arith)
    at (suc (suc r)) c p q = absurd (omega arith)

x_is : Equal 1 (matrix_of ask_x) (product 1 (4096 ∷ []))
unfolding product zeroω oneω turn gate_of column flip lower entry valid placed rises all elem distinct range kind_at arity sorted is_kind number bit
x_is = four (matrix_of ask_x) (product 1 (4096 ∷ [])) refl refl refl refl refl

t_is : Equal 1 (matrix_of ask_t) (product 1 (20480 ∷ []))
unfolding product zeroω oneω turn gate_of column flip lower entry valid placed rises all elem distinct range kind_at arity sorted is_kind number bit
t_is = four (matrix_of ask_t) (product 1 (20480 ∷ [])) refl refl refl refl refl

-- row 0 of the zero matrix comes to 0, not to 1
zero_not_unitary : Unitary 1 (matrix_of ask_zero) → ⊥
unfolding inner conj mulω addω zeroω entry
zero_not_unitary u = clash (ap (λ (z : Zω). eq_z z.a (pos 1)) (u.own 0 (omega arith))) refl

-- what holds in each of the two modes
each_mode : (P : Mode → Type 0) → P by_print → P keeping → (mode : Mode) → P mode
each_mode P p k by_print = p
each_mode P p k keeping = k

record Computed : Type 0 where
  -- no row refuses the limits or the queries, and row 3 refuses the basis with Ch
  ch_limits_lem : (a : Arrays) → first_row (build_rows ch_limits a) ≡ 3
  x_limits_lem : first_row (limit_rows x_limits) ≡ 0
  deep_limits_lem : first_row (limit_rows deep_limits) ≡ 0
  larger_limits_lem : first_row (limit_rows larger_limits) ≡ 0
  x_passes : first_row (query_rows 1 0 ask_x.numbers) ≡ 0
  t_passes : first_row (query_rows 1 0 ask_t.numbers) ≡ 0
  zero_passes : first_row (query_rows 1 0 ask_zero.numbers) ≡ 0
  -- what the walk of width 1 answers in each mode; it is not saturated
  walk_x : (mode : Mode) → answered mode 1 2 8 2 (matrix_of ask_x) ≡ some (4096 ∷ [])
  walk_t : (mode : Mode) → answered mode 1 2 8 2 (matrix_of ask_t) ≡ none
  unsaturated : (mode : Mode) → (walk_of mode x_limits 1).saturated ≡ false
  deep_t : answered keeping 1 2 29 2 (matrix_of ask_t) ≡ none
  deep_unsaturated : (walk_of keeping deep_limits 1).saturated ≡ false
  -- what the altered memory answers; node 0's fingerprint is not 7
  damaged_x : Gives (record_of by_print x_limits) damaged ask_x eight_places (4096 ∷ [])
  mistaken_t : GivesNone (record_of by_print x_limits) mistaken ask_t eight_places
  circular_x : Refuses (record_of by_print x_limits) circular ask_x eight_places 13
  unmarked_x : Refuses (record_of by_print x_limits) no_parent_mark ask_x eight_places 13 × Refuses (record_of by_print x_limits) no_code_mark ask_x eight_places 13
  foreign_x : Refuses (record_of by_print x_limits) foreign ask_x eight_places 13
  forgotten_x : GivesNone (record_of by_print x_limits) forgotten ask_x eight_places
  damaged_find : Finds (record_of by_print x_limits) damaged ask_x 1 1
  damaged_write : Writes (record_of by_print x_limits) damaged 1 1 eight_places (4096 ∷ [])
  mistaken_find : FindsNone (record_of by_print x_limits) mistaken ask_t
  mistaken_write : Writes (record_of by_print x_limits) mistaken 1 1 eight_places (4096 ∷ [])
  circular_find : FindRefuses (record_of by_print x_limits) circular ask_x 13
  circular_write : WriteRefuses (record_of by_print x_limits) circular 1 1 eight_places 13
  circular_short : WriteRefuses (record_of by_print x_limits) circular 1 1 [] 12 × Refuses (record_of by_print x_limits) circular ask_x [] 12
  no_node : WriteRefuses (record_of by_print x_limits) circular 1 2 [] 16
  past_count : FindsNone fewer damaged ask_x × WriteRefuses fewer damaged 1 1 eight_places 16
  strange_count : ltb 0 (width_at strange 2).count ≡ true
  no_width : WriteRefuses strange damaged 2 0 eight_places 16 × WriteRefuses strange damaged 0 0 eight_places 16 × WriteRefuses strange damaged 4294967295 0 eight_places 16
  -- how many places an index may have, what the altered index answers, and that an empty one leads nowhere
  four_places : (in_parts x_limits 4 ≡ true) × (in_parts x_limits 3 ≡ false) × (in_parts x_limits 2 ≡ false) × (in_parts larger_limits 8 ≡ false) × (in_parts larger_limits 16 ≡ true)
  six_places : (in_parts x_limits 6 ≡ false) × (in_parts larger_limits 12 ≡ false) × (in_parts x_limits 8 ≡ true) × (in_parts x_limits 0 ≡ false)
  one_build : (build_of by_print x_limits one_place ≡ left (refusal 17 0) one_place) × (build_of by_print x_limits no_places ≡ left (refusal 5 0) no_places)
  one_fill : (fill_of (record_of by_print x_limits) one_place ≡ fill_left (not_filled 17 0) (0 ∷ [])) × (fill_of (record_of by_print x_limits) no_places ≡ fill_left (not_filled 5 0) [])
  one_answer : Refuses (record_of by_print x_limits) one_place ask_x eight_places 17 × Refuses (record_of by_print x_limits) one_place (query 6 0 []) [] 17
      × Refuses (record_of by_print x_limits) no_places ask_x eight_places 5
  damaged_fill : fill_of (record_of by_print x_limits) (through damaged (0 ∷ 1 ∷ 2 ∷ mark ∷ [])) ≡ fill_left filled (mark ∷ 1 ∷ mark ∷ 0 ∷ [])
  damaged_filled : Gives (record_of by_print x_limits) (through damaged (mark ∷ 1 ∷ mark ∷ 0 ∷ [])) ask_x eight_places (4096 ∷ [])
  crowded_x : Gives (record_of by_print x_limits) crowded ask_x eight_places (4096 ∷ [])
  misled_t : GivesNone (record_of by_print x_limits) misled ask_t eight_places
  emptied_found : (a : Arrays) → part_found (record_of by_print x_limits) (emptied a) ask_x ≡ f.none
  root_print : eqb 7 (fingerprint 1 identity) ≡ false
  -- memory with one fingerprint several times
  clashing_x : Gives (record_of by_print x_limits) clashing ask_x eight_places (4096 ∷ [])
  clashing_find : Finds (record_of by_print x_limits) clashing ask_x 1 1
  clashing_fill : fill_of (record_of by_print x_limits) (through clashing (0 ∷ 0 ∷ 0 ∷ 0 ∷ [])) ≡ fill_left filled (mark ∷ 0 ∷ 1 ∷ mark ∷ [])
  clashing_filled : Gives (record_of by_print x_limits) (through clashing (mark ∷ 0 ∷ 1 ∷ mark ∷ [])) ask_x eight_places (4096 ∷ [])
  clashing_first : (first_found_in (record_of by_print x_limits) clashing ask_x ≡ f.none) × (first_synthesized (record_of by_print x_limits) clashing ask_x eight_places ≡ ans.outcome ans.none eight_places)
  bad_before : Refuses three (alike 1 0) ask_x eight_places 13 × FindRefuses three (alike 1 0) ask_x 13
  bad_behind : Gives three (alike 0 2) ask_x eight_places (4096 ∷ []) × Finds three (alike 0 2) ask_x 1 1
  -- X is of the basis
  x_of : ListOf 1 2 (4096 ∷ [])

computed : Computed
unfolding first_found_in first_synthesized of_tables build_of fill_of filled_index parts_to index.filled inserted free_of synthesized found_in written_in record_of first_row in_parts subset any_below find_by find_from write_of lowest_from probed probe_of chain_of marked rechecked steps answer_by recheck up_to_phase eqω product walk depths deeper layer try_all try skipped same_print fingerprint mix fold word_product rotated word pivot phase_of least_up_to less turn zeroω oneω is_zero gate_of column flip lower step_fits fits valid valid_for placed rises all elem distinct range each kept generators kind_at arity sorted is_kind number dual inverse qubits disjoint bit entry
computed = record {
  ch_limits_lem = λ a. refl;
  x_limits_lem = refl;
  deep_limits_lem = refl;
  larger_limits_lem = refl;
  x_passes = refl;
  t_passes = refl;
  zero_passes = refl;
  walk_x = each_mode (λ mode. answered mode 1 2 8 2 (matrix_of ask_x) ≡ some (4096 ∷ [])) refl refl;
  walk_t = each_mode (λ mode. answered mode 1 2 8 2 (matrix_of ask_t) ≡ none) refl refl;
  unsaturated = each_mode (λ mode. (walk_of mode x_limits 1).saturated ≡ false) refl refl;
  deep_t = refl;
  deep_unsaturated = refl;
  damaged_x = refl;
  mistaken_t = refl;
  circular_x = refl;
  unmarked_x = (refl, refl);
  foreign_x = refl;
  forgotten_x = refl;
  damaged_find = refl;
  damaged_write = refl;
  mistaken_find = refl;
  mistaken_write = refl;
  circular_find = refl;
  circular_write = refl;
  circular_short = (refl, refl);
  no_node = refl;
  past_count = (refl, refl);
  strange_count = refl;
  no_width = (refl, refl, refl);
  four_places = (refl, refl, refl, refl, refl);
  six_places = (refl, refl, refl, refl);
  one_build = (refl, refl);
  one_fill = (refl, refl);
  one_answer = (refl, refl, refl);
  damaged_fill = refl;
  damaged_filled = refl;
  crowded_x = refl;
  misled_t = refl;
  emptied_found = λ a. refl;
  root_print = refl;
  clashing_x = refl;
  clashing_find = refl;
  clashing_fill = refl;
  clashing_filled = refl;
  clashing_first = (refl, refl);
  bad_before = (refl, refl);
  bad_behind = (refl, refl);
  x_of = refl;
}

-- ---- tables of these limits

-- arrays with room, and an index in parts, are not refused
fills : (l : Limits) (a : Arrays) → first_row (limit_rows l) ≡ 0 → Places l a → first_row (build_rows l a) ≡ 0
fills l a e p = rows_none l a e (room_is l a p.in_prints p.in_parents p.in_codes) p.in_index

-- a build leaves a built table of the limits, and an index that is filled from it
left_by : (mode : Mode) (l : Limits) (a : Arrays) → first_row (limit_rows l) ≡ 0 → Places l a
    → Built mode (record_of mode l) (built_to mode l l.qubits a) × ((record_of mode l).limits ≡ l) × FilledFrom (record_of mode l) (built_to mode l l.qubits a)
left_by mode l a e p = demand.build_built mode l a (built_to mode l l.qubits a) (record_of mode l) (build_fills mode l a (fills l a e p))

-- only 12 may refuse a query that passes
asked_12 : {mode : Mode} (t : Table) (a : Arrays) → Built mode t a → (parts_row t.limits a).holds ≡ false → (q : Query) (out : List ℕ)
    → first_row (query_rows q.width q.exponent q.numbers) ≡ 0 → row_of_answer t a q out ≡ first_row (list_row t out ∷ [])
asked_12 t a b p q out e =
    rows_are t a b p q out
    ∙ first_row_append (query_rows q.width q.exponent q.numbers) (list_row t out ∷ []) (numbered_query q.width q.exponent q.numbers) e

-- a query that passes is answered as the walk does, where the lent list has G places, and otherwise is refused by 12
module _ {mode : Mode} (l : Limits) (a : Arrays) (b : Built mode (record_of mode l) a) (x : FilledFrom (record_of mode l) a) (q : Query) (out : List ℕ)
    (e : first_row (query_rows q.width q.exponent q.numbers) ≡ 0) where
  only_12 : row_of_answer (record_of mode l) a q out ≡ first_row (list_row (record_of mode l) out ∷ [])
  only_12 = asked_12 (record_of mode l) a b x.parts q out e

  told : l.gates ≤ length out → 0 < q.width → q.width ≤ l.qubits
      → synthesized (record_of mode l) a q out ≡ told_option (answered mode q.width l.basis l.gates l.entries (matrix_of q)) out
  unfolding record_of first_row
  told h p w =
      told_walk (record_of mode l) a b q out x (only_12 ∙ first_past (list_row (record_of mode l) out) [] (le-ltb (length out) l.gates h))
      (has_width (record_of mode l) q.width p w)

  too_short : length out < l.gates → Refuses (record_of mode l) a q out 12
  unfolding record_of
  too_short h =
      row_refuses (record_of mode l) a q out 12 (omega arith)
      (only_12 ∙ first_here (list_row (record_of mode l) out) [] (lt-ltb (length out) l.gates h))

-- X alone, in either mode
module _ (mode : Mode) (a : Arrays) (p : Places x_limits a) where
  a_table : Built mode (record_of mode x_limits) (built_to mode x_limits 1 a)
  a_table = (left_by mode x_limits a computed.x_limits_lem p).0

  a_filled : FilledFrom (record_of mode x_limits) (built_to mode x_limits 1 a)
  a_filled = (left_by mode x_limits a computed.x_limits_lem p).2

  gives_x : (out : List ℕ) → 8 ≤ length out → Gives (record_of mode x_limits) (built_to mode x_limits 1 a) ask_x out (4096 ∷ [])
  gives_x out h =
      told x_limits (built_to mode x_limits 1 a) a_table a_filled ask_x out computed.x_passes h (omega arith) (omega arith)
      ∙ ap (λ (o : Option (List ℕ)). told_option o out) (computed.walk_x mode)

  none_t : (out : List ℕ) → 8 ≤ length out → GivesNone (record_of mode x_limits) (built_to mode x_limits 1 a) ask_t out
  none_t out h =
      told x_limits (built_to mode x_limits 1 a) a_table a_filled ask_t out computed.t_passes h (omega arith) (omega arith)
      ∙ ap (λ (o : Option (List ℕ)). told_option o out) (computed.walk_t mode)

  finds_none_t : FindsNone (record_of mode x_limits) (built_to mode x_limits 1 a) ask_t
  unfolding record_of
  finds_none_t = (find_write.none_same (record_of mode x_limits) (built_to mode x_limits 1 a) ask_t eight_places (omega arith)).1 (none_t eight_places (omega arith))

  -- none is no refusal
  not_refused : NotRefused (record_of mode x_limits) (built_to mode x_limits 1 a) ask_t eight_places
  not_refused r n = absurd (omega (arith, kind_of_lem (sym (none_t eight_places (omega arith)) ∙ n)))

  no_t : Complete (record_of mode x_limits) (built_to mode x_limits 1 a) ask_t → (m : List ℕ) → Reaches (record_of mode x_limits) ask_t m → length m ≤ 8 → ⊥
  unfolding record_of
  no_t c m r h = (c.none_exactly (omega arith) (omega arith) (computed.unsaturated mode) eight_places not_refused).0 (none_t eight_places (omega arith)) m r h

  zero_passes : (out : List ℕ) → 8 ≤ length out → NotRefused (record_of mode x_limits) (built_to mode x_limits 1 a) ask_zero out
  zero_passes out h r n =
      not_refusal (answered mode 1 2 8 2 (matrix_of ask_zero)) r out
      (sym (told x_limits (built_to mode x_limits 1 a) a_table a_filled ask_zero out computed.zero_passes h (omega arith) (omega arith)) ∙ n)

-- (c): where a fingerprint alone makes known, by the condition; where clashing nodes are kept, without one
complete : (a : Arrays) → Places x_limits a → (q : Query) → q.width ≡ 1 → Complete (record_of by_print x_limits) (built_to by_print x_limits 1 a) q
unfolding record_of
complete a p q e =
    demand.complete by_print (record_of by_print x_limits) (built_to by_print x_limits 1 a) (a_table by_print a p) (a_filled by_print a p) (omega arith) q
    (subst (λ (n : ℕ). NoSharedPrint n 2 8) (sym e) (no_shared 8))

keeping_complete : (a : Arrays) → Places x_limits a → (q : Query) → Complete (record_of keeping x_limits) (built_to keeping x_limits 1 a) q
unfolding record_of
keeping_complete a p =
    demand.complete_keeping (record_of keeping x_limits) (built_to keeping x_limits 1 a) (a_table keeping a p) (a_filled keeping a p) (omega arith)

skipped_rightly : SkippedRightly by_print 1 2 8 2
skipped_rightly =
    let s = walk_shape (at_width by_print 1 2) 8 2 in
    present_no_clash (at_width by_print 1 2) (PowerOf 1) 8 (no_clash by_print 1 2 (omega arith) 8 (no_shared 8)) (built by_print 1 2 8 2).nodes s.layered.grown s.limit
    (built by_print 1 2 8 2).depth s.depth

-- ---- at 29 gates

module _ (mode : Mode) (a : Arrays) (p : Places deep_limits a) where
  deep_table : Built mode (record_of mode deep_limits) (built_to mode deep_limits 1 a)
  deep_table = (left_by mode deep_limits a computed.deep_limits_lem p).0

  deep_filled : FilledFrom (record_of mode deep_limits) (built_to mode deep_limits 1 a)
  deep_filled = (left_by mode deep_limits a computed.deep_limits_lem p).2

deep_complete : (a : Arrays) → Places deep_limits a → (q : Query) → q.width ≡ 1 → Complete (record_of by_print deep_limits) (built_to by_print deep_limits 1 a) q
unfolding record_of
deep_complete a p q e =
    demand.complete by_print (record_of by_print deep_limits) (built_to by_print deep_limits 1 a) (deep_table by_print a p) (deep_filled by_print a p) (omega arith) q
    (subst (λ (n : ℕ). NoSharedPrint n 2 29) (sym e) (no_shared 29))

deep_rightly : (a : Arrays) → Places deep_limits a → (q : Query) → SkippedRightly by_print q.width 2 29 2
    → Complete (record_of by_print deep_limits) (built_to by_print deep_limits 1 a) q
unfolding record_of
deep_rightly a p =
    beside.complete_rightly by_print (record_of by_print deep_limits) (built_to by_print deep_limits 1 a) (deep_table by_print a p) (deep_filled by_print a p) (omega arith)

module _ (a : Arrays) (p : Places deep_limits a) where
  deep_keeping : (q : Query) → Complete (record_of keeping deep_limits) (built_to keeping deep_limits 1 a) q
  unfolding record_of
  deep_keeping =
      demand.complete_keeping (record_of keeping deep_limits) (built_to keeping deep_limits 1 a) (deep_table keeping a p) (deep_filled keeping a p) (omega arith)

  deep_none : GivesNone (record_of keeping deep_limits) (built_to keeping deep_limits 1 a) ask_t (replicate 29 0)
  deep_none =
      told deep_limits (built_to keeping deep_limits 1 a) (deep_table keeping a p) (deep_filled keeping a p) ask_t (replicate 29 0) computed.t_passes
      (omega arith) (omega arith) (omega arith)
      ∙ ap (λ (o : Option (List ℕ)). told_option o (replicate 29 0)) computed.deep_t

  deep_no_t : (m : List ℕ) → Reaches (record_of keeping deep_limits) ask_t m → length m ≤ 29 → ⊥
  unfolding record_of
  deep_no_t m r h =
      ((deep_keeping ask_t).none_exactly (omega arith) (omega arith) computed.deep_unsaturated (replicate 29 0)
      (λ k n. absurd (omega (arith, kind_of_lem (sym deep_none ∙ n))))).0 deep_none m r h

-- ---- a saturated width

saturated_rightly : ((walk_of by_print (limits_of 1 8 1 2) 1).saturated ≡ true) × SkippedRightly by_print 1 2 8 1
saturated_rightly = (
  ap (λ (b : Build). b.saturated) (walks.samples).one_entry,
  beside.to_the_depth by_print 1 2 8 1 0 (ap (λ (b : Build). b.depth) (walks.samples).one_entry) (λ k g p m h. absurd (omega arith)),
)

-- ---- a larger table

no_smaller : NoSmaller x_limits larger_limits
no_smaller = demand.no_smaller x_limits larger_limits refl (omega arith) (omega arith) (omega arith)

module _ (a : Arrays) (p : Places larger_limits a) where
  larger_table : Built by_print (record_of by_print larger_limits) (built_to by_print larger_limits 2 a)
  larger_table = (left_by by_print larger_limits a computed.larger_limits_lem p).0

  larger_filled : FilledFrom (record_of by_print larger_limits) (built_to by_print larger_limits 2 a)
  larger_filled = (left_by by_print larger_limits a computed.larger_limits_lem p).2

  -- by (b), from a smaller table, which is looked up by the scan
  larger_x : (out : List ℕ) → 9 ≤ length out → Gives (record_of by_print larger_limits) (built_to by_print larger_limits 2 a) ask_x out (4096 ∷ [])
  unfolding record_of
  larger_x out h =
      by (demand.larger by_print (record_of by_print x_limits) (record_of by_print larger_limits) (built_to by_print x_limits 1 (scanned a)) (built_to by_print larger_limits 2 a) (a_table by_print (scanned a) small) larger_table
      larger_filled no_smaller ask_x eight_places out (4096 ∷ []) (gives_x by_print (scanned a) small eight_places (omega arith)))
    where
      small : Places x_limits (scanned a)
      small = record { in_prints = omega (arith, p.in_prints); in_parents = omega (arith, p.in_parents); in_codes = omega (arith, p.in_codes); in_index = refl }

      by : Gives (record_of by_print larger_limits) (built_to by_print larger_limits 2 a) ask_x out (4096 ∷ [])
          ⊎ Refuses (record_of by_print larger_limits) (built_to by_print larger_limits 2 a) ask_x out 12
          → Gives (record_of by_print larger_limits) (built_to by_print larger_limits 2 a) ask_x out (4096 ∷ [])
      by (inl g) = g
      by (inr n) =
          absurd (not_refusal (answered by_print 1 2 9 3 (matrix_of ask_x)) 12 out
          (sym (told larger_limits (built_to by_print larger_limits 2 a) larger_table larger_filled ask_x out computed.x_passes h (omega arith) (omega arith)) ∙ n))

  larger_12 : (out : List ℕ) → length out < 9 → Refuses (record_of by_print larger_limits) (built_to by_print larger_limits 2 a) ask_x out 12
  larger_12 out h = too_short larger_limits (built_to by_print larger_limits 2 a) larger_table larger_filled ask_x out computed.x_passes h

-- ---- altered memory

not_a_table : Built by_print (record_of by_print x_limits) damaged → ⊥
unfolding record_of
not_a_table b =
    let f = first (at_width by_print 1 2) (walk_shape (at_width by_print 1 2) 8 2).layered.grown in
    let e = (b.nodes 1 (omega arith) (omega arith) 0 f.0).print in
    clash (eq-eqb 7 (fingerprint 1 identity) (e ∙ ap (print_of 1) f.1 ∙ ap (fingerprint 1) (product_nil 1))) computed.root_print

damaged_right : PowerOf 1 (matrix_of ask_x) (product 1 (4096 ∷ [])) × Unitary 1 (matrix_of ask_x)
damaged_right = (
  (demand.right (record_of by_print x_limits) damaged ask_x eight_places (4096 ∷ []) computed.damaged_x).0,
  demand.unitary (record_of by_print x_limits) damaged ask_x eight_places (4096 ∷ []) computed.damaged_x,
)

-- where X gets none, what (c) states does not hold
missed : (a : Arrays) → GivesNone (record_of by_print x_limits) a ask_x eight_places → Complete (record_of by_print x_limits) a ask_x → ⊥
unfolding record_of
missed a n c =
    (c.none_exactly (omega arith) (omega arith) (computed.unsaturated by_print) eight_places (λ r m. absurd (omega (arith, kind_of_lem (sym n ∙ m))))).0
    n (4096 ∷ []) (record { of_basis = computed.x_of; power = damaged_right.0 }) (omega arith)

-- ---- an empty index

module _ (a : Arrays) (p : Places x_limits a) where
  emptied_table : Built by_print (record_of by_print x_limits) (emptied a)
  emptied_table =
      let b = a_table by_print a p in
      record {
        accepted = b.accepted;
        returned = b.returned;
        room = b.room;
        nodes = λ w h m j l. let n = b.nodes w h m j l in record { print = n.print; parent = n.parent; code = n.code };
      }

  emptied_x : GivesNone (record_of by_print x_limits) (emptied a) ask_x eight_places
  unfolding record_of first_row
  emptied_x =
      answer_passed (record_of by_print x_limits) (emptied a) ask_x eight_places
      (asked_12 (record_of by_print x_limits) (emptied a) emptied_table (ap not computed.four_places.0) ask_x eight_places computed.x_passes)
      ∙ asked_by (record_of by_print x_limits) (emptied a) ask_x eight_places (computed.emptied_found a)

  -- so it was not filled from the table
  emptied_not_filled : FilledFrom (record_of by_print x_limits) (emptied a) → ⊥
  unfolding record_of
  emptied_not_filled x = missed (emptied a) emptied_x (demand.complete by_print (record_of by_print x_limits) (emptied a) emptied_table x (omega arith) ask_x (no_shared 8))

pub samples : Samples
samples = record {
  x_is = x_is;
  t_is = t_is;
  builds = λ a p. build_fills by_print x_limits a (fills x_limits a computed.x_limits_lem p);
  a_table = λ a p. a_table by_print a p;
  no_shared = no_shared 8;
  skipped_rightly = skipped_rightly;
  complete = complete;
  unsaturated = computed.unsaturated by_print;
  deep_complete = deep_complete;
  deep_rightly = deep_rightly;
  deep_keeping = λ a p. deep_keeping a p;
  deep_no_t = λ a p. deep_no_t a p;
  saturated_rightly = saturated_rightly;
  gives_x = λ a p out h. gives_x by_print a p out h;
  none_t = λ a p out h. none_t by_print a p out h;
  no_t = λ a p. no_t by_print a p (complete a p ask_t refl);
  no_smaller = no_smaller;
  same_limits = λ l. demand.no_smaller l l refl (omega arith) (omega arith) (omega arith);
  larger_table = λ a p. larger_table a p;
  larger_x = λ a p out h. larger_x a p out h;
  larger_12 = λ a p out h. larger_12 a p out h;
  not_a_table = not_a_table;
  damaged_x = computed.damaged_x;
  damaged_right = damaged_right;
  mistaken_t = computed.mistaken_t;
  circular_x = computed.circular_x;
  unmarked_x = computed.unmarked_x;
  foreign_x = computed.foreign_x;
  ch_basis = λ a. build_refusal by_print ch_limits a 3 (omega arith) (computed.ch_limits_lem a);
  forgotten_x = computed.forgotten_x;
  not_complete = missed forgotten computed.forgotten_x;
  zero_not_unitary = zero_not_unitary;
  zero_passes = λ a p out h. zero_passes by_print a p out h;
  none_zero = λ a p out h. demand.not_unitary (record_of by_print x_limits) (built_to by_print x_limits 1 a) ask_zero out (zero_passes by_print a p out h) zero_not_unitary;
  finds_x = λ a p. find_write.given_found (record_of by_print x_limits) (built_to by_print x_limits 1 a) ask_x eight_places (4096 ∷ []) (gives_x by_print a p eight_places (omega arith));
  finds_none_t = λ a p. finds_none_t by_print a p;
  damaged_find = computed.damaged_find;
  damaged_write = computed.damaged_write;
  mistaken_find = computed.mistaken_find;
  mistaken_write = computed.mistaken_write;
  circular_find = computed.circular_find;
  circular_write = computed.circular_write;
  circular_short = computed.circular_short;
  no_node = computed.no_node;
  past_count = computed.past_count;
  some_places = (
    record { in_prints = omega arith; in_parents = omega arith; in_codes = omega arith; in_index = refl },
    record { in_prints = omega arith; in_parents = omega arith; in_codes = omega arith; in_index = rw computed.four_places.0 },
  );
  four_places = computed.four_places;
  six_places = computed.six_places;
  one_build = computed.one_build;
  one_fill = computed.one_fill;
  one_answer = computed.one_answer;
  damaged_fill = computed.damaged_fill;
  damaged_filled = computed.damaged_filled;
  emptied_table = λ a p. emptied_table a p;
  emptied_x = λ a p. emptied_x a p;
  emptied_not_complete = λ a p. missed (emptied a) (emptied_x a p);
  emptied_not_filled = λ a p. emptied_not_filled a p;
  scan_filled = scan_filled;
  crowded_x = computed.crowded_x;
  misled_t = computed.misled_t;
  strange_count = ltb-true 0 (width_at strange 2).count computed.strange_count;
  no_width = computed.no_width;
  keeping_builds = λ a p. build_fills keeping x_limits a (fills x_limits a computed.x_limits_lem p);
  keeping_complete = keeping_complete;
  keeping_unsaturated = computed.unsaturated keeping;
  keeping_x = λ a p out h. gives_x keeping a p out h;
  keeping_none_t = λ a p out h. none_t keeping a p out h;
  keeping_no_t = λ a p. no_t keeping a p (keeping_complete a p ask_t);
  clashing_x = computed.clashing_x;
  clashing_find = computed.clashing_find;
  clashing_fill = computed.clashing_fill;
  clashing_filled = computed.clashing_filled;
  clashing_first = computed.clashing_first;
  bad_before = computed.bad_before;
  bad_behind = computed.bad_behind;
}
