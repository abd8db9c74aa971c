-- Demand 3 of the program's lines, from demand 3 of the entries (SPECIFICATION 8.3 to 8.5). Assumes nothing.
use mathlib.Core.Path.{◌≡◌, refl, sym, ap, ◌∙◌, subst}
use mathlib.Core.Bool.{Bool, true, false}
use mathlib.Core.Logic.{⊎_elim}
use mathlib.Core.List.{List, [], ◌∷◌, ◌++◌, map, append_assoc, append-nil}
use Prim.Native.Nat.{ℕ, ◌+◌, ◌-◌, ◌*◌, ◌≤◌, ◌<◌}
use native.Mathlib.Omega.{arith}
use borrow.Author.Tests.{le-ltb, ltb-true, ltb-false}
use lib.Dec.{ltb}
use lib.IntN.{ℤ, pos}
use lib.ListN.{length, get_or, drop, length-replicate}
use lib.Seq.{take_at, get_or-take, get_or-drop}
use Rattle.ints.specs.Lists.{all, range, each}
use Rattle.ints.proofs.Bools.{both_true}
use Rattle.circuit.specs.Charge.{charge}
use Rattle.circuit.specs.Codes.{valid_for}
use Rattle.circuit.proofs.Charges.{charge_most}
use Rattle.exact.specs.Matrix.{PowerOf}
use Rattle.exact.specs.Paper.{paper_product}
use Rattle.exact.specs.Lists.{product}
use Rattle.exact.specs.Fits.{Steps, all_fit, unfit_at, steps}
use Rattle.exact.specs.Answers.{Answer, given}
use Rattle.exact.specs.Answers as e
use Rattle.exact.proofs.Answered.{given_list, refused_list}
use Rattle.exact.proofs.Acts.{power_of, power_sym, power_trans}
use Rattle.exact.proofs.Papers.{paper_value}
use Rattle.exact.proofs.Coded.{basis_below}
use Rattle.exact.specs.Places.{held}
use Rattle.walk.specs.Walk.{root, gate}
use Rattle.walk.specs.AtWidth.{at_width, ListOf, parent_of}
use Rattle.walk.proofs.Sequences.{map_at}
use Rattle.walk.proofs.Prefixes.{completed_unsaturated}
use Rattle.walk.specs.Modes.{by_print}
use Rattle.tables.specs.Checks.{Limits, Arrays, coefficient_count, query_rows}
use Rattle.tables.specs.Tables.{Table, Width, walk_of, width_at, width_of, parents_of, codes_of, part_of, Query, query, list_row, synthesized}
use Rattle.tables.specs.Built.{Built, FilledFrom}
use Rattle.tables.specs.Demand3 as d
use Rattle.tables.specs.Demand3.{Gives, Refuses, NotRefused, NoSmaller, Complete, Decided}
use Rattle.tables.proofs.Demand3.{demand, beside}
use Rattle.tables.proofs.Accepted.{accepted}
use Rattle.tables.proofs.Counts.{width_is}
use Rattle.tables.proofs.FromBuild.{walk_count}
use Rattle.tables.proofs.Rows.{first_past, first_row_append, numbered_query}
use Rattle.tables.proofs.Refused.{never_refused}
use Rattle.tables.specs.Checks.{first_row}
use Rattle.tables.specs.Lists.{ListOutcome, outcome, first_invalid, listed}
use Rattle.tables.proofs.Lists.{all_valid, list_6, list_7, list_8, list_formed}
use Rattle.tables.proofs.Demand2.{demand_2}
use Rattle.murm.proofs.Queried.{accepted_allowed}
use Rattle.circuits_text.specs.Reading.{space}
use Rattle.circuits_text.specs.Writing.{decimal}
use Rattle.circuits_text.specs.Allowed.{AllowedLine, alone, spaced}
use Rattle.circuits_text.proofs.Accepts.{decimal_spelled}
use Rattle.circuits_lines.specs.Lines.{table_line, node_line, node_lines, spaced_codes, answer_line}
use Rattle.circuits_input.specs.Input.{Read, ended, AskedList}
use Rattle.circuits_input.specs.Allowed.{QueryLine}
use Rattle.circuits_input.proofs.Accepts.{query_asks}
use Rattle.circuits_answers.specs.Replies.{lent_count, lent_coefficients, formed_reply, list_reply, asked_reply, line_reply}
use Rattle.circuits_parts.specs.Texts.{row_text, width_text, width_texts, table_text, answer_text, lent_list, list_text, query_text, query_texts}
use Rattle.circuits_output.specs.Output.{input_text, output_with, lent_arrays, output}
use Rattle.circuits_demand.specs.ProgramDemand3.{SameUpToPower, Condition, ReadsAs, ListRefused, wide, not_valid, too_large}
use Rattle.circuits_demand.specs.ProgramDemand3.{LineMeans, a_list, no_list, refused, walk_text, ProgramDemand3}
use Rattle.circuits_output.proofs.Builds.{text_is}
use Rattle.circuits_parts.proofs.Widths.{each_same}

-- ---- an answer's line is read as its list

-- every number is at most 4294967295
unfoldable InWord : List ℕ → Type 0
InWord [] = true ≡ true
InWord (n ∷ ns) = (n ≤ 4294967295) × InWord ns

codes_small : (w basis : ℕ) (m : List ℕ) → ListOf w basis m → InWord m
unfolding InWord all valid_for
codes_small w basis [] h = refl
codes_small w basis (g ∷ gs) h =
    let p = both_true (valid_for w basis g) (all (valid_for w basis) gs) h in
    (omega (arith, basis_below w basis g p.0), codes_small w basis gs p.1)

spaced_codes_lem : (n : ℕ) (m : List ℕ) → n ≤ 4294967295 → InWord m → AllowedLine (n ∷ m) (decimal n ++ spaced_codes m)
unfolding InWord spaced_codes each
spaced_codes_lem n [] h s = subst (λ (l : List ℕ). AllowedLine (n ∷ []) l) (sym (append-nil (decimal n))) (alone (decimal_spelled n h))
spaced_codes_lem n (g ∷ gs) h s =
    spaced (decimal_spelled n h) (spaced_codes_lem g gs s.0 s.1)

module _ (w : ℕ) (l : Limits) (m : List ℕ) (of_basis : ListOf w l.basis m) (short : length m ≤ 64) where
  answer_reads : ReadsAs m (answer_line m)
  unfolding answer_line
  answer_reads =
      let count = decimal (length m) in
      let rest = decimal (charge m) ++ spaced_codes m in
      record {
        line = count ++ (space ∷ rest);
        says = spaced (decimal_spelled (length m) (omega (arith, short)))
            (spaced_codes_lem (charge m) m (omega (arith, short, charge_most m)) (codes_small w l.basis m of_basis));
        is = ap (λ (z : List ℕ). z ++ (10 ∷ []))
            (append_assoc (count ++ (space ∷ [])) (decimal (charge m)) (spaced_codes m) ∙ append_assoc count (space ∷ []) rest);
      }

-- ---- the list's own refusals

lent_count_lem : (w : ℕ) → w ≤ 5 → length (lent_coefficients w) ≡ coefficient_count w
unfolding lent_coefficients
lent_count_lem w h = length-replicate {0} {A = ℤ} (lent_count w) (pos 0) ∙ rw (le-ltb 5 w h)

-- what a refusal of a list says
abbrev Own : ℕ → List ℕ → Answer → Type 0
Own w asked (given k) = true ≡ true
Own w asked (e.refused number position) = ListRefused w asked number position

own : (w : ℕ) (asked : List ℕ) → Own w asked (listed w asked (lent_coefficients w)).answer
own w asked = by_width (ltb 5 w) refl
  where
    told : {o : ListOutcome} → o ≡ listed w asked (lent_coefficients w) → Own w asked o.answer → Own w asked (listed w asked (lent_coefficients w)).answer
    told e = subst (λ (o : ListOutcome). Own w asked o.answer) e

    by_steps_lem : w ≤ 5 → length asked ≤ first_invalid w asked → (s : Steps) → steps w asked ≡ s → Own w asked (listed w asked (lent_coefficients w)).answer
    by_steps_lem h v all_fit x = told (list_formed w asked (lent_coefficients w) h (lent_count_lem w h) v (product w asked).k (given_list w asked x refl)) refl
    by_steps_lem h v (unfit_at i) x =
        let a = all_valid w asked v in
        let n = list_8 w asked (lent_coefficients w) h (lent_count_lem w h) v i (refused_list w asked x) in
        told n (too_large i h a (((demand_2 w asked (lent_coefficients w)).too_large h (lent_count_lem w h) a i).0 (sym (ap (λ (o : ListOutcome). o.answer) n))))

    by_codes : w ≤ 5 → (b : Bool) → ltb (first_invalid w asked) (length asked) ≡ b → Own w asked (listed w asked (lent_coefficients w)).answer
    by_codes h true x = let v = ltb-true (first_invalid w asked) (length asked) x in told (list_7 w asked (lent_coefficients w) h (lent_count_lem w h) v) (not_valid h v)
    by_codes h false x = by_steps_lem h (ltb-false (first_invalid w asked) (length asked) x) (steps w asked) refl

    by_width : (b : Bool) → ltb 5 w ≡ b → Own w asked (listed w asked (lent_coefficients w)).answer
    by_width true x = let h = ltb-true 5 w x in told (list_6 w asked (lent_coefficients w) h) (wide h)
    by_width false x = by_codes (ltb-false 5 w x) (ltb (first_invalid w asked) (length asked)) refl

-- ---- a list whose matrix is asked

module _ (t : Table) (m : Arrays) (b : Built by_print t m) (i : FilledFrom t m) (w : ℕ) (asked : List ℕ) (k : ℕ) (numbers : List ℤ)
    (e : listed w asked (lent_coefficients w) ≡ outcome (given k) numbers) where
  abbrev q : Query
  q = query w k numbers

  -- the matrix asked is the product of the list asked
  asked_is : PowerOf w (paper_product w asked) (held w k numbers)
  asked_is = power_of w ((demand_2 w asked (lent_coefficients w)).value k numbers e)

  paper : (l : List ℕ) → PowerOf w (product w l) (paper_product w l)
  paper l = power_sym w (power_of w (paper_value w l))

  to : (l : List ℕ) → PowerOf w (held w k numbers) (product w l) → PowerOf w (paper_product w asked) (paper_product w l)
  to l p = power_trans w asked_is (power_trans w p (paper l))

  from : (l : List ℕ) → SameUpToPower t.limits w asked l → d.Reaches t q l
  from l r = record {
    of_basis = r.of_basis;
    power = power_trans w (power_sym w asked_is) (power_trans w r.power (power_sym w (paper l)));
  }

  -- the table does not refuse it
  list_short : (list_row t lent_list).holds ≡ false
  unfolding lent_list
  list_short =
      le-ltb (length lent_list) t.limits.gates (omega (arith, (accepted t.limits b.accepted).gates, length-replicate {0} {A = ℕ} 64 0))

  not_refused : NotRefused t m q lent_list
  unfolding first_row
  not_refused =
      never_refused t m q lent_list b i.parts
      (first_row_append (query_rows w k numbers) (list_row t lent_list ∷ []) (numbered_query w k numbers) (accepted_allowed w asked (lent_coefficients w) k numbers e)
      ∙ first_past (list_row t lent_list) [] list_short)

  complete : Condition t.limits w → Complete t m q
  complete c =
      ⊎_elim (λ p. demand.complete by_print t m b i c.gates q p) (λ p. beside.complete_rightly by_print t m b i c.gates q p) c.prints

  -- its text
  text : list_text t m w asked ≡ answer_text (synthesized t m q lent_list)
  unfolding list_text list_reply
  text = ap (λ (o : ListOutcome). answer_text (formed_reply t m w lent_list o.answer o.numbers)) e

  given_text : (l : List ℕ) → Gives t m q lent_list l → list_text t m w asked ≡ answer_line l
  given_text l g = text ∙ (ap answer_text g ∙ ap answer_line (take_at l (drop (length l) lent_list) (length l) refl))

-- a larger table gives the same list
module _ (t t' : Table) (m m' : Arrays) (b : Built by_print t m) (b' : Built by_print t' m') (i : FilledFrom t m) (i' : FilledFrom t' m') (s : NoSmaller t.limits t'.limits) where
  larger_text : (w : ℕ) (asked : List ℕ) (k : ℕ) (numbers : List ℤ) → listed w asked (lent_coefficients w) ≡ outcome (given k) numbers → (l : List ℕ)
      → Gives t m (query w k numbers) lent_list l → list_text t' m' w asked ≡ answer_line l
  larger_text w asked k numbers e l g =
      ⊎_elim
      (λ (x : Gives t' m' (query w k numbers) lent_list l). given_text t' m' b' i' w asked k numbers e l x)
      (λ (x : Refuses t' m' (query w k numbers) lent_list 12). absurd (not_refused t' m' b' i' w asked k numbers e 12 x))
      (demand.larger by_print t t' m m' b b' i' s (query w k numbers) lent_list lent_list l g)

module _ (t : Table) (m : Arrays) (b : Built by_print t m) (i : FilledFrom t m) (w : ℕ) (asked : List ℕ) where
  matrix_means : (k : ℕ) (numbers : List ℤ) → listed w asked (lent_coefficients w) ≡ outcome (given k) numbers → LineMeans t.limits w asked (list_text t m w asked)
  matrix_means k numbers e = by (demand.decided t m (query w k numbers) lent_list)
    where
      by : Decided t m (query w k numbers) lent_list → LineMeans t.limits w asked (list_text t m w asked)
      by (d.a_list l g) =
          let r = demand.right t m (query w k numbers) lent_list l g in
          let x = given_text t m b i w asked k numbers e l g in
          a_list l x (subst (ReadsAs l) (sym x) (answer_reads w t.limits l r.1 (omega (arith, r.2, (accepted t.limits b.accepted).gates))))
          (record { power = to t m b i w asked k numbers e l r.0; of_basis = r.1 }) r.2
          (λ l' lent m' t' s f. let z = demand.build_built by_print l' lent m' t' f in
          larger_text t t' m m' b z.0 i z.2 (subst (NoSmaller t.limits) (sym z.1) s) w asked k numbers e l g ∙ sym x)
          (λ c o z. (complete t m b i w asked k numbers e c).shortest lent_list l g o (from t m b i w asked k numbers e o z))
      by (d.no_list g) =
          no_list (text t m b i w asked k numbers e ∙ ap answer_text g)
          (λ c p u s o z h. ((complete t m b i w asked k numbers e c).none_exactly p u (ap (λ (v : Width). v.saturated) (width_is t m b w p u) ∙ s) lent_list
          (not_refused t m b i w asked k numbers e)).0 g o (from t m b i w asked k numbers e o z) h)
      by (d.a_refusal r n) = absurd (not_refused t m b i w asked k numbers e r n)

  refused_means : (number position : ℕ) (numbers : List ℤ) → listed w asked (lent_coefficients w) ≡ outcome (e.refused number position) numbers
      → LineMeans t.limits w asked (list_text t m w asked)
  unfolding list_text list_reply
  refused_means number position numbers x =
      refused number position (ap (λ (o : ListOutcome). answer_text (formed_reply t m w lent_list o.answer o.numbers)) x)
      (subst (Own w asked) (ap (λ (o : ListOutcome). o.answer) x) (own w asked))

  line_means : LineMeans t.limits w asked (list_text t m w asked)
  line_means = by (listed w asked (lent_coefficients w)).answer (listed w asked (lent_coefficients w)).numbers refl
    where
      by : (a : Answer) (numbers : List ℤ) → listed w asked (lent_coefficients w) ≡ outcome a numbers → LineMeans t.limits w asked (list_text t m w asked)
      by (given k) numbers x = matrix_means k numbers x
      by (e.refused number position) numbers x = refused_means number position numbers x

-- ---- a table's text: the nodes of the walk

module _ (t : Table) (m : Arrays) (b : Built by_print t m) (w : ℕ) (p : 0 < w) (u : w ≤ t.limits.qubits) where
  -- place j of a width's part is place (w - 1) × E + j of the array
  part_at : (xs : List ℕ) (j : ℕ) → j < t.limits.entries → get_or (part_of w t.limits.entries xs) j 0 ≡ get_or xs ((w - 1) * t.limits.entries + j) 0
  part_at xs j h =
      get_or-take t.limits.entries (drop ((w - 1) * t.limits.entries) xs) j 0 h ∙ get_or-drop ((w - 1) * t.limits.entries) xs j 0

  nodes_are : node_lines (part_of w t.limits.entries m.parents) (part_of w t.limits.entries m.codes) (length (walk_of by_print t.limits w).nodes)
      ≡ node_lines (parents_of by_print t.limits w) (codes_of by_print t.limits w) (length (walk_of by_print t.limits w).nodes)
  unfolding node_lines parents_of codes_of
  nodes_are =
      each_same 0 (length (walk_of by_print t.limits w).nodes) _ _
      (λ j _ h. let few = (walk_count by_print t.limits w (accepted t.limits b.accepted).some).1 in
      let n = b.nodes w p u j (omega (arith, h)) in
      let ns = (walk_of by_print t.limits w).nodes in
      let x : get_or (part_of w t.limits.entries m.parents) j 0 ≡ get_or (map parent_of ns) j 0 =
      part_at m.parents j (omega (arith, h, few)) ∙ (n.parent ∙ sym (map_at parent_of root ns j (omega (arith, h)))) in
      let y : get_or (part_of w t.limits.entries m.codes) j 0 ≡ get_or (map gate ns) j 0 =
      part_at m.codes j (omega (arith, h, few)) ∙ (n.code ∙ sym (map_at gate root ns j (omega (arith, h)))) in
      ap (λ (v : ℕ). node_line j v (get_or (part_of w t.limits.entries m.codes) j 0)) x ∙ ap (λ (v : ℕ). node_line j (get_or (map parent_of ns) j 0) v) y)

  width_text_lem : width_text t m.parents m.codes w ≡ walk_text t.limits w
  unfolding width_text row_text walk_text
  width_text_lem = rw (width_is t m b w p u) (ap (λ (l : List ℕ). table_line w (length (walk_of by_print t.limits w).nodes) (walk_of by_print t.limits w).depth (walk_of by_print t.limits w).saturated ++ l) nodes_are)

table_text_lem : (t : Table) (m : Arrays) → Built by_print t m → table_text t m.parents m.codes ≡ each (range 1 t.limits.qubits) (walk_text t.limits)
unfolding width_texts
table_text_lem t m b = each_same 1 t.limits.qubits _ _ (λ w p u. width_text_lem t m b w (omega (arith, p)) (omega (arith, u)))

-- ---- the whole

-- a query's line prints the text of its list
query_prints : (t : Table) (m : Arrays) {w : ℕ} {asked line : List ℕ} → QueryLine w asked line → query_text t m (ended line) ≡ list_text t m w asked
unfolding query_text line_reply list_text
query_prints t m h = ap (λ (q : Read AskedList). answer_text (asked_reply t m lent_list q)) (query_asks h)

row_is : (t : Table) (m : Arrays) → Built by_print t m → (l : Limits) → t.limits ≡ l → (w : ℕ) → 0 < w → w ≤ l.qubits → width_at t w ≡ width_of (walk_of by_print l w)
row_is t m b l e w p u =
    width_is t m b w p (subst (λ (k : Limits). w ≤ k.qubits) (sym e) u) ∙ ap (λ (k : Limits). width_of (walk_of by_print k w)) e

pub program_demand_3 : ProgramDemand3
unfolding output output_with
program_demand_3 = record {
  printed = λ input l ls t m x y.
      let z = demand.build_built by_print l lent_arrays m t y in
      record {
        whole =
            ap (input_text lent_arrays) x ∙ (sym (text_is l lent_arrays ls (sym y))
            ∙ ap (λ (u : List ℕ). u ++ query_texts t m ls) (table_text_lem t m z.0 ∙ ap (λ (k : Limits). each (range 1 k.qubits) (walk_text k)) z.1));
        rows = λ w p u. row_is t m z.0 l z.1 w p u;
        again = λ w. completed_unsaturated (at_width by_print w l.basis) l.gates l.entries;
        prints = λ w asked line h. query_prints t m h;
        means = λ w asked. subst (λ (k : Limits). LineMeans k w asked (list_text t m w asked)) z.1 (line_means t m z.0 z.2 w asked);
      };
}
