-- Demand 3 and what stands beside it, of what the public entries answer: the statements of specs/Demand3 and
-- specs/Beside. Assumes nothing.
use mathlib.Core.Path.{◌≡◌, refl, sym, ap, ◌∙◌, subst}
use mathlib.Core.Logic.{◌⊎◌, inl, inr}
use mathlib.Core.Bool.{Bool, true, false}
use mathlib.Core.List.{List, [], ◌∷◌}
use mathlib.Core.Option.{Option, some}
use Prim.Native.Nat.{ℕ, ◌≤◌, ◌<◌}
use native.Mathlib.Omega.{arith}
use lib.ListN.{length, get_or}
use Rattle.exact.specs.Matrix.{Lowest, PowerOf}
use Rattle.exact.specs.Unitary.{Unitary}
use Rattle.walk.specs.Walk.{root}
use Rattle.walk.specs.Modes.{Mode, by_print, keeping}
use Rattle.walk.specs.AtWidth.{at_width, built, print_of}
use Rattle.walk.specs.Known.{KnownIsPresent}
use Rattle.walk.proofs.Nodewise.{answered}
use Rattle.walk.proofs.Nodes.{link, parents_rise, depth_parent, depths_rise, depths_step}
use Rattle.walk.proofs.Layers.{walk_shape}
use Rattle.walk.proofs.Exactly.{nodes_apart, prints_distinct}
use Rattle.walk.proofs.WidthDemand.{WidthComplete}
use Rattle.walk.proofs.Demand3 as width_demand
use Rattle.walk.proofs.Meaning.{kind_of_lem}
use Rattle.tables.specs.Checks.{first_row, Limits, Arrays, query_rows}
use Rattle.tables.specs.Tables.{Table, Width, walk_of, Query, matrix_of, list_row, not_a_width}
use Rattle.tables.specs.Built.{Built, FilledFrom}
use Rattle.tables.specs.Beside.{Beside, Ordered}
use Rattle.tables.specs.Demand3.{Gives, GivesNone, Refuses, NotRefused, Decided, a_list, no_list, a_refusal, NoSmaller, Reaches, Complete, Demand3}
use Rattle.tables.proofs.Rows.{numbered_query, first_here, first_past, first_row_append}
use Rattle.tables.proofs.FromBuild.{build_built, build_refused, built_again}
use Rattle.tables.proofs.Counts.{width_is, counts, good_record}
use Rattle.tables.proofs.Joined.{told_option}
use Rattle.tables.proofs.Replies.{number_of, row_of_answer, ReplyCase, not_a_width_lem, part_asked_lem, by_row, row_refuses, cases}
use Rattle.tables.proofs.Replies.{gives_asked, no_row, asked_means, decided, gives_right}
use Rattle.tables.proofs.OfBuilt.{asked_lowest, has_width, a_width, told_none, only_record, query_passed, rows_are, widths_small, no_fault, told_walk, gives_walk, scan_gives}

-- ---- (a) and (d), whatever the memory holds

not_unitary : (t : Table) (a : Arrays) (q : Query) (out : List ℕ) → NotRefused t a q out → (Unitary q.width (matrix_of q) → ⊥) → GivesNone t a q out
not_unitary t a q out h u = by (decided t a q out)
  where
    by : Decided t a q out → GivesNone t a q out
    by (a_list l g) = absurd (u (gives_right t a q out l g).unitary)
    by (no_list n) = n
    by (a_refusal r n) = absurd (h r n)

-- ---- a larger built table

module _ {mode : Mode} (t t' : Table) (a a' : Arrays) (b : Built mode t a) (b' : Built mode t' a') (x' : FilledFrom t' a') (s : NoSmaller t.limits t'.limits)
    (q : Query) where
  -- it has the widths of the other, and gives the same lists there
  same_list : (out' l : List ℕ) → not_a_width t q.width ≡ false → row_of_answer t' a' q out' ≡ 0
      → answered mode q.width t.limits.basis t.limits.gates t.limits.entries (matrix_of q) ≡ some l → Gives t' a' q out' l
  same_list out' l f e g =
      let w = a_width t q.width f in
      let h : q.width ≤ t'.limits.qubits = omega (arith, w.1, s.qubits) in
      let more =
      (width_demand.demand mode q.width t.limits.basis (widths_small t a b q.width w.1)).larger t.limits.gates t'.limits.gates
      t.limits.entries t'.limits.entries s.gates s.entries (matrix_of q) l g in
      told_walk t' a' b' q out' x' e (has_width t' q.width w.0 h)
      ∙ ap (λ (z : ℕ). told_option (answered mode q.width z t'.limits.gates t'.limits.entries (matrix_of q)) out') s.basis
      ∙ ap (λ (o : Option (List ℕ)). told_option o out') more

  larger : (out out' l : List ℕ) → Gives t a q out l → Gives t' a' q out' l ⊎ Refuses t' a' q out' 12
  unfolding first_row
  larger out out' l g = by (list_row t' out').holds refl
    where
      -- the query's rows are the same for both
      only_12 : row_of_answer t' a' q out' ≡ first_row (list_row t' out' ∷ [])
      only_12 =
          rows_are t' a' b' x'.parts q out'
          ∙ first_row_append (query_rows q.width q.exponent q.numbers) (list_row t' out' ∷ []) (numbered_query q.width q.exponent q.numbers)
          (query_passed t a q out (gives_asked t a q out l g).0)

      by : (h : Bool) → (list_row t' out').holds ≡ h → Gives t' a' q out' l ⊎ Refuses t' a' q out' 12
      by true e = inr (row_refuses t' a' q out' 12 (omega arith) (only_12 ∙ first_here (list_row t' out') [] e))
      by false e =
          inl (same_list out' l (gives_asked t a q out l g).1 (only_12 ∙ first_past (list_row t' out') [] e) (gives_walk t a b q out l g))

-- ---- a built table

module _ {mode : Mode} (t : Table) (a : Arrays) (b : Built mode t a) where
  module _ (q : Query) (w : q.width ≤ 5 → WidthComplete mode q.width t.limits.basis t.limits.gates t.limits.entries) where
    small : q.width ≤ t.limits.qubits → q.width ≤ 5
    small h = widths_small t a b q.width h

    low : (out : List ℕ) → row_of_answer t a q out ≡ 0 → Lowest q.width (matrix_of q)
    low out e = asked_lowest q.width q.exponent q.numbers (query_passed t a q out e)

    -- shortest, whatever the index holds
    answers_shortest : (out l : List ℕ) → Gives t a q out l → (m : List ℕ) → Reaches t q m → length l ≤ length m
    answers_shortest out l g m r =
        let (e, f, z) = gives_asked t a q out l g in
        (w (small (a_width t q.width f).1)).shortest (matrix_of q) (low out e) l (gives_walk t a b q out l g) m r.of_basis r.power

    -- (c), from the walk's answers
    answers_complete : FilledFrom t a → Complete t a q
    answers_complete x = record {
      shortest = answers_shortest;
      none_exactly = λ p h s out n. let e = no_row t a q out n in
          let k = told_walk t a b q out x e (has_width t q.width p h) in
          let f = ap (λ (v : Width). v.saturated) (sym (width_is t a b q.width p h)) ∙ s in
          let y = (w (small h)).none_exactly f (matrix_of q) (low out e) in (
            (λ g m r c. y.0 (told_none _ out (sym k ∙ g)) m r.of_basis c r.power),
            (λ f. k ∙ ap (λ (o : Option (List ℕ)). told_option o out) (y.1 (λ m o c s. f m (record { of_basis = o; power = s }) c))),
          );
    }

  -- row 13 refuses no record, and no chain: whatever the index holds, the node to which it leads is one of the width's
  never_13 : (q : Query) (out : List ℕ) → Refuses t a q out 13 → ⊥
  never_13 q out n = by (cases t a q out)
    where
      by : ReplyCase t a q out → ⊥
      by (not_a_width_lem e f m) = absurd (omega (arith, kind_of_lem (sym m ∙ n)))
      by (part_asked_lem e f p) = no_fault t a b q.width (matrix_of q) (((asked_means t a q out).is_refused 13 0 out).0 (sym p ∙ n)).0
      by (by_row r h e m) = only_record t a q out (good_record t a b) (e ∙ number_of (sym m ∙ n))

-- ---- the nodes of a width

in_order : (mode : Mode) (l : Limits) (w : ℕ) → w ≤ 5 → Ordered mode l w
in_order mode l w small =
    let s = walk_shape (at_width mode w l.basis) l.gates l.entries in
    let b = s.layered.grown in
    record {
      below = λ j p h. (link (at_width mode w l.basis) b j h p).below;
      parents_rise = λ i j p q h. parents_rise (at_width mode w l.basis) b j h i p q;
      one_deeper = λ j p h. depth_parent (at_width mode w l.basis) b j h p;
      depths_rise = λ i j q h. depths_rise (at_width mode w l.basis) b i j q h;
      depths_step = λ j h. depths_step (at_width mode w l.basis) b j h;
      short = λ j h. s.limit j h;
      nodes_differ = λ i j p h. nodes_apart mode w l.basis small b i j p h;
      prints_differ = λ e. subst Apart (sym e) (prints_distinct w l.basis (walk_shape (at_width by_print w l.basis) l.gates l.entries).layered.grown);
    }
  where
    -- no two nodes have one fingerprint
    Apart : Mode → Type 0
    Apart m = (i j : ℕ) → i < j → j < length (walk_of m l w).nodes → print_of w (get_or (walk_of m l w).nodes i root) ≡ print_of w (get_or (walk_of m l w).nodes j root) → ⊥

-- ---- the demand

pub demand : Demand3
demand = record {
  decided = decided;
  build_refused = build_refused;
  right = λ t a q out l g. let r = gives_right t a q out l g in (r.power, r.valid, r.short);
  build_built = build_built;
  scan_gives = λ mode t a b q out l g. scan_gives t a b q out l g;
  no_smaller = λ l l' b q g e. record { basis = b; qubits = q; gates = g; entries = e };
  larger = λ mode t t' a a' b b' x' s q out out' l g. larger t t' a a' b b' x' s q out out' l g;
  complete = λ mode t a b x le q nc. answers_complete t a b q
      (λ small. (width_demand.demand mode q.width t.limits.basis small).complete t.limits.gates t.limits.entries le nc) x;
  complete_keeping = λ t a b x le q. answers_complete t a b q
      (λ small. (width_demand.demand keeping q.width t.limits.basis small).complete_keeping refl t.limits.gates t.limits.entries le) x;
  unitary = λ t a q out l g. (gives_right t a q out l g).unitary;
  not_unitary = not_unitary;
  never_13 = λ mode t a b q out n. never_13 t a b q out n;
}

-- ---- beside the demand

pub beside : Beside
beside = record {
  complete_rightly = λ mode t a b x le q K. answers_complete t a b q
      (λ small. (width_demand.demand mode q.width t.limits.basis small).complete_rightly t.limits.gates t.limits.entries le K) x;
  to_the_depth = λ mode n basis G E depth e K.
      subst (λ (d : ℕ). KnownIsPresent (at_width mode n basis) (PowerOf n) d (built mode n basis G E).nodes) (sym e) K;
  shortest_rightly = λ mode t a b le q K. answers_shortest t a b q
      (λ small. (width_demand.demand mode q.width t.limits.basis small).complete_rightly t.limits.gates t.limits.entries le K);
  counts = λ mode t a b w p q. counts t a b w p q;
  ordered = λ mode t a b w p q. in_order mode t.limits w (widths_small t a b w q);
  built_again = λ mode t a. (λ w. built_again t a w.0 w.1, λ e. let (b, z, x) = build_built mode t.limits a a t e in (b, x));
}
