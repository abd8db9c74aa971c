-- A find and a write beside an answer: the statements of specs/FindWrite. Assumes nothing.
use mathlib.Core.Path.{◌≡◌, refl, sym, ap, ◌∙◌, subst}
use mathlib.Core.Logic.{◌↔◌, ◌⊎◌, inl, inr}
use mathlib.Core.Bool.{true, false}
use mathlib.Core.List.{List, [], ◌∷◌, reverse}
use Prim.Native.Nat.{ℕ, zero, suc, ◌≤◌, ◌<◌}
use native.Mathlib.Omega.{arith}
use borrow.Author.Tests.{lt-ltb, le-ltb, ltb-false}
use lib.ListN.{length, replicate, length-replicate}
use Rattle.exact.specs.Unitary.{Unitary}
use Rattle.walk.specs.Walk.{list_at}
use Rattle.walk.specs.Modes.{Mode}
use Rattle.walk.specs.Chains.{Chain, good, bad}
use Rattle.walk.specs.Finds.{Finding, node, chain_at}
use Rattle.walk.specs.Finds as f
use Rattle.walk.specs.Answers.{then_write}
use Rattle.walk.specs.Meaning.{FoundBy}
use Rattle.walk.proofs.Sequences.{lt_or}
use Rattle.walk.proofs.Chaining.{good_by}
use Rattle.walk.proofs.Meaning.{kind_of_lem, found_kind, found_first, find_means, found_below, written_good, written_bad}
use Rattle.tables.specs.Checks.{first_row, Arrays, room_row}
use Rattle.tables.specs.Tables.{Table, count_at, walk_of, Query, matrix_of, record_row, list_row, node_row, limits_at, part_at, find_rows, found_in, write_rows, written_in}
use Rattle.tables.specs.Tables.{synthesized}
use Rattle.tables.specs.Built.{Built, FilledFrom}
use Rattle.tables.specs.Demand3.{Gives, GivesNone, Refuses, NoSmaller, Complete}
use Rattle.tables.specs.FindWrite.{Finds, FindsNone, FindRefuses, FindDecided, a_node, no_node, a_refusal, FindComplete}
use Rattle.tables.specs.FindWrite.{Writes, WriteRefuses, WriteDecided, a_list, not_written, FindWrite}
use Rattle.tables.proofs.Rows.{Numbers, index_number, first_number, first_here, first_past, first_none, first_row_append}
use Rattle.tables.proofs.Counts.{good_record}
use Rattle.tables.proofs.Asked.{numbered_find, passed, good_table, rows_passed, part_found, find_passed, find_refused, write_passed, write_refused, answer_refused, followed}
use Rattle.tables.proofs.Replies.{number_of, not_given, one_list, gives_asked}
use Rattle.tables.proofs.OfBuilt.{counted, chain_at_lem}
use Rattle.tables.proofs.Demand3.{demand}

-- ---- a find, a row at a time

-- a list that is long enough
abbrev long_list : Table → List ℕ
long_list t = replicate t.limits.gates 0

long_enough : (t : Table) → t.limits.gates ≤ length (long_list t)
long_enough t = let e = length-replicate {A = ℕ} t.limits.gates 0 in omega (arith, e)

module _ (t : Table) (a : Arrays) (q : Query) where
  -- what is found is by a row, or by the part of the width
  by_rows : (r : ℕ) → first_row (find_rows t a q) ≡ r → (first_row (find_rows t a q) ≡ 0) ⊎ FindRefuses t a q r
  by_rows zero e = inl e
  by_rows (suc r) e = inr (find_refused t a q (suc r) (omega arith) e)

  find_decided : FindDecided t a q
  find_decided = by (by_rows (first_row (find_rows t a q)) refl)
    where
      at : first_row (find_rows t a q) ≡ 0 → (g : Finding) → part_found t a q ≡ g → FindDecided t a q
      at e (node k m) h = a_node k m (find_passed t a q e ∙ h)
      at e f.none h = no_node (find_passed t a q e ∙ h)
      at e (f.refused r p) h =
          let (x, y, z) = ((find_means (limits_at t.limits q.width) (part_at t a q.width) (matrix_of q)).is_refused r p).0 h in
          a_refusal r (find_passed t a q e ∙ (h ∙ ap (f.refused r) z))

      by : (first_row (find_rows t a q) ≡ 0) ⊎ FindRefuses t a q (first_row (find_rows t a q)) → FindDecided t a q
      by (inl e) = at e (part_found t a q) refl
      by (inr n) = a_refusal _ n

  -- a node found: no row of the find holds, and its chain gives a list
  module _ (k m : ℕ) (h : Finds t a q k m) where
    no_row : first_row (find_rows t a q) ≡ 0
    no_row = by (by_rows (first_row (find_rows t a q)) refl)
      where
        by : (first_row (find_rows t a q) ≡ 0) ⊎ FindRefuses t a q (first_row (find_rows t a q)) → first_row (find_rows t a q) ≡ 0
        by (inl e) = e
        by (inr n) = absurd (omega (arith, ap found_kind (sym n ∙ h)))

    part_node : part_found t a q ≡ node k m
    part_node = sym (find_passed t a q no_row) ∙ h

    found_by : (l : List ℕ) × FoundBy (limits_at t.limits q.width) (part_at t a q.width) (matrix_of q) k l × (m ≡ length l)
    found_by = ((find_means (limits_at t.limits q.width) (part_at t a q.width) (matrix_of q)).is_node_lem k m).0 part_node

    there : k < count_at t q.width
    there = found_below (limits_at t.limits q.width) (part_at t a q.width) (matrix_of q) part_node

  -- a find is never refused by 12
  never_12 : FindRefuses t a q 12 → ⊥
  never_12 n = by (first_row (find_rows t a q)) refl
    where
      other : Numbers (λ (k : ℕ). k ≡ 12 → ⊥) (find_rows t a q)
      other = (
        (λ e. absurd (omega (arith, e))),
        (
          (λ e. absurd (omega (arith, e))),
          (
            (λ e. absurd (omega (arith, e, index_number t.limits a.by (length a.index)))),
            (
              (λ e. absurd (omega (arith, e))),
              (
                (λ e. absurd (omega (arith, e))),
                (
                  (λ e. absurd (omega (arith, e))),
                  ((λ e. absurd (omega (arith, e))), tt),
                ),
              ),
            ),
          ),
        ),
      )

      by : (r : ℕ) → first_row (find_rows t a q) ≡ r → ⊥
      by zero e =
          let (x, y, z) = ((find_means (limits_at t.limits q.width) (part_at t a q.width) (matrix_of q)).is_refused 12 0).0 (sym (find_passed t a q e) ∙ n) in
          absurd (omega (arith, y))
      by (suc r) e =
          let z : suc r ≡ 12 = ap found_first (sym (find_refused t a q (suc r) (omega arith) e) ∙ n) in
          first_number (λ (k : ℕ). k ≡ 12 → ⊥) (find_rows t a q) (λ z. absurd (omega (arith, z))) other (e ∙ z)

  -- with a lent list that is long enough the answer is what was found, and then written
  module _ (out : List ℕ) (room : t.limits.gates ≤ length out) where
    same : {g : Finding} → found_in t a q ≡ g → synthesized t a q out ≡ then_write (λ k. written_in t a q.width k out) out g
    same e =
        sym (followed t a q out (λ _. le-ltb (length out) t.limits.gates room)) ∙ ap (then_write (λ k. written_in t a q.width k out) out) e

    found_written : (k m : ℕ) → Finds t a q k m → (l : List ℕ) × (length l ≡ m) × Writes t a q.width k out l × Gives t a q out l
    found_written k m h =
        let (l, w, z) = found_by k m h in
        let (r, s, u) = good_table t a _ (no_row k m h) in
        let wrote =
        write_passed t a q.width k out (rows_passed t a q.width k out r s (there k m h) (le-ltb (length out) t.limits.gates room))
        ∙ written_good (limits_at t.limits q.width) (part_at t a q.width) k out (good_by _ _ _ _ _ k w.gates) in
        (l, sym z, wrote, same h ∙ wrote)

    none_same : FindsNone t a q ↔ GivesNone t a q out
    none_same = (same, λ n. by n find_decided)
      where
        by : GivesNone t a q out → FindDecided t a q → FindsNone t a q
        by n (a_node k m h) = let (l, z, w, g) = found_written k m h in absurd (omega (arith, kind_of_lem (sym g ∙ n)))
        by n (no_node e) = e
        by n (a_refusal r e) = absurd (omega (arith, kind_of_lem (sym (same e) ∙ n)))

    refused_same : (r : ℕ) → FindRefuses t a q r ↔ Refuses t a q out r
    refused_same r = (same, λ n. by n find_decided)
      where
        by : Refuses t a q out r → FindDecided t a q → FindRefuses t a q r
        by n (a_node k m h) = let (l, z, w, g) = found_written k m h in absurd (omega (arith, kind_of_lem (sym g ∙ n)))
        by n (no_node e) = absurd (omega (arith, kind_of_lem (sym (same e) ∙ n)))
        by n (a_refusal s e) = let z = number_of (sym (same e) ∙ n) in e ∙ ap (λ (j : ℕ). f.refused j 0) z

    given_found : (l : List ℕ) → Gives t a q out l → (k : ℕ) × Finds t a q k (length l) × Writes t a q.width k out l
    given_found l g = by find_decided
      where
        by : FindDecided t a q → (k : ℕ) × Finds t a q k (length l) × Writes t a q.width k out l
        by (a_node k m h) =
            let (l', z, w, g') = found_written k m h in
            let e : l' ≡ l = one_list l' l out (sym g' ∙ g) in
            (k, subst (λ (j : ℕ). Finds t a q k j) (sym z ∙ ap length e) h, subst (Writes t a q.width k out) e w)
        by (no_node e) = not_given (omega arith) (sym (same e) ∙ g)
        by (a_refusal r e) = not_given (omega arith) (sym (same e) ∙ g)

  found_short : (k m : ℕ) → Finds t a q k m → (out : List ℕ) → length out < t.limits.gates → WriteRefuses t a q.width k out 12 × Refuses t a q out 12
  found_short k m h out s =
      let (r, u, z) = good_table t a _ (no_row k m h) in
      let short : (list_row t out).holds ≡ true = lt-ltb (length out) t.limits.gates s in
      let in_width : (node_row t q.width k).holds ≡ false = rw (lt-ltb k (count_at t q.width) (there k m h)) in (
        write_refused t a q.width k out 12 (omega arith)
            (first_past (record_row t) _ r ∙ (first_past (room_row t.limits a) _ u ∙ (first_past (node_row t q.width k) _ in_width ∙ first_here (list_row t out) [] short))),
        answer_refused t a q out 12 (omega arith)
            (first_row_append (find_rows t a q) (list_row t out ∷ []) (numbered_find t a q) (no_row k m h) ∙ first_here (list_row t out) [] short),
      )

  -- an answer meets row 12 only where its lent list is too short
  room_of : (out l : List ℕ) → Gives t a q out l → t.limits.gates ≤ length out
  room_of out l g = ltb-false (length out) t.limits.gates (passed t a q out (gives_asked t a q out l g).0).1

-- ---- a write

module _ (t : Table) (a : Arrays) (w k : ℕ) (out : List ℕ) where
  write_decided : WriteDecided t a w k out
  write_decided = by (first_row (write_rows t a w k out)) refl
    where
      at : first_row (write_rows t a w k out) ≡ 0 → (c : Chain) → chain_at (limits_at t.limits w) (part_at t a w) k ≡ c → WriteDecided t a w k out
      at e (good l) h = a_list l (write_passed t a w k out e ∙ written_good (limits_at t.limits w) (part_at t a w) k out h)
      at e bad h = not_written 13 (write_passed t a w k out e ∙ written_bad (limits_at t.limits w) (part_at t a w) k out h)

      by : (r : ℕ) → first_row (write_rows t a w k out) ≡ r → WriteDecided t a w k out
      by zero e = at e (chain_at (limits_at t.limits w) (part_at t a w) k) refl
      by (suc r) e = not_written (suc r) (write_refused t a w k out (suc r) (omega arith) e)

  -- a list written has room for the longest
  write_room : (l : List ℕ) → Writes t a w k out l → t.limits.gates ≤ length out
  write_room l g = by (first_row (write_rows t a w k out)) refl
    where
      by : (r : ℕ) → first_row (write_rows t a w k out) ≡ r → t.limits.gates ≤ length out
      by zero e =
          let (x, y, z) = good_table t a _ e in
          let (u, v) = first_none (node_row t w k) _ (omega arith) z in
          ltb-false (length out) t.limits.gates (first_none (list_row t out) [] (omega arith) v).0
      by (suc r) e = not_given (omega arith) (sym (write_refused t a w k out (suc r) (omega arith) e) ∙ g)

-- ---- demand 3

module _ (t : Table) (a : Arrays) (q : Query) where
  -- the list written of a node found is the list answered
  answered : (k m : ℕ) → Finds t a q k m → (out l : List ℕ) → Writes t a q.width k out l → (length l ≡ m) × Gives t a q out l
  answered k m h out l g =
      let (l', z, w, g') = found_written t a q out (write_room t a q.width k out l g) k m h in
      let e : l' ≡ l = one_list l' l out (sym w ∙ g) in
      (ap length (sym e) ∙ z, subst (Gives t a q out) e g')

  unitary : (k m : ℕ) → Finds t a q k m → Unitary q.width (matrix_of q)
  unitary k m h =
      let (l, z, w, g) = found_written t a q (long_list t) (long_enough t) k m h in
      demand.unitary t a q (long_list t) l g

  find_complete : Complete t a q → FindComplete t a q
  find_complete c = record {
    shortest = λ k m h l r.
        let (l', z, w, g) = found_written t a q (long_list t) (long_enough t) k m h in
        omega (arith, z, c.shortest (long_list t) l' g l r);
    none_exactly = λ p s u n.
        let x = none_same t a q (long_list t) (long_enough t) in
        let y = c.none_exactly p s u (long_list t) (λ r e. n r ((refused_same t a q (long_list t) (long_enough t) r).1 e)) in
        (λ e. y.0 (x.0 e), λ e. x.1 (y.1 e));
  }

  never_13 : {mode : Mode} → Built mode t a → FindRefuses t a q 13 → ⊥
  never_13 {mode} b n = demand.never_13 mode t a b q (long_list t) ((refused_same t a q (long_list t) (long_enough t) 13).0 n)

-- ---- a larger built table

module _ {mode : Mode} (t t' : Table) (a a' : Arrays) (b : Built mode t a) (b' : Built mode t' a') (x' : FilledFrom t' a') (s : NoSmaller t.limits t'.limits)
    (q : Query) (k m : ℕ) (h : Finds t a q k m) where
  -- its answer with a list that is long enough
  larger_node : (l : List ℕ) × (length l ≡ m) × Gives t a q (long_list t) l × ((k' : ℕ) × Finds t' a' q k' (length l) × Writes t' a' q.width k' (long_list t') l)
  larger_node =
      let (l, z, w, g) = found_written t a q (long_list t) (long_enough t) k m h in
      (l, z, g, by l (demand.larger mode t t' a a' b b' x' s q (long_list t) (long_list t') l g))
    where
      by : (l : List ℕ) → Gives t' a' q (long_list t') l ⊎ Refuses t' a' q (long_list t') 12 → (k' : ℕ) × Finds t' a' q k' (length l) × Writes t' a' q.width k' (long_list t') l
      by l (inl g) = given_found t' a' q (long_list t') (long_enough t') l g
      by l (inr n) = absurd (never_12 t' a' q ((refused_same t' a' q (long_list t') (long_enough t') 12).1 n))

  larger : (k' : ℕ) × Finds t' a' q k' m
      × ((out out' l : List ℕ) → Writes t a q.width k out l → Writes t' a' q.width k' out' l ⊎ WriteRefuses t' a' q.width k' out' 12)
  larger =
      let (l, z, g, n) = larger_node in
      let (k', h', w') = n in
      let finds : Finds t' a' q k' m = subst (λ (j : ℕ). Finds t' a' q k' j) z h' in
      (k', finds, at k' finds)
    where
      at : (k' : ℕ) → Finds t' a' q k' m → (out out' l : List ℕ) → Writes t a q.width k out l
          → Writes t' a' q.width k' out' l ⊎ WriteRefuses t' a' q.width k' out' 12
      at k' h' out out' l w = by (lt_or (length out') t'.limits.gates)
        where
          by : (length out' < t'.limits.gates) ⊎ (t'.limits.gates ≤ length out') → Writes t' a' q.width k' out' l ⊎ WriteRefuses t' a' q.width k' out' 12
          by (inl c) = inr (found_short t' a' q k' m h' out' c).0
          by (inr c) =
              let (l', z, v, g') = found_written t' a' q out' c k' m h' in
              inl (subst (Writes t' a' q.width k' out') (one l' g' (demand.larger mode t t' a a' b b' x' s q out out' l (answered t a q k m h out l w).1)) v)
            where
              one : (l' : List ℕ) → Gives t' a' q out' l' → Gives t' a' q out' l ⊎ Refuses t' a' q out' 12 → l' ≡ l
              one l' g' (inl e) = one_list l' l out' (sym g' ∙ e)
              one l' g' (inr e) = not_given (omega arith) (sym e ∙ g')

-- ---- the nodes of a built table

node_written_lem : {mode : Mode} (t : Table) (a : Arrays) → Built mode t a → (w k : ℕ) → k < count_at t w → (out : List ℕ) → t.limits.gates ≤ length out → Writes t a w k out (reverse (list_at (walk_of mode t.limits w).nodes k))
node_written_lem {mode} t a b w k h out room =
    let (p, c, z) = counted t w h in
    let e = chain_at_lem t a b w p c k (omega (arith, h, z)) in
    write_passed t a w k out (rows_passed t a w k out (good_record t a b) b.room h (le-ltb (length out) t.limits.gates room))
    ∙ written_good (limits_at t.limits w) (part_at t a w) k out e

pub find_write : FindWrite
find_write = record {
  find_decided = find_decided;
  write_decided = write_decided;
  found_written = λ t a q k m h out room. found_written t a q out room k m h;
  found_short = found_short;
  given_found = λ t a q out l g. given_found t a q out (room_of t a q out l g) l g;
  none_same = λ t a q out room. none_same t a q out room;
  refused_same = λ t a q out room. refused_same t a q out room;
  right = λ t a q k m h out l w. let (z, g) = answered t a q k m h out l w in let r = demand.right t a q out l g in (z, r.0, r.1, r.2);
  unitary = unitary;
  larger = λ mode. larger;
  complete = find_complete;
  never_13 = λ mode t a b q n. never_13 t a q b n;
  node_written_lem = λ mode. node_written_lem;
}
