-- What a width finds and answers, by what the look-up told. Assumes nothing.
use mathlib.Core.Path.{◌≡◌, refl, sym, ap, ◌∙◌, subst}
use mathlib.Core.Bool.{Bool, true, false}
use mathlib.Core.List.{List, [], ◌++◌}
use Rattle.std.specs.Prelude.{Option, Some, None, Result, Ok, Err, IsErr}
use Prim.Native.Nat.{ℕ, zero, suc, ◌+◌, ◌≤◌, ◌<◌, ◌-◌}
use native.Mathlib.Nat.{sub-zero}
use native.Mathlib.Omega.{arith}
use lib.ListN.{length, take, drop, length-take, length-append}
use lib.Seq.{length-take-le}
use Rattle.exact.specs.Matrix.{Exact}
use Rattle.exact.specs.Fingerprint.{fingerprint}
use Rattle.synthesis_arena.specs.Lookup.{told_found}
use Rattle.synthesis_arena.specs.declared.BadChain.{BadChain}
use Rattle.ints.specs.Lists.{pick}
use Rattle.ints.proofs.Bools.{clash}
use Rattle.walk.specs.Chains.{Chain, good, bad}
use Rattle.walk.specs.Finds.{WidthLimits, Part, Finding, node, none, refused, rechecked, chain_at, by_chain, by_lookup, looked_in, find_from, find_by}
use Rattle.walk.specs.Lookup.{found}
use Rattle.walk.specs.Lookup as lookup
use Rattle.walk.proofs.Indexed.{looked_node}
use Rattle.walk.specs.Answers.{outcome, write_of, then_write, answer_of}
use Rattle.walk.specs.Answers as a
use Rattle.walk.proofs.Meaning.{no_nodes, find_means, means}
use Rattle.node_answer.specs.Answers.{told_find, NodeFound}
use Rattle.width_answer.specs.Answers.{PrintFound, ListFound}

-- whether none is found
abbrev pub is_none : Finding → Bool
is_none (node k m) = false
is_none none = true
is_none (refused a i) = false

-- what a chain gives where the search ends there, and where it goes on
ends : (n : ℕ) (x : Exact) (k : ℕ) (rest : Finding) (c : Chain) → is_none (by_chain n x k none c) ≡ false → by_chain n x k none c ≡ by_chain n x k rest c
ends n x k rest bad h = refl
ends n x k rest (good l) h = by (rechecked n l x) h
  where
    by : (t : Bool) → is_none (pick t (node k (length l)) none) ≡ false → pick t (node k (length l)) none ≡ pick t (node k (length l)) rest
    by true h = refl
    by false h = clash refl h

goes_on : (n : ℕ) (x : Exact) (k : ℕ) (rest : Finding) (c : Chain) → by_chain n x k none c ≡ none → by_chain n x k rest c ≡ rest
goes_on n x k rest bad h = clash (ap is_none h) refl
goes_on n x k rest (good l) h = by (rechecked n l x) h
  where
    by : (t : Bool) → pick t (node k (length l)) none ≡ none → pick t (node k (length l)) rest ≡ rest
    by true h = clash (ap is_none h) refl
    by false h = refl

module _ (limits : WidthLimits) (part : Part) (y : ℕ) (x : Exact) where
  -- what is left of the search, from some place on that leads to node k, finds what the whole finds
  pub record Searching (k left : ℕ) : Type 0 where
    pub from : ℕ
    pub looked : looked_in part from y ≡ found k
    pub rest : find_from limits part y x left from ≡ find_by limits part y x

  pub search_start : {k : ℕ} → looked_in part 0 y ≡ found k → Searching k part.count
  unfolding find_by
  search_start e = record { from = 0; looked = e; rest = refl }

  -- as many turns are left as there are nodes, less those that were made
  abbrev pub SearchingAfter : (k turns : ℕ) → Type 0
  SearchingAfter k turns = Searching k (part.count - turns)

  pub search_begins : {k : ℕ} → Searching k part.count → SearchingAfter k 0
  search_begins {k} s = subst (λ (m : ℕ). Searching k m) (sym (sub-zero part.count)) s

  pub after_start : {k : ℕ} → looked_in part 0 y ≡ found k → SearchingAfter k 0
  after_start e = search_begins (search_start e)

  pub search_goes_on : {k : ℕ} (turns : ℕ) → Searching k (part.count - turns - 1) → SearchingAfter k (turns + 1)
  search_goes_on {k} turns s =
      let z : part.count - turns - 1 ≡ part.count - (turns + 1) = omega arith in
      subst (λ (m : ℕ). Searching k m) z s

  -- where the look-up leads to no node, nothing more is found
  no_more : (m from : ℕ) → looked_in part from y ≡ lookup.none → none ≡ find_from limits part y x m from
  unfolding find_from
  no_more zero from e = refl
  no_more (suc m) from e = ap (by_lookup limits part x (λ next. find_from limits part y x m next)) (sym e)

  -- the first look-up finds none
  pub search_miss : {r : Option ℕ} → told_found r ≡ looked_in part 0 y → r ≡ None → (list : List ℕ) → PrintFound limits part y x none list
  unfolding find_by
  search_miss told e list = record { is = no_more part.count 0 (sym told ∙ ap told_found e); copies = λ out. refl }

  -- one turn, at the node that was looked up
  module _ {k left : ℕ} (s : Searching k left) where
    pub search_below : k < part.count
    search_below = (looked_node part.by part.index part.fingerprints part.count s.from y k s.looked).below

    -- no turn is left
    pub search_done : left ≡ 0 → (list : List ℕ) → PrintFound limits part y x none list
    unfolding find_from
    search_done e list = record { is = ap (λ (m : ℕ). find_from limits part y x m s.from) (sym e) ∙ s.rest; copies = λ out. refl }

    module _ (some : 0 < left) {g : Finding} {list : List ℕ} (w : NodeFound limits.width x (chain_at limits part) k g list) where
      turned : by_lookup limits part x (λ next. find_from limits part y x (left - 1) next) (found k) ≡ find_by limits part y x
      unfolding find_from
      turned =
          let z : suc (left - 1) ≡ left = omega (arith, some) in
          ap (by_lookup limits part x (λ next. find_from limits part y x (left - 1) next)) (sym s.looked)
          ∙ ap (λ (m : ℕ). find_from limits part y x m s.from) z ∙ s.rest

      -- the node ends the search
      pub search_ends : is_none g ≡ false → PrintFound limits part y x g list
      unfolding write_of
      search_ends n = record {
        is = w.is ∙ ends limits.width x k _ (chain_at limits part k) (sym (ap is_none w.is) ∙ n) ∙ turned;
        copies = w.copies;
      }

      -- as a bad chain does, which the code answers by an error
      pub search_err : g ≡ refused 13 0 → (r : Result (Option (ℕ × ℕ)) BadChain) → IsErr r → PrintFound limits part y x (told_find r) list
      search_err e (Ok o) h = cc
      search_err e (Err b) h =
          let p = search_ends (ap is_none e) in
          record { is = sym e ∙ p.is; copies = λ out. refl }

      -- or is passed
      passed : g ≡ none → find_from limits part y x (left - 1) (k + 1) ≡ find_by limits part y x
      passed n =
          let z : k + 1 ≡ suc k = omega arith in
          ap (find_from limits part y x (left - 1)) z
          ∙ sym (goes_on limits.width x k (find_from limits part y x (left - 1) (suc k)) (chain_at limits part k) (sym w.is ∙ n)) ∙ turned

      -- and the look-up past it tells the next node, or that there is none
      module _ (n : g ≡ none) {r : Option ℕ} (told : told_found r ≡ looked_in part (k + 1) y) where
        pub search_none : r ≡ None → (after : List ℕ) → PrintFound limits part y x none after
        search_none e after = record { is = no_more (left - 1) (k + 1) (sym told ∙ ap told_found e) ∙ passed n; copies = λ out. refl }

        pub search_on : {j : ℕ} → r ≡ Some j → Searching j (left - 1)
        search_on e = record { from = k + 1; looked = sym told ∙ ap told_found e; rest = passed n }

  -- the same where turns are counted that were made
  module _ {k turns : ℕ} (s : SearchingAfter k turns) where
    pub after_done : part.count ≤ turns → (list : List ℕ) → PrintFound limits part y x none list
    after_done e list = search_done s (omega arith) list

    module _ (some : turns < part.count) {g : Finding} {list : List ℕ} (w : NodeFound limits.width x (chain_at limits part) k g list) where
      pub after_ends : is_none g ≡ false → PrintFound limits part y x g list
      after_ends n = search_ends s (omega arith) w n

      pub after_err : g ≡ refused 13 0 → (r : Result (Option (ℕ × ℕ)) BadChain) → IsErr r → PrintFound limits part y x (told_find r) list
      after_err e r h = search_err s (omega arith) w e r h

      module _ (n : g ≡ none) {r : Option ℕ} (told : told_found r ≡ looked_in part (k + 1) y) where
        pub after_none : r ≡ None → (after : List ℕ) → PrintFound limits part y x none after
        after_none e after = search_none s (omega arith) w n told e after

        pub after_on : {j : ℕ} → r ≡ Some j → SearchingAfter j (turns + 1)
        after_on e = search_goes_on turns (search_on s (omega arith) w n told e)

-- by the case that the answer is
pub as_told : {n : ℕ} {x : Exact} {chain : ℕ → Chain} {k : ℕ} {list : List ℕ} {r s : Result (Option (ℕ × ℕ)) BadChain} → r ≡ s → NodeFound n x chain k (told_find r) list
    → NodeFound n x chain k (told_find s) list
as_told {n} {x} {chain} {k} {list} e w = subst (λ (f : Result (Option (ℕ × ℕ)) BadChain). NodeFound n x chain k (told_find f) list) e w

-- by the matrix's own fingerprint
pub own_print : (limits : WidthLimits) (part : Part) (x : Exact) {y : ℕ} → y ≡ fingerprint limits.width x → {g : Finding} {list : List ℕ}
    → PrintFound limits part y x g list → ListFound limits part x g list
unfolding answer_of
own_print limits part x {y} e {g} w =
    let h = w.is ∙ ap (λ (z : ℕ). find_by limits part z x) e in
    record { is = h; copies = λ out. w.copies out ∙ ap (then_write (λ j. write_of limits part j out) out) h }

-- in a part without nodes nothing is found
pub empty_found : (limits : WidthLimits) (part : Part) (x : Exact) (list : List ℕ) → part.count ≡ 0 → ListFound limits part x none list
unfolding answer_of
empty_found limits part x list e =
    let h = sym (no_nodes limits part x e) in
    record { is = h; copies = λ out. ap (then_write (λ j. write_of limits part j out) out) h }

-- what is found, with its list at hand, is answered
module _ (limits : WidthLimits) (part : Part) (x : Exact) (out list : List ℕ) {r : Result (Option (ℕ × ℕ)) BadChain} (w : ListFound limits part x (told_find r) list) where
  same : {s : Result (Option (ℕ × ℕ)) BadChain} → r ≡ s → ListFound limits part x (told_find s) list
  same e = subst (λ (s : Result (Option (ℕ × ℕ)) BadChain). ListFound limits part x (told_find s) list) e w

  pub answered_none : r ≡ Ok None → outcome a.none out ≡ answer_of limits part x out
  answered_none e = (same e).copies out

  pub answered_bad : {b : BadChain} → r ≡ Err b → outcome (a.refused 13 0) out ≡ answer_of limits part x out
  answered_bad e = (same e).copies out

  -- a list found is no longer than the limit
  pub found_short : {k m : ℕ} → r ≡ Ok (Some (k, m)) → m ≤ limits.gates
  found_short {k} {m} e = let (l, h, z) = ((find_means limits part x).is_node_lem k m).0 (sym (same e).is) in omega (arith, z, h.gates.short)

  -- and it stands in the list
  pub found_within : {k m : ℕ} → r ≡ Ok (Some (k, m)) → m ≤ length list
  found_within {k} {m} e =
      let (l, h, z, f) = ((means limits part x []).is_list m (take m list ++ drop m [])).0 (sym ((same e).copies [])) in
      omega (arith, z, length-take m list, sym (length-append (take m list) (drop m [])) ∙ ap length f ∙ length-append l (drop m []))

  pub answered_list : {k m : ℕ} {after : List ℕ} → r ≡ Ok (Some (k, m)) → after ≡ take (m - 0) list ++ drop (length (take (m - 0) list)) out
      → outcome (a.given m) after ≡ answer_of limits part x out
  answered_list {k} {m} e f =
      let whole : m - 0 ≡ m = omega arith in
      ap (outcome (a.given m)) (f ∙ ap (λ (j : ℕ). take j list ++ drop (length (take j list)) out) whole
      ∙ ap (λ (j : ℕ). take m list ++ drop j out) (length-take-le m list (found_within e)))
      ∙ (same e).copies out
