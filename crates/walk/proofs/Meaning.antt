-- The definitions of a find, a write and an answer come to what specs/Meaning says of nodes and lists. Assumes nothing.
use mathlib.Core.Path.{◌≡◌, refl, sym, ap, ◌∙◌, subst}
use mathlib.Core.Bool.{Bool, true, false, ◌&&◌}
use mathlib.Core.List.{List, ◌++◌}
use Prim.Native.Nat.{ℕ, zero, suc, ◌+◌, ◌-◌, ◌≤◌, ◌<◌}
use native.Mathlib.Omega.{arith}
use native.Mathlib.Decide.{dec_lt}
use lib.ListN.{length, drop}
use Rattle.exact.specs.Matrix.{Exact}
use Rattle.exact.specs.Lists.{product}
use Rattle.exact.specs.Fits.{Steps, all_fit, unfit_at, steps}
use Rattle.exact.specs.Phase.{up_to_phase}
use Rattle.exact.specs.Fingerprint.{fingerprint}
use Rattle.exact.proofs.Phases.{up_sym, power_of_test}
use Rattle.exact.proofs.Unitaries.{unitary_asked}
use Rattle.walk.specs.Lookup.{Lookup, found}
use Rattle.walk.specs.IndexLaws.{NodeFrom}
use Rattle.walk.specs.Meaning.{LeadsTo, LeadsNowhere, Leads, Gates, Fault, Passed, does_not_fit_lem, not_equal, LookedAt, at_first, past, FoundBy, AnsweredBy, NoList, not_found, no_more, BadFound, FindMeans, HasPrint, AllLowerPassed, AsScan, ScanMeans, Distinct, find_first, FindRule, LowestNode, Nowhere, Means, WriteMeans, Right}
use Rattle.walk.specs.Lookup as lookup
use Rattle.walk.specs.Chains.{Chain, good, bad}
use Rattle.walk.proofs.Lookups.{looks_up}
use Rattle.walk.proofs.Indexed.{leads, looked_node}
use Rattle.walk.proofs.Chaining.{gates_of, good_by, fault_of, bad_by}
use Rattle.walk.specs.Finds.{WidthLimits, Part, fits_all, rechecked, Finding, chain_at, by_chain, by_lookup, looked_in, find_from, find_by, find_of}
use Rattle.walk.specs.Finds as f
use Rattle.walk.specs.Answers.{Reply, given, none, refused, Outcome, outcome, written, write_of, then_write, answer_of}

-- ---- a reply is one case alone

abbrev pub kind : Reply → ℕ
kind (given m) = 0
kind none = 1
kind (refused a i) = 2

abbrev pub size : Reply → ℕ
size (given m) = m
size none = 0
size (refused a i) = 0

abbrev pub first : Reply → ℕ
first (given m) = 0
first none = 0
first (refused a i) = a

abbrev pub second : Reply → ℕ
second (given m) = 0
second none = 0
second (refused a i) = i

pub kind_of_lem : {a b : Reply} {l m : List ℕ} → outcome a l ≡ outcome b m → kind a ≡ kind b
kind_of_lem e = ap (λ (o : Outcome). kind o.reply) e

-- ---- and so is what is found

abbrev pub found_kind : Finding → ℕ
found_kind (f.node k m) = 0
found_kind f.none = 1
found_kind (f.refused a i) = 2

abbrev pub found_first : Finding → ℕ
found_first (f.node k m) = k
found_first f.none = 0
found_first (f.refused a i) = a

abbrev pub found_second : Finding → ℕ
found_second (f.node k m) = m
found_second f.none = 0
found_second (f.refused a i) = i

kinds : {a b : Finding} → a ≡ b → found_kind a ≡ found_kind b
kinds e = ap found_kind e

-- what is not equal up to phase is not answered, whether it fits or not
test_fails : (s : Steps) (t : Bool) → t ≡ false → fits_all s && t ≡ false
test_fails all_fit t e = e
test_fails (unfit_at i) t e = refl

-- ---- the write

module _ (limits : WidthLimits) (part : Part) (k : ℕ) (out : List ℕ) where
  pub written_good : {l : List ℕ} → chain_at limits part k ≡ good l → write_of limits part k out ≡ outcome (given (length l)) (l ++ drop (length l) out)
  unfolding write_of
  written_good e = ap (written out) e

  pub written_bad : chain_at limits part k ≡ bad → write_of limits part k out ≡ outcome (refused 13 0) out
  unfolding write_of
  written_bad e = ap (written out) e

  abbrev Way : List ℕ → Type 0
  Way l = Gates limits.width limits.basis limits.gates part.parents part.codes k l

  abbrev Broken : Type 0
  Broken = Fault limits.width limits.basis limits.gates part.parents part.codes k

  pub write_means : WriteMeans limits part k out
  write_means = record {
    is_list = λ m after. (to_list (chain_at limits part k) refl, from_list);
    never_none = λ after. not_none (chain_at limits part k) refl;
    is_refused = λ a i after. (to_bad (chain_at limits part k) refl, from_bad);
  }
    where
      to_list : {m : ℕ} {after : List ℕ} (c : Chain) → chain_at limits part k ≡ c → write_of limits part k out ≡ outcome (given m) after
          → (l : List ℕ) × Way l × (m ≡ length l) × (after ≡ l ++ drop m out)
      to_list bad g e = absurd (omega (arith, kind_of_lem (sym (written_bad g) ∙ e)))
      to_list (good l) g e =
          let h = sym (written_good g) ∙ e in
          let z = ap (λ (o : Outcome). size o.reply) h in
          (l, gates_of _ _ _ _ _ k g, sym z, sym (ap (λ (o : Outcome). o.list) h) ∙ ap (λ (j : ℕ). l ++ drop j out) z)

      from_list : {m : ℕ} {after : List ℕ} → (l : List ℕ) × Way l × (m ≡ length l) × (after ≡ l ++ drop m out)
          → write_of limits part k out ≡ outcome (given m) after
      from_list (l, w, z, h) =
          written_good (good_by _ _ _ _ _ k w) ∙ ap (λ (j : ℕ). outcome (given j) (l ++ drop j out)) (sym z) ∙ ap (outcome (given _)) (sym h)

      not_none : {after : List ℕ} (c : Chain) → chain_at limits part k ≡ c → write_of limits part k out ≡ outcome none after → ⊥
      not_none bad g e = absurd (omega (arith, kind_of_lem (sym (written_bad g) ∙ e)))
      not_none (good l) g e = absurd (omega (arith, kind_of_lem (sym (written_good g) ∙ e)))

      to_bad : {a i : ℕ} {after : List ℕ} (c : Chain) → chain_at limits part k ≡ c → write_of limits part k out ≡ outcome (refused a i) after
          → Broken × (a ≡ 13) × (i ≡ 0) × (after ≡ out)
      to_bad (good l) g e = absurd (omega (arith, kind_of_lem (sym (written_good g) ∙ e)))
      to_bad bad g e =
          let h = sym e ∙ written_bad g in
          (fault_of _ _ _ _ _ k g, ap (λ (o : Outcome). first o.reply) h, ap (λ (o : Outcome). second o.reply) h, ap (λ (o : Outcome). o.list) h)

      from_bad : {a i : ℕ} {after : List ℕ} → Broken × (a ≡ 13) × (i ≡ 0) × (after ≡ out) → write_of limits part k out ≡ outcome (refused a i) after
      from_bad (w, p, q, h) = written_bad (bad_by _ _ _ _ _ k w) ∙ (λ j. outcome (refused (sym p j) (sym q j)) (sym h j))

module _ (limits : WidthLimits) (part : Part) (x : Exact) where
  abbrev count : ℕ
  count = part.count

  abbrev n : ℕ
  n = limits.width

  -- what the fingerprint of x leads to
  abbrev y : ℕ
  y = fingerprint n x

  abbrev To : ℕ → ℕ → Type 0
  To from k = LeadsTo part.by part.index part.fingerprints count from y k

  looks : (from : ℕ) → Leads part.by part.index part.fingerprints count from y
  looks from = leads part.by part.index part.fingerprints count from y

  to_node : (from k : ℕ) → To from k → NodeFrom part.fingerprints count from y k
  to_node from k w = looked_node part.by part.index part.fingerprints count from y k (((looks from).is_found k).1 w)

  abbrev By : ℕ → List ℕ → Type 0
  By k l = FoundBy limits part x k l

  abbrev No : Type 0
  No = NoList limits part x

  abbrev Bad : Type 0
  Bad = BadFound limits part x

  abbrev At : ℕ → Type 0
  At k = LookedAt limits part x k

  abbrev Pass : ℕ → Type 0
  Pass k = Passed limits part x k

  abbrev finding : Finding
  finding = find_of limits part x

  -- ---- from what holds to the find

  -- a turn of the search that comes to node k
  turn : (m from k : ℕ) → To from k → find_from limits part y x (suc m) from ≡ by_chain n x k (find_from limits part y x m (suc k)) (chain_at limits part k)
  unfolding find_from
  turn m from k w = ap (by_lookup limits part x (λ next. find_from limits part y x m next)) (((looks from).is_found k).1 w)

  -- that comes to none
  no_turn : (m from : ℕ) → LeadsNowhere part.by part.index part.fingerprints count from y → find_from limits part y x m from ≡ f.none
  unfolding find_from
  no_turn zero from w = refl
  no_turn (suc m) from w = ap (by_lookup limits part x (λ next. find_from limits part y x m next)) ((looks from).is_none.1 w)

  -- of a node that is passed the search goes on
  goes_on : (k : ℕ) (rest : Finding) → Pass k → by_chain n x k rest (chain_at limits part k) ≡ rest
  unfolding rechecked
  goes_on k rest (does_not_fit_lem i l g e) = rw (good_by _ _ _ _ _ k g, e)
  goes_on k rest (not_equal l g e) = rw (good_by _ _ _ _ _ k g, test_fails (steps n l) _ e)

  -- the find comes to a node that is looked at, with as many turns left as there may be nodes past it
  record Comes (k : ℕ) : Type 0 where
    left : ℕ
    enough : count ≤ left + suc k
    is : finding ≡ by_chain n x k (find_from limits part y x left (suc k)) (chain_at limits part k)

  comes : {k : ℕ} → At k → Comes k
  unfolding find_by
  comes (at_first k w) =
      let c = to_node 0 k w in
      let z : suc (count - 1) ≡ count = omega (arith, c.below) in
      record { left = count - 1; enough = omega arith; is = ap (λ (m : ℕ). find_from limits part y x m 0) (sym z) ∙ turn (count - 1) 0 k w }
  comes (past j k a p w) =
      let b = comes a in
      let c = to_node (suc j) k w in
      let q : 0 < b.left = omega (arith, b.enough, c.below, c.not_before) in
      let z : suc (b.left - 1) ≡ b.left = omega (arith, q) in
      record {
        left = b.left - 1;
        enough = omega (arith, b.enough, c.not_before, q);
        is = b.is ∙ goes_on j (find_from limits part y x b.left (suc j)) p ∙ ap (λ (m : ℕ). find_from limits part y x m (suc j)) (sym z) ∙ turn (b.left - 1) (suc j) k w;
      }

  node_found : {k : ℕ} {l : List ℕ} → By k l → finding ≡ f.node k (length l)
  unfolding rechecked
  node_found {k} w = (comes w.leads).is ∙ rw (good_by _ _ _ _ _ k w.gates, w.fits, w.equal)

  bad_found : Bad → finding ≡ f.refused 13 0
  bad_found w = (comes w.leads).is ∙ rw (bad_by _ _ _ _ _ w.node w.fault)

  none_found : No → finding ≡ f.none
  unfolding find_by
  none_found (not_found w) = no_turn count 0 w
  none_found (no_more k a p w) = let b = comes a in b.is ∙ goes_on k (find_from limits part y x b.left (suc k)) p ∙ no_turn b.left (suc k) w

  -- ---- and back: one of the three holds

  data View : Type 0 where
    a_node : {k : ℕ} {l : List ℕ} → By k l → View
    no_node : No → View
    a_fault : Bad → View

  -- the search stands at its start, or past a node that is passed
  data Standing (from : ℕ) : Type 0 where
    at_start : from ≡ 0 → Standing from
    behind : (k : ℕ) → At k → Pass k → from ≡ suc k → Standing from

  comes_to : {from k : ℕ} → Standing from → To from k → At k
  comes_to {from} {k} (at_start e) w = at_first k (subst (λ (i : ℕ). To i k) e w)
  comes_to {from} {k} (behind j a p e) w = past j k a p (subst (λ (i : ℕ). To i k) e w)

  comes_to_none : {from : ℕ} → Standing from → LeadsNowhere part.by part.index part.fingerprints count from y → No
  comes_to_none {from} (at_start e) w = not_found (subst (λ (i : ℕ). LeadsNowhere part.by part.index part.fingerprints count i y) e w)
  comes_to_none {from} (behind j a p e) w = no_more j a p (subst (λ (i : ℕ). LeadsNowhere part.by part.index part.fingerprints count i y) e w)

  -- one turn of the search; `on` goes on past a node
  one_turn : (m from : ℕ) → count ≤ m + from → Standing from → ((k : ℕ) → from ≤ k → k < count → Standing (suc k) → View) → View
  one_turn m from h s on = by (looked_in part from y) refl
    where
      by : (g : Lookup) → looked_in part from y ≡ g → View
      by lookup.none e = no_node (comes_to_none s ((looks from).is_none.0 e))
      by (found k) e = at (chain_at limits part k) refl
        where
          w : At k
          w = comes_to s (((looks from).is_found k).0 e)

          c : NodeFrom part.fingerprints count from y k
          c = to_node from k (((looks from).is_found k).0 e)

          at : (c : Chain) → chain_at limits part k ≡ c → View
          at bad g = a_fault (record { node = k; leads = w; fault = fault_of _ _ _ _ _ k g })
          at (good l) g = test (steps n l) refl (up_to_phase n (product n l) x) refl
            where
              way : Gates n limits.basis limits.gates part.parents part.codes k l
              way = gates_of _ _ _ _ _ k g

              test : (s : Steps) → steps n l ≡ s → (b : Bool) → up_to_phase n (product n l) x ≡ b → View
              test (unfit_at i) p b q = on k c.not_before c.below (behind k w (does_not_fit_lem i l way p) refl)
              test all_fit p false q = on k c.not_before c.below (behind k w (not_equal l way q) refl)
              test all_fit p true q = a_node (record { leads = w; gates = way; fits = p; equal = q })

  search_on : (m from : ℕ) → count ≤ m + from → Standing from → View
  search_on zero from h s = one_turn zero from h s (λ k b l t. absurd (omega arith))
  search_on (suc m) from h s = one_turn (suc m) from h s (λ k b l t. search_on m (suc k) (omega arith) t)

  view : View
  view = search_on count 0 (omega arith) (at_start refl)

  -- ---- both

  pub find_means : FindMeans limits part x
  find_means = record {
    is_node_lem = λ k m. (to_node view, from_node);
    is_none = (to_none view, none_found);
    is_refused = λ a i. (to_bad view, from_bad);
  }
    where
      to_node : {j m : ℕ} → View → finding ≡ f.node j m → (l : List ℕ) × By j l × (m ≡ length l)
      to_node (a_node {k} {l} w) e =
          let h = sym (node_found w) ∙ e in
          (l, subst (λ (i : ℕ). By i l) (ap found_first h) w, sym (ap found_second h))
      to_node (no_node w) e = absurd (omega (arith, kinds (sym (none_found w) ∙ e)))
      to_node (a_fault w) e = absurd (omega (arith, kinds (sym (bad_found w) ∙ e)))

      from_node : {k m : ℕ} → (l : List ℕ) × By k l × (m ≡ length l) → finding ≡ f.node k m
      from_node {k} (l, w, z) = node_found w ∙ ap (λ (j : ℕ). f.node k j) (sym z)

      to_none : View → finding ≡ f.none → No
      to_none (a_node w) e = absurd (omega (arith, kinds (sym (node_found w) ∙ e)))
      to_none (no_node w) e = w
      to_none (a_fault w) e = absurd (omega (arith, kinds (sym (bad_found w) ∙ e)))

      to_bad : {a i : ℕ} → View → finding ≡ f.refused a i → Bad × (a ≡ 13) × (i ≡ 0)
      to_bad (a_node w) e = absurd (omega (arith, kinds (sym (node_found w) ∙ e)))
      to_bad (no_node w) e = absurd (omega (arith, kinds (sym (none_found w) ∙ e)))
      to_bad (a_fault w) e = let h = sym e ∙ bad_found w in (w, ap found_first h, ap found_second h)

      from_bad : {a i : ℕ} → Bad × (a ≡ 13) × (i ≡ 0) → finding ≡ f.refused a i
      from_bad (w, p, q) = bad_found w ∙ (λ j. f.refused (sym p j) (sym q j))

  -- a part without nodes has none
  pub no_nodes : count ≡ 0 → finding ≡ f.none
  unfolding find_by find_from
  no_nodes e = ap (λ (m : ℕ). find_from limits part y x m 0) e

  -- a node that is looked at is below the count
  pub at_below : {k : ℕ} → At k → k < count
  at_below (at_first k w) = (to_node 0 k w).below
  at_below (past j k a p w) = (to_node (suc j) k w).below

  -- a node found is below the count
  pub found_below : {k m : ℕ} → finding ≡ f.node k m → k < count
  found_below {k} {m} e = let (l, w, z) = (find_means.is_node_lem k m).0 e in at_below w.leads

  -- ---- where the look-up finds the scan's node

  abbrev Print : ℕ → Type 0
  Print k = HasPrint limits part x k

  abbrev Low : ℕ → Type 0
  Low k = AllLowerPassed limits part x k

  abbrev WayOf : ℕ → List ℕ → Type 0
  WayOf k l = Gates n limits.basis limits.gates part.parents part.codes k l

  abbrev FaultAt : ℕ → Type 0
  FaultAt k = Fault n limits.basis limits.gates part.parents part.codes k

  -- a node that is looked at has the fingerprint
  at_print : {k : ℕ} → At k → Print k
  at_print (at_first k w) = let c = to_node 0 k w in record { below = c.below; has = c.has }
  at_print (past j k a p w) = let c = to_node (suc j) k w in record { below = c.below; has = c.has }

  -- a node that is passed is neither found nor bad
  not_passed_found : {k : ℕ} {l : List ℕ} → Pass k → WayOf k l → steps n l ≡ all_fit → up_to_phase n (product n l) x ≡ true → ⊥
  unfolding rechecked
  not_passed_found {k} {l} p g s t =
      let e : by_chain n x k f.none (chain_at limits part k) ≡ f.node k (length l) = rw (good_by _ _ _ _ _ k g, s, t) in
      absurd (omega (arith, kinds (sym (goes_on k f.none p) ∙ e)))

  not_passed_bad : {k : ℕ} → Pass k → FaultAt k → ⊥
  not_passed_bad {k} p g =
      let e : by_chain n x k f.none (chain_at limits part k) ≡ f.refused 13 0 = rw (bad_by _ _ _ _ _ k g) in
      absurd (omega (arith, kinds (sym (goes_on k f.none p) ∙ e)))

  module _ (same : AsScan limits part x) where
    to_lowest : (from k : ℕ) → looked_in part from y ≡ found k → LowestNode part.fingerprints count from y k
    to_lowest from k e = ((looks_up part.fingerprints count from y).is_found k).0 (sym (same from y) ∙ e)

    to_nowhere : (from : ℕ) → looked_in part from y ≡ lookup.none → Nowhere part.fingerprints count from y
    to_nowhere from e = (looks_up part.fingerprints count from y).is_none.0 (sym (same from y) ∙ e)

    -- the search comes to a node below which every node with the fingerprint is passed; `on` goes on past a lower one
    reach_turn : (from k : ℕ) → from ≤ k → Low k → Standing from → ((j : ℕ) → from ≤ j → j < k → Standing (suc j) → At k) → At k
    reach_turn from k l w s on = by (looked_in part from y) refl
      where
        by : (g : Lookup) → looked_in part from y ≡ g → At k
        by lookup.none e = absurd ((to_nowhere from e).none_has k l w.print.below w.print.has)
        by (found j) e = which (dec_lt j k) (dec_lt k j)
          where
            i : LowestNode part.fingerprints count from y j
            i = to_lowest from j e

            here : At j
            here = comes_to s (((looks from).is_found j).0 e)

            which : Dec (j < k) → Dec (k < j) → At k
            which (yes q) r = on j i.not_before q (behind j here (w.passed j q (record { below = i.below; has = i.has })) refl)
            which (no q) (yes r) = absurd (i.none_before k l r w.print.has)
            which (no q) (no r) = let z : j ≡ k = omega arith in subst At z here

    reach : (m from k : ℕ) → k < m + from → from ≤ k → Low k → Standing from → At k
    reach zero from k h l w s = absurd (omega arith)
    reach (suc m) from k h l w s = reach_turn from k l w s (λ j b q t. reach m (suc j) k (omega arith) q w t)

    low_at : {k : ℕ} → Low k → At k
    low_at {k} w = reach (suc k) 0 k (omega arith) (omega arith) w (at_start refl)

    -- one of three
    data ScanView : Type 0 where
      s_node : {k : ℕ} {l : List ℕ} → Low k → WayOf k l → steps n l ≡ all_fit → up_to_phase n (product n l) x ≡ true → ScanView
      s_none : ((m : ℕ) → Print m → Pass m) → ScanView
      s_fault : {k : ℕ} → Low k → FaultAt k → ScanView

    abbrev PassedTo : ℕ → Type 0
    PassedTo from = (m : ℕ) → m < from → Print m → Pass m

    scan_turn : (from : ℕ) → PassedTo from → ((k : ℕ) → from ≤ k → k < count → PassedTo (suc k) → ScanView) → ScanView
    scan_turn from s on = by (looked_in part from y) refl
      where
        by : (g : Lookup) → looked_in part from y ≡ g → ScanView
        by lookup.none e = s_none all
          where
            all : (m : ℕ) → Print m → Pass m
            all m p = which (dec_lt m from)
              where
                which : Dec (m < from) → Pass m
                which (yes q) = s m q p
                which (no q) = absurd ((to_nowhere from e).none_has m (omega arith) p.below p.has)
        by (found k) e = at (chain_at limits part k) refl
          where
            i : LowestNode part.fingerprints count from y k
            i = to_lowest from k e

            w : Low k
            w = record { print = record { below = i.below; has = i.has }; passed = before }
              where
                before : PassedTo k
                before m l p = which (dec_lt m from)
                  where
                    which : Dec (m < from) → Pass m
                    which (yes q) = s m q p
                    which (no q) = absurd (i.none_before m (omega arith) l p.has)

            upto : Pass k → PassedTo (suc k)
            upto p m l q = which (dec_lt m k)
              where
                which : Dec (m < k) → Pass m
                which (yes r) = w.passed m r q
                which (no r) = let z : k ≡ m = omega arith in subst Pass z p

            at : (c : Chain) → chain_at limits part k ≡ c → ScanView
            at bad g = s_fault w (fault_of _ _ _ _ _ k g)
            at (good l) g = test (steps n l) refl (up_to_phase n (product n l) x) refl
              where
                way : WayOf k l
                way = gates_of _ _ _ _ _ k g

                test : (s : Steps) → steps n l ≡ s → (b : Bool) → up_to_phase n (product n l) x ≡ b → ScanView
                test (unfit_at i') p b q = on k i.not_before i.below (upto (does_not_fit_lem i' l way p))
                test all_fit p false q = on k i.not_before i.below (upto (not_equal l way q))
                test all_fit p true q = s_node w way p q

    scan_on : (m from : ℕ) → count ≤ m + from → PassedTo from → ScanView
    scan_on zero from h s = scan_turn from s (λ k b l t. absurd (omega arith))
    scan_on (suc m) from h s = scan_turn from s (λ k b l t. scan_on m (suc k) (omega arith) t)

    scan_view : ScanView
    scan_view = scan_on count 0 (omega arith) (λ m l. absurd (omega arith))

    s_found : {k : ℕ} {l : List ℕ} → Low k → WayOf k l → steps n l ≡ all_fit → up_to_phase n (product n l) x ≡ true → finding ≡ f.node k (length l)
    s_found w g s t = node_found (record { leads = low_at w; gates = g; fits = s; equal = t })

    s_bad : {k : ℕ} → Low k → FaultAt k → finding ≡ f.refused 13 0
    s_bad {k} w g = bad_found (record { node = k; leads = low_at w; fault = g })

    s_nothing : ((m : ℕ) → Print m → Pass m) → finding ≡ f.none
    s_nothing all = by view
      where
        by : View → finding ≡ f.none
        by (no_node w) = none_found w
        by (a_node {k} {l} w) = absurd (not_passed_found (all k (at_print w.leads)) w.gates w.fits w.equal)
        by (a_fault w) = absurd (not_passed_bad (all w.node (at_print w.leads)) w.fault)

    pub scan_means : ScanMeans limits part x
    scan_means = record {
      is_node_lem = λ k m. (to_node' scan_view, from_node);
      is_none = (to_none scan_view, s_nothing);
      is_refused = λ a i. (to_bad scan_view, from_bad);
    }
      where
        to_node' : {j m : ℕ} → ScanView → finding ≡ f.node j m
            → (l : List ℕ) × Low j × WayOf j l × (steps n l ≡ all_fit) × (up_to_phase n (product n l) x ≡ true) × (m ≡ length l)
        to_node' (s_node {k} {l} w g s t) e =
            let h = sym (s_found w g s t) ∙ e in
            (l, subst Low (ap found_first h) w, subst (λ (i : ℕ). WayOf i l) (ap found_first h) g, s, t, sym (ap found_second h))
        to_node' (s_none w) e = absurd (omega (arith, kinds (sym (s_nothing w) ∙ e)))
        to_node' (s_fault w g) e = absurd (omega (arith, kinds (sym (s_bad w g) ∙ e)))

        from_node : {k m : ℕ} → (l : List ℕ) × Low k × WayOf k l × (steps n l ≡ all_fit) × (up_to_phase n (product n l) x ≡ true) × (m ≡ length l) → finding ≡ f.node k m
        from_node {k} (l, w, g, s, t, z) = s_found w g s t ∙ ap (λ (j : ℕ). f.node k j) (sym z)

        to_none : ScanView → finding ≡ f.none → (m : ℕ) → Print m → Pass m
        to_none (s_none w) e = w
        to_none (s_node w g s t) e = absurd (omega (arith, kinds (sym (s_found w g s t) ∙ e)))
        to_none (s_fault w g) e = absurd (omega (arith, kinds (sym (s_bad w g) ∙ e)))

        to_bad : {a i : ℕ} → ScanView → finding ≡ f.refused a i → ((k : ℕ) × Low k × FaultAt k) × (a ≡ 13) × (i ≡ 0)
        to_bad (s_fault {k} w g) e = let h = sym e ∙ s_bad w g in ((k, w, g), ap found_first h, ap found_second h)
        to_bad (s_node w g s t) e = absurd (omega (arith, kinds (sym (s_found w g s t) ∙ e)))
        to_bad (s_none w) e = absurd (omega (arith, kinds (sym (s_nothing w) ∙ e)))

        from_bad : {a i : ℕ} → ((k : ℕ) × Low k × FaultAt k) × (a ≡ 13) × (i ≡ 0) → finding ≡ f.refused a i
        from_bad ((k, w, g), p, q) = s_bad w g ∙ (λ j. f.refused (sym p j) (sym q j))

  -- ---- where no two nodes have one fingerprint

  pub distinct_first : Distinct limits part x → finding ≡ find_first limits part x
  distinct_first d = by (looked_in part 0 y) refl
    where
      by : (g : Lookup) → looked_in part 0 y ≡ g → finding ≡ find_first limits part x
      by lookup.none e = none_found (not_found ((looks 0).is_none.0 e)) ∙ ap (by_lookup limits part x (λ next. f.none)) (sym e)
      by (found k) e = first_turn ∙ ap (λ (z : Finding). by_chain n x k z (chain_at limits part k)) (no_turn first.left (suc k) nothing)
          ∙ ap (by_lookup limits part x (λ next. f.none)) (sym e)
        where
          w : To 0 k
          w = ((looks 0).is_found k).0 e

          first : Comes k
          first = comes (at_first k w)

          first_turn : finding ≡ by_chain n x k (find_from limits part y x first.left (suc k)) (chain_at limits part k)
          first_turn = first.is

          nothing : LeadsNowhere part.by part.index part.fingerprints count (suc k) y
          nothing = past_it (looked_in part (suc k) y) refl
            where
              past_it : (g : Lookup) → looked_in part (suc k) y ≡ g → LeadsNowhere part.by part.index part.fingerprints count (suc k) y
              past_it lookup.none h = (looks (suc k)).is_none.0 h
              past_it (found j) h =
                  let c = looked_node part.by part.index part.fingerprints count (suc k) y j h in
                  let a = to_node 0 k w in
                  absurd (d k j c.not_before c.below (a.has ∙ sym c.has))

  module _ (out : List ℕ) where
    abbrev answer : Outcome
    answer = answer_of limits part x out

    by_find : {g : Finding} → finding ≡ g → answer ≡ then_write (λ k. write_of limits part k out) out g
    unfolding answer_of
    by_find e = ap (then_write (λ k. write_of limits part k out) out) e

    list_answer_lem : {k : ℕ} {l : List ℕ} → By k l → answer ≡ outcome (given (length l)) (l ++ drop (length l) out)
    list_answer_lem {k} w = by_find (node_found w) ∙ written_good limits part k out (good_by _ _ _ _ _ k w.gates)

    bad_answer : Bad → answer ≡ outcome (refused 13 0) out
    bad_answer w = by_find (bad_found w)

    none_answer : No → answer ≡ outcome none out
    none_answer w = by_find (none_found w)

    pub means : Means limits part x out
    means = record {
      is_list = λ m after. (to_list view, from_list);
      is_none = λ after. (to_none view, λ p. none_answer p.0 ∙ ap (outcome none) (sym p.1));
      is_refused = λ a i after. (to_bad view, from_bad);
    }
      where
        to_list : {m : ℕ} {after : List ℕ} → View → answer ≡ outcome (given m) after
            → (l : List ℕ) × AnsweredBy limits part x l × (m ≡ length l) × (after ≡ l ++ drop m out)
        to_list (a_node {k} {l} w) e =
            let h = sym (list_answer_lem w) ∙ e in
            let z = ap (λ (o : Outcome). size o.reply) h in
            (l, record { node = k; found = w }, sym z, sym (ap (λ (o : Outcome). o.list) h) ∙ ap (λ (j : ℕ). l ++ drop j out) z)
        to_list (no_node w) e = absurd (omega (arith, kind_of_lem (sym (none_answer w) ∙ e)))
        to_list (a_fault w) e = absurd (omega (arith, kind_of_lem (sym (bad_answer w) ∙ e)))

        from_list : {m : ℕ} {after : List ℕ} → (l : List ℕ) × AnsweredBy limits part x l × (m ≡ length l) × (after ≡ l ++ drop m out) → answer ≡ outcome (given m) after
        from_list (l, w, z, h) = list_answer_lem w.found ∙ ap (λ (j : ℕ). outcome (given j) (l ++ drop j out)) (sym z) ∙ ap (outcome (given _)) (sym h)

        to_none : {after : List ℕ} → View → answer ≡ outcome none after → No × (after ≡ out)
        to_none (a_node w) e = absurd (omega (arith, kind_of_lem (sym (list_answer_lem w) ∙ e)))
        to_none (no_node w) e = (w, ap (λ (o : Outcome). o.list) (sym e ∙ none_answer w))
        to_none (a_fault w) e = absurd (omega (arith, kind_of_lem (sym (bad_answer w) ∙ e)))

        to_bad : {a i : ℕ} {after : List ℕ} → View → answer ≡ outcome (refused a i) after → Bad × (a ≡ 13) × (i ≡ 0) × (after ≡ out)
        to_bad (a_node w) e = absurd (omega (arith, kind_of_lem (sym (list_answer_lem w) ∙ e)))
        to_bad (no_node w) e = absurd (omega (arith, kind_of_lem (sym (none_answer w) ∙ e)))
        to_bad (a_fault w) e =
            let h = sym e ∙ bad_answer w in
            (w, ap (λ (o : Outcome). first o.reply) h, ap (λ (o : Outcome). second o.reply) h, ap (λ (o : Outcome). o.list) h)

        from_bad : {a i : ℕ} {after : List ℕ} → Bad × (a ≡ 13) × (i ≡ 0) × (after ≡ out) → answer ≡ outcome (refused a i) after
        from_bad (w, p, q, h) = bad_answer w ∙ (λ k. outcome (refused (sym p k) (sym q k)) (sym h k))

  -- ---- what then holds, whatever the arrays hold

  pub answers_right : {l : List ℕ} → AnsweredBy limits part x l → Right limits.width limits.basis limits.gates x l
  answers_right {l} w =
      let g = w.found in
      let p = power_of_test n x (product n l) (up_sym n (product n l) x g.equal) in
      record { power = p; valid = g.gates.valid; short = g.gates.short; unitary = unitary_asked n l p }

pub find_rule : FindRule
find_rule = record { means = find_means; lowest = scan_means; distinct = distinct_first }
