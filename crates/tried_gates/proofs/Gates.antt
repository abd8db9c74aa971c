-- The loop over the gates that are left after a node. What a candidate comes to before any look-up depends on its
-- node's list alone, which stays while candidates are appended. Assumes nothing.
use mathlib.Core.Path.{◌≡◌, refl, sym, ap, ◌∙◌, subst}
use mathlib.Core.Bool.{Bool, true, false, not}
use mathlib.Core.List.{List, map, Memᴰ}
use Prim.Native.Nat.{ℕ, ◌+◌, ◌≤◌, ◌<◌}
use native.Mathlib.Omega.{arith}
use lib.IntN.{ℤ}
use lib.ListN.{length, get_or}
use borrow.Author.Tests.{not-false}
use Rattle.ints.proofs.Bools.{clash}
use Rattle.circuit.specs.Codes.{valid}
use Rattle.generators.specs.Generators.{generators}
use Rattle.exact.specs.Matrix.{Exact}
use Rattle.exact.specs.Rows.{act, gate_of}
use Rattle.exact.specs.Fits.{step_fits}
use Rattle.exact.specs.Fingerprint.{fingerprint}
use Rattle.exact.specs.Places.{held}
use Rattle.exact.proofs.Words.{Equal}
use Rattle.exact.proofs.Coded.{proper}
use Rattle.exact.proofs.Keeps.{act_equal'}
use Rattle.walk.specs.Lookup.{found}
use Rattle.walk.specs.Modes.{Mode}
use Rattle.walk.specs.Index.{By, looked_up}
use Rattle.walk.specs.AtWidth.{print_of}
use Rattle.walk.specs.Walk.{Rules, State, root, list_at, prod, pruned, skipped, try, try_all}
use Rattle.walk.proofs.Laws.{fits_by}
use Rattle.walk.proofs.Grown.{Prefix}
use Rattle.walk.proofs.Lookups.{looks_up}
use Rattle.walk.proofs.Sequences.{or-false, map_at, prefix_at, prefix_length}
use Rattle.synthesis_arena.specs.declared.WidthLimits.{WidthLimits}
use Rattle.node_matrix.proofs.Prints.{fits_alike, prints_alike}
use Rattle.looked_ahead.specs.Ahead.{Hint}
use Rattle.looked_ahead.proofs.Ahead.{ahead_leads, hint_stays}
use Rattle.width_arrays.specs.Arrays.{rules, unsaturated, Live, After}
use Rattle.skip_rules.specs.Skips.{pruned_at}
use Rattle.next_node.proofs.Tries.{pruned_is, skip_pruned, skip_unfit}
use Rattle.width_arrays.proofs.Live.{live_looks, live_holds}
use Rattle.skip_rules.specs.Skips.{unskipped}
use Rattle.fitting_gates.specs.Fitting.{unfit, candidate_print}
use Rattle.tried_gates.specs.Tries.{left_out, NodeFormed}
use Rattle.looked_ahead.specs.Ahead.{ahead_of}
use Rattle.tried_gates.proofs.Keeping.{mem_at, generator_valid}
use Rattle.skip_rules.proofs.Sifting.{unskipped_mem}
use Rattle.tried_gates.proofs.Skipped.{try_all_without}
use Rattle.tried_gates.proofs.NodeLoop.{NodeRun, node_run_live, node_run_own, node_run_start, node_run_next, node_run_full}

-- a node that is found stays the one that the look-up gives, whatever nodes are added: it is the lowest with the
-- fingerprint
pub found_stays : {mode : Mode} {by : By} {lim : WidthLimits} {f u c i f' u' c' i' : List ℕ} {count count' k k' top top' : ℕ} (h : Live mode by lim f u c i count k top)
    (h' : Live mode by lim f' u' c' i' count' k' top') → lim.entries ≤ 1000000 → Prefix h.ns h'.ns → (y a : ℕ)
    → looked_up by i f count 0 y ≡ found a → looked_up by i' f' count' 0 y ≡ found a
found_stays {mode} {by} {lim} {f} {f' = f'} {count = count} {count'} h h' few p y a e =
    let w = ((looks_up f count 0 y).is_found a).0 (sym (live_looks h few 0 y) ∙ e) in
    let same : (m : ℕ) → m < count → get_or f' m 0 ≡ get_or f m 0 = λ m l.
    let t : m < length h.ns = omega (arith, h.columns.count_is) in
    (live_holds h').prints m (omega (arith, prefix_length p)) ∙ ap (print_of lim.width) (prefix_at p m root t) ∙ sym ((live_holds h).prints m t) in
    live_looks h' few 0 y
    ∙ ((looks_up f' count' 0 y).is_found a).1
    (record {
      has = same a w.below ∙ w.has;
      below = omega (arith, w.below, h.columns.count_is, h'.columns.count_is, prefix_length p);
      not_before = w.not_before;
      none_before = λ m l r q. w.none_before m l r (sym (same m (omega (arith, w.below))) ∙ q);
    })

-- what the gate g after a node with the list own comes to: it is neither pruned nor unfit, has the fingerprint y and
-- the matrix x
pub record Ahead (mode : Mode) (lim : WidthLimits) (own : List ℕ) (g : ℕ) (x : Exact) (y : ℕ) : Type 0 where
  pub unpruned : pruned (rules mode lim) g own ≡ false
  pub fits : fits_by lim.width g (prod (rules mode lim) own) ≡ true
  pub print : y ≡ fingerprint lim.width ((rules mode lim).act g (prod (rules mode lim) own))
  pub equal : Equal lim.width x ((rules mode lim).act g (prod (rules mode lim) own))

module _ {mode : Mode} {by : By} {lim : WidthLimits} {count node k : ℕ} {f u c i : List ℕ} {m : List ℤ} (w : NodeFormed mode by lim count node k f u c i m) (lt : node < count) where
  abbrev R : Rules
  R = rules mode lim

  abbrev n : ℕ
  n = lim.width

  abbrev x : Exact
  x = held n k m

  abbrev own : List ℕ
  own = list_at w.live.ns node

  abbrev left_out_here : ℕ → Bool
  left_out_here = left_out lim node c x

  formed : (g : ℕ) → Equal n (act n (gate_of n g) x) (R.act g (prod R own))
  formed g = act_equal' n (gate_of n g) w.equal (proper n g)

  -- what is left out the walk skips
  rightly : (g : ℕ) → left_out_here g ≡ true → skipped R w.live.ns node g ≡ true
  rightly g e = cases (pruned R g own) refl (fits_by n g (prod R own)) refl
    where
      cases : (a : Bool) → pruned R g own ≡ a → (b : Bool) → fits_by n g (prod R own) ≡ b → skipped R w.live.ns node g ≡ true
      cases true p b q = skip_pruned w.live g p
      cases false p false q = skip_unfit w.live g p q
      cases false p true q = clash e (rw (pruned_is w.live g node lt, p, fits_alike n g w.equal) (ap not q))

  module _ {gs : List ℕ} (same : gs ≡ unskipped left_out_here (generators n lim.basis)) where
    -- each gate that is left is a generator, and is not left out
    pub gate_in : (j : ℕ) → j < length gs → (Memᴰ (get_or gs j 0) (generators n lim.basis)) × (left_out_here (get_or gs j 0) ≡ false)
    gate_in j l = unskipped_mem left_out_here (generators n lim.basis) (get_or gs j 0) (subst (λ (z : List ℕ). Memᴰ (get_or gs j 0) z) same (mem_at gs j l))

    -- so it is neither pruned nor unfit
    gate_tests : (j : ℕ) → j < length gs → (pruned_at c node (get_or gs j 0) ≡ false) × (unfit n x (get_or gs j 0) ≡ false)
    gate_tests j l = or-false (pruned_at c node (get_or gs j 0)) (unfit n x (get_or gs j 0)) (gate_in j l).1

    pub gate_fits : n ≤ 5 → (j : ℕ) → j < length gs → (valid n (get_or gs j 0) ≡ true) × (step_fits n (gate_of n (get_or gs j 0)) x ≡ true)
    gate_fits small j l =
        (generator_valid n lim.basis (get_or gs j 0) small (gate_in j l).0, not-false (step_fits n (gate_of n (get_or gs j 0)) x) (gate_tests j l).1)

    pub gate_ahead : {ps : List ℕ} → ps ≡ map (candidate_print n x) gs → (j : ℕ) → j < length gs → Ahead mode lim own (get_or gs j 0) (act n (gate_of n (get_or gs j 0)) x) (get_or ps j 0)
    gate_ahead {ps} e j l =
        let a = gate_tests j l in record {
          unpruned = sym (pruned_is w.live (get_or gs j 0) node lt) ∙ a.0;
          fits = sym (fits_alike n (get_or gs j 0) w.equal) ∙ not-false (step_fits n (gate_of n (get_or gs j 0)) x) a.1;
          print = ap (λ (z : List ℕ). get_or z j 0) e ∙ map_at (candidate_print n x) 0 gs j l ∙ prints_alike n (get_or gs j 0) w.equal;
          equal = formed (get_or gs j 0);
        }

    abbrev goal : State
    goal = try_all R lim.entries (unsaturated w.live.ns) node (generators n lim.basis)

    -- the run after j of the gates
    abbrev pub GatesRun : ℕ → List ℕ → List ℕ → List ℕ → List ℕ → ℕ → Type 0
    GatesRun = NodeRun mode by lim node w.live.d w.live.f0 w.live.u0 w.live.c0 w.live.i0 w.live.ns goal gs

    pub gates_start : GatesRun 0 f u c i count
    gates_start =
        node_run_start w.live lt gs
        (ap (try_all R lim.entries (unsaturated w.live.ns) node) same
        ∙ try_all_without R lim.entries left_out_here (unsaturated w.live.ns) node (generators n lim.basis) (omega (arith, lt, w.live.columns.count_is)) rightly)

    module _ {j : ℕ} {f' u' c' i' : List ℕ} {count' : ℕ} (r : GatesRun j f' u' c' i' count') (l : j < length gs) where
      -- it holds at the node's list, whatever nodes were added
      pub ahead_now : {y : ℕ} {z : Exact} → Ahead mode lim own (get_or gs j 0) z y → Ahead mode lim (list_at r.ns node) (get_or gs j 0) z y
      ahead_now {y} {z} a =
          subst (λ (o : List ℕ). Ahead mode lim o (get_or gs j 0) z y) (sym (node_run_own _ _ _ _ _ _ _ _ _ _ _ _ r (omega (arith, lt, w.live.columns.count_is)))) a

      -- a node that was found ahead is still the one that the look-up gives
      pub hint_now : lim.entries ≤ 1000000 → (ps : List ℕ) {nodes : List ℕ} → length ps ≡ length gs → nodes ≡ ahead_of by i f count ps → Hint (looked_up by i' f' count' 0 (get_or ps j 0)) (get_or nodes j 0)
      hint_now few ps long e =
          let q = ap (λ (z : List ℕ). get_or z j 0) e ∙ map_at _ 0 ps j (omega (arith, l, long)) in
          hint_stays (found_stays w.live (node_run_live _ _ _ _ _ _ _ _ _ _ _ _ r w.live.deep w.live.long) few r.later (get_or ps j 0) _)
          (subst (λ (a : ℕ). Hint (looked_up by i f count 0 (get_or ps j 0)) a) (sym q) (ahead_leads by (looked_up by i f count 0 (get_or ps j 0))))

      module _ {f'' u'' c'' i'' : List ℕ} {count'' : ℕ} {b : Bool}
          (a : After by lim w.live.f0 w.live.u0 w.live.c0 w.live.i0 (try R lim.entries (unsaturated r.ns) node (get_or gs j 0)) f'' u'' c'' i'' count'' b) where
        pub gates_full : b ≡ true → After by lim w.live.f0 w.live.u0 w.live.c0 w.live.i0 goal f'' u'' c'' i'' count'' b
        gates_full q = node_run_full _ _ _ _ _ _ _ _ _ _ _ _ r l a q

        pub gates_next : b ≡ false → GatesRun (j + 1) f'' u'' c'' i'' count''
        gates_next q = node_run_next _ _ _ _ _ _ _ _ _ _ _ _ r l a (gate_in j l).0 q
