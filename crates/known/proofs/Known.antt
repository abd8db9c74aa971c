-- In arrays that hold the nodes of a walk a candidate is known exactly where the walk's rule says so. Assumes nothing.
use mathlib.Core.Path.{◌≡◌, refl, sym, ap, ◌∙◌}
use mathlib.Core.Bool.{Bool, true, false, ◌&&◌}
use mathlib.Core.List.{List}
use Prim.Native.Nat.{ℕ, zero, suc, ◌≤◌, ◌<◌}
use native.Mathlib.Omega.{arith}
use lib.ListN.{length, get_or}
use Rattle.ints.specs.Lists.{pick}
use Rattle.exact.specs.Matrix.{Exact}
use Rattle.exact.proofs.Words.{Equal}
use Rattle.exact.specs.Fits.{steps}
use Rattle.exact.specs.Lists.{product}
use Rattle.exact.specs.Fingerprint.{fingerprint}
use Rattle.exact.proofs.Phases.{up_equal}
use Rattle.walk.specs.Lookup.{Lookup, found}
use Rattle.walk.specs.Lookup as lookup
use Rattle.walk.specs.Walk.{Node, any, root, list_at, prod, knows}
use Rattle.walk.specs.Modes.{Mode, by_print, keeping}
use Rattle.walk.specs.AtWidth.{at_width}
use Rattle.walk.specs.Chains.{Chain, good, bad}
use Rattle.walk.specs.Finds.{WidthLimits, Part, Finding, fits_all, rechecked, chain_at, by_chain, by_lookup, looked_in, find_from, find_by, is_node}
use Rattle.walk.specs.Meaning.{AsScan}
use Rattle.walk.proofs.Grown.{Grown}
use Rattle.walk.proofs.Lookups.{looks_up}
use Rattle.walk.proofs.Sequences.{any_true, any_at}
use Rattle.walk.proofs.Exactly.{print_same, same_print_lem, print_is}
use Rattle.walk.proofs.Holding.{Holding, found_any}
use Rattle.known.specs.Known.{is_found, is_known}

-- ---- equal matrices are known alike

module _ (limits : WidthLimits) (part : Part) (y : ℕ) {x z : Exact} (e : Equal limits.width x z) where
  abbrev n : ℕ
  n = limits.width

  same_recheck : (l : List ℕ) → rechecked n l x ≡ rechecked n l z
  unfolding rechecked
  same_recheck l = ap (λ (t : Bool). fits_all (steps n l) && t) (up_equal n (product n l) e)

  same_chain : (k : ℕ) {r s : Finding} → r ≡ s → (c : Chain) → by_chain n x k r c ≡ by_chain n z k s c
  same_chain k q bad = refl
  same_chain k q (good l) = λ i. pick (same_recheck l i) (Finding.node k (length l)) (q i)

  same_lookup : {f g : ℕ → Finding} → ((k : ℕ) → f k ≡ g k) → (w : Lookup) → by_lookup limits part x f w ≡ by_lookup limits part z g w
  same_lookup q (found k) = same_chain k (q (suc k)) (chain_at limits part k)
  same_lookup q lookup.none = refl

  same_from : (m from : ℕ) → find_from limits part y x m from ≡ find_from limits part y z m from
  unfolding find_from
  same_from zero from = refl
  same_from (suc m) from = same_lookup (λ k. same_from m k) (looked_in part from y)

  pub known_alike : (mode : Mode) → is_known mode limits part y x ≡ is_known mode limits part y z
  unfolding find_by
  known_alike by_print = refl
  known_alike keeping = ap is_node (same_from part.count 0)

-- ---- by the look-up

module _ (limits : WidthLimits) (part : Part) (y : ℕ) (x : Exact) where
  find_none : looked_in part 0 y ≡ lookup.none → (m : ℕ) → find_from limits part y x m 0 ≡ Finding.none
  unfolding find_from
  find_none e zero = refl
  find_none e (suc m) = ap (by_lookup limits part x (λ next. find_from limits part y x m next)) e

  -- where no node has the fingerprint, the candidate is not known
  pub known_none : (mode : Mode) → looked_in part 0 y ≡ lookup.none → is_known mode limits part y x ≡ false
  unfolding find_by
  known_none by_print e = ap is_found e
  known_none keeping e = ap is_node (find_none e part.count)

  pub known_print : {k : ℕ} → looked_in part 0 y ≡ found k → is_known by_print limits part y x ≡ true
  known_print e = ap is_found e

-- ---- in arrays that hold the nodes of a walk

module _ (limits : WidthLimits) (small : limits.width ≤ 5) (part : Part) (x : Exact) (same : AsScan limits part x) where
  abbrev w : ℕ
  w = limits.width

  -- by the fingerprint alone
  print_any : {ns : List Node} → part.count ≡ length ns → Holding w ns part.fingerprints part.parents part.codes
      → is_found (looked_in part 0 (fingerprint w x)) ≡ any (knows (at_width by_print w limits.basis) x) ns
  print_any {ns} all h = by (looked_in part 0 (fingerprint w x)) refl
    where
      test : Node → Bool
      test = knows (at_width by_print w limits.basis) x

      print_at_lem : (j : ℕ) → j < length ns → get_or part.fingerprints j 0 ≡ fingerprint w (prod (at_width by_print w limits.basis) (list_at ns j))
      print_at_lem j l = h.prints j l ∙ print_is by_print w limits.basis (get_or ns j root)

      by : (g : Lookup) → looked_in part 0 (fingerprint w x) ≡ g → is_found (looked_in part 0 (fingerprint w x)) ≡ any test ns
      by (found k) e =
          let i = ((looks_up part.fingerprints part.count 0 (fingerprint w x)).is_found k).0 (sym (same 0 (fingerprint w x)) ∙ e) in
          let l : k < length ns = omega (arith, i.below, all) in
          ap is_found e ∙ sym (any_at test root ns k l (same_print_lem w _ x (sym (print_at_lem k l) ∙ i.has)))
      by lookup.none e = ap is_found e ∙ sym (none_of (any test ns) refl)
        where
          none_of : (t : Bool) → any test ns ≡ t → any test ns ≡ false
          none_of false q = q
          none_of true q =
              let r = any_true test root ns q in
              let i = (looks_up part.fingerprints part.count 0 (fingerprint w x)).is_none.0 (sym (same 0 (fingerprint w x)) ∙ e) in
              absurd (i.none_has r.0 (omega arith) (omega (arith, r.1, all)) (print_at_lem r.0 r.1 ∙ print_same w _ x r.2))

  pub known_any : (mode : Mode) {ns : List Node} → Grown (at_width mode w limits.basis) ns → ((j : ℕ) → j < length ns → length (list_at ns j) ≤ limits.gates)
      → part.count ≡ length ns → Holding w ns part.fingerprints part.parents part.codes
      → is_known mode limits part (fingerprint w x) x ≡ any (knows (at_width mode w limits.basis) x) ns
  known_any by_print grown short all h = print_any all h
  known_any keeping grown short all h = found_any keeping limits small grown short part all h x same
