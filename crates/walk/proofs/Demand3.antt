-- Demand 3 at one width: the statements of WidthDemand, from the walk's theorems. The conditions, up to 29 gates and no
-- shared fingerprint, are used only through hypothesis K: what the walk skipped as known was skipped rightly. Where
-- clashing nodes are kept K holds. Assumes nothing.
use mathlib.Core.Path.{◌≡◌, refl, sym, ap, ◌∙◌, subst}
use mathlib.Core.Bool.{Bool, false}
use mathlib.Core.List.{List, reverse, reverse-reverse}
use mathlib.Core.Option.{Option, none, some}
use Prim.Native.Nat.{ℕ, ◌≤◌}
use native.Mathlib.Omega.{arith}
use lib.ListN.{length, length-reverse}
use Rattle.exact.specs.Matrix.{Exact, Lowest, PowerOf}
use Rattle.exact.specs.Lists.{product}
use Rattle.exact.specs.Fits.{fitting_gates}
use Rattle.exact.proofs.Acts.{power_sym}
use Rattle.walk.specs.Walk.{Rules, Node, prod}
use Rattle.walk.proofs.Laws.{Laws, Over}
use Rattle.walk.proofs.Nodewise.{answer_by, answers_to, answer, oldest_first, answered_by, answered}
use Rattle.walk.proofs.Grown.{Shape}
use Rattle.walk.specs.Modes.{Mode, keeping}
use Rattle.walk.specs.AtWidth.{plain_at, at_width, built, ListOf, NoSharedPrint}
use Rattle.walk.specs.Known.{SkippedRightly}
use Rattle.walk.proofs.WidthDemand.{Shortest, NoneExactly, WidthComplete, WidthDemand3}
use Rattle.walk.proofs.Nodes.{over}
use Rattle.walk.proofs.Layers.{walk_shape}
use Rattle.walk.proofs.Prefixes.{walk_prefix}
use Rattle.walk.proofs.Known.{present_no_clash, present_keeping}
use Rattle.walk.proofs.Completeness.{complete, complete_unsaturated}
use Rattle.walk.proofs.Answers.{answer_hit, answer_prefix, answer_product, shortest, none_exactly}
use Rattle.walk.proofs.Exactly.{plain_laws, laws, query_lowest, product_of, product_is, over_reverse, list_over, over_list, all_fit_lem, no_clash}

-- ---- an answer, oldest gate first

newest_first : (o : Option (List ℕ)) (l : List ℕ) → oldest_first o ≡ some l → o ≡ some (reverse l)
newest_first none l e = let z : ◌≡◌ {A = ℕ} 0 1 = cc in absurd (omega arith)
newest_first (some m) l e = let q : reverse m ≡ l = cc in ap some (sym (reverse-reverse m) ∙ ap reverse q)

oldest_first_lem : (o : Option (List ℕ)) (l : List ℕ) → o ≡ some (reverse l) → oldest_first o ≡ some l
oldest_first_lem o l e = ap oldest_first e ∙ ap some (reverse-reverse l)

none_newest : (o : Option (List ℕ)) → oldest_first o ≡ none → o ≡ none
none_newest none e = refl
none_newest (some m) e = let z : ◌≡◌ {A = ℕ} 0 1 = cc in absurd (omega arith)

module _ (mode : Mode) (n basis : ℕ) (small : n ≤ 5) where
  abbrev R : Rules
  R = at_width mode n basis

  abbrev W : Laws R (PowerOf n)
  W = laws mode n basis small

  -- a list of the basis, newest gate first
  over_newest : (m : List ℕ) → ListOf n basis m → Over R (reverse m)
  over_newest m o = over_reverse mode n basis small m (list_over mode n basis small m o)

  over_oldest : (m : List ℕ) → Over R m → ListOf n basis (reverse m)
  over_oldest m o = over_list mode n basis small (reverse m) (over_reverse mode n basis small m o)

  -- ---- with no condition

  right : (test : Node → Bool) (ns : List Node) (x : Exact) (l : List ℕ) → answered_by mode n basis test ns x ≡ some l → PowerOf n x (product n l)
  right test ns x l e =
      power_sym n (subst (λ (y : Exact). PowerOf n y x) (sym (product_of mode n basis small l))
      (answer_product R (PowerOf n) W test ns x (reverse l) (newest_first (answer_by R test ns x) l e)))

  within : (G E : ℕ) (x : Exact) (l : List ℕ) → answered mode n basis G E x ≡ some l → ListOf n basis l × (length l ≤ G)
  within G E x l e =
      let ns : List Node = (built mode n basis G E).nodes in
      let w = walk_shape R G E in
      let h = answer_hit R (answers_to R x) ns x (reverse l) (newest_first (answer R ns x) l e) in
      let o : Over R (reverse l) = subst (Over R) (sym h.list) (over R w.layered.grown h.at h.there) in (
        subst (ListOf n basis) (reverse-reverse l) (over_oldest (reverse l) o),
        omega (arith, length-reverse l, ap length h.list, w.limit h.at h.there),
      )

  larger : (G G' E E' : ℕ) → G ≤ G' → E ≤ E' → (x : Exact) (l : List ℕ) → answered mode n basis G E x ≡ some l → answered mode n basis G' E' x ≡ some l
  larger G G' E E' g e x l a =
      oldest_first_lem (answer R (built mode n basis G' E').nodes x) l
      (answer_prefix R (answers_to R x) (walk_prefix R G G' E E' g e) x (reverse l)
      (newest_first (answer R (built mode n basis G E).nodes x) l a))

  -- ---- up to 29 gates

  module _ (G E : ℕ) (le : G ≤ fitting_gates) where
    -- where what was skipped as known was skipped rightly
    rightly : SkippedRightly mode n basis G E → WidthComplete mode n basis G E
    rightly K = record { shortest = short; none_exactly = empty }
      where
        w : Shape R G E (built mode n basis G E)
        w = walk_shape R G E

        -- a list of the basis with such a product, newest gate first
        turned : (x : Exact) (m : List ℕ) → PowerOf n x (product n m) → PowerOf n (prod R (reverse m)) x
        turned x m s = power_sym n (subst (PowerOf n x) (product_of mode n basis small m) s)

        short : (x : Exact) → Lowest n x → Shortest mode n basis G E x
        short x low l e m o s =
            omega (
              arith,
              length-reverse l,
              length-reverse m,
              shortest R (PowerOf n) W x (query_lowest mode n basis small low) (built mode n basis G E) w.layered
                  (complete R (PowerOf n) W G E (all_fit_lem mode n basis small G le) K) (reverse l)
                  (newest_first (answer R (built mode n basis G E).nodes x) l e) (reverse m)
                  (over_newest m o) (turned x m s),
            )

        empty : (built mode n basis G E).saturated ≡ false → (x : Exact) → Lowest n x → NoneExactly mode n basis G E x
        empty f x low =
            let r = none_exactly R (PowerOf n) W x (query_lowest mode n basis small low) G (built mode n basis G E).nodes w.layered.grown w.limit
            (complete_unsaturated R (PowerOf n) W G E (all_fit_lem mode n basis small G le) K f) in (
              (λ e m o h s. r.0 (none_newest (answer R (built mode n basis G E).nodes x) e) (reverse m) (over_newest m o)
                  (omega (arith, length-reverse m)) (turned x m s)),
              (λ h. ap oldest_first (r.1 (λ m o q s. h (reverse m) (over_oldest m o) (omega (arith, length-reverse m))
                  (subst (PowerOf n x) (sym (product_is mode n basis small m)) (power_sym n s))))),
            )

    -- and so under the demand's condition
    unclashed : NoSharedPrint n basis G → WidthComplete mode n basis G E
    unclashed nc =
        let w = walk_shape R G E in
        rightly (present_no_clash R (PowerOf n) G (no_clash mode n basis small G nc) (built mode n basis G E).nodes w.layered.grown w.limit
        (built mode n basis G E).depth w.depth)

  -- where clashing nodes are kept, with no condition on fingerprints
  kept : mode ≡ keeping → (G E : ℕ) → SkippedRightly mode n basis G E
  kept e G E =
      subst (λ (m : Mode). SkippedRightly m n basis G E) (sym e)
      (present_keeping (plain_at n basis) (PowerOf n) (plain_laws n basis small) (built keeping n basis G E).nodes (built keeping n basis G E).depth)

  pub demand : WidthDemand3 mode n basis
  demand = record {
    right = right;
    larger = larger;
    complete = λ G E le nc. unclashed G E le nc;
    complete_keeping = λ e G E le. rightly G E le (kept e G E);
    complete_rightly = λ G E le K. rightly G E le K;
    within = within;
  }
