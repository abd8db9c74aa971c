-- Arrays that hold the nodes of a width, looked up as by the scan, answer as the width of the build does. Assumes
-- nothing.
use mathlib.Core.Path.{◌≡◌, refl, sym, ap, ◌∙◌}
use mathlib.Core.Bool.{Bool, true, false}
use mathlib.Core.List.{List, ◌++◌}
use mathlib.Core.Option.{Option, none, some}
use Prim.Native.Nat.{ℕ, ◌≤◌}
use borrow.Author.Tests.{ltb-true}
use lib.Dec.{ltb}
use lib.ListN.{length, drop}
use Rattle.ints.specs.Lists.{pick}
use Rattle.ints.proofs.Bools.{and_right, and_both}
use Rattle.exact.specs.Matrix.{Exact}
use Rattle.exact.specs.Phase.{up_to_phase}
use Rattle.walk.specs.Walk.{Rules, Node, root, list_at, prod}
use Rattle.walk.specs.Modes.{Mode}
use Rattle.walk.specs.AtWidth.{same_print, at_width, built}
use Rattle.walk.specs.Finds.{WidthLimits, Part, Finding, node}
use Rattle.walk.specs.Finds as finds
use Rattle.walk.specs.Answers.{given, Outcome, outcome, write_of, then_write, answer_of}
use Rattle.walk.specs.Answers as a
use Rattle.walk.specs.Meaning.{AsScan}
use Rattle.walk.proofs.Nodewise.{lowest, steps_fit, recheck, answer_by, answers_to, oldest_first, answered}
use Rattle.walk.proofs.Grown.{Shape}
use Rattle.walk.proofs.Nodes.{fit}
use Rattle.walk.proofs.Layers.{walk_shape}
use Rattle.walk.proofs.Answers.{lowest_passes}
use Rattle.walk.proofs.Meaning.{written_good}
use Rattle.walk.proofs.Holding.{Holding, held_chain, held_find}

-- what a width that a build left answers, as an outcome with the lent list
abbrev pub told_option : Option (List ℕ) → List ℕ → Outcome
told_option none out = outcome a.none out
told_option (some l) out = outcome (given (length l)) (l ++ drop (length l) out)

module _ (mode : Mode) (limits : WidthLimits) (small : limits.width ≤ 5) where
  abbrev R : Rules
  R = at_width mode limits.width limits.basis

  abbrev ns : List Node
  ns = (built mode limits.width limits.basis limits.gates limits.entries).nodes

  shape : Shape R limits.gates limits.entries (built mode limits.width limits.basis limits.gates limits.entries)
  shape = walk_shape R limits.gates limits.entries

  module _ (part : Part) (all : part.count ≡ length ns) (h : Holding limits.width ns part.fingerprints part.parents part.codes) (x : Exact)
      (same : AsScan limits part x) (out : List ℕ) where
    -- the node that answers, and its list told where its recheck passes
    abbrev k : ℕ
    k = lowest (answers_to R x) ns

    abbrev told : Bool → Outcome
    told t = told_option (oldest_first (pick t (some (list_at ns k)) none)) out

    -- a find, followed by the write of the node found
    abbrev after : Finding → Outcome
    after g = then_write (λ j. write_of limits part j out) out g

    -- whatever the other places hold, the arrays answer what the width of the build answers: its recheck passes, since
    -- a node that answers is equal
    pub joined : answer_of limits part x out ≡ told_option (answered mode limits.width limits.basis limits.gates limits.entries x) out
    unfolding answer_of answer_by recheck
    joined = ap after (held_find mode limits small shape.layered.grown shape.limit part all h x same) ∙ by (ltb k (length ns)) refl
      where
        passes : ltb k (length ns) ≡ true → recheck R (list_at ns k) x ≡ true
        passes e =
            let l = ltb-true k (length ns) e in
            and_both (steps_fit R (list_at ns k)) (up_to_phase limits.width (prod R (list_at ns k)) x) (fit R shape.layered.grown k l)
            (and_right (same_print limits.width (prod R (list_at ns k)) x) _ (lowest_passes (answers_to R x) root ns l))

        by : (t : Bool) → ltb k (length ns) ≡ t → after (pick t (node k (length (list_at ns k))) finds.none)
            ≡ told_option (oldest_first (pick t (pick (recheck R (list_at ns k) x) (some (list_at ns k)) none) none)) out
        by true e =
            written_good limits part k out (held_chain mode limits small shape.layered.grown shape.limit part all h k (ltb-true k (length ns) e))
            ∙ ap told (sym (passes e))
        by false e = refl
