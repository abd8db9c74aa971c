-- `pair_fingerprints` meets its contract: before each round the words of the entries passed are mixed into each
-- matrix's own streams. Assumes nothing.
use mathlib.Core.Path.{◌≡◌, ap, ◌∙◌}
use Prim.Native.Nat.{◌*◌, ◌^◌, ◌<◌}
use native.Mathlib.Nat.{lt_of_le_of_lt}
use native.Mathlib.Omega.{arith}
use lib.Dec.{lit<}
use Rattle.cyclotomic.specs.Zomega.{eight_of}
use Rattle.exact.specs.Fingerprint.{fold, fingerprint}
use Rattle.exact.specs.Places.{held}
use Rattle.places.proofs.Placed.{small_at}
use Rattle.prints.specs.Prints.{streams}
use Rattle.phases.proofs.Pivots.{phase_of_lem}
use Rattle.pair_prints.proofs.Eights.{eight_last}
use Rattle.prints.proofs.Mixing.{print_is}
use Rattle.pair_prints.proofs.pair_fingerprints.Goals as goal

-- the place is one of the matrix's
pub eight-x-requires : goal.eight-x-requires
eight-x-requires c =
    let inside : c.loop-e.e < 2 ^ c.args.n * 2 ^ c.args.n = rw c.area-size.ensures at c.loop-e-test.true in
    rw c.get.ensures (small_at _ _ _ c.requires.all_small.0 inside)

pub eight-y-requires : goal.eight-y-requires
eight-y-requires c =
    let inside : c.loop-e.e < 2 ^ c.args.n * 2 ^ c.args.n = rw c.area-size.ensures at c.loop-e-test.true in
    rw c.get-in-loop-e.ensures (small_at _ _ _ c.requires.all_small.1 inside)

pub loop-e-preserved : goal.loop-e-preserved
loop-e-preserved c =
    let l = c.loop-e in
    let m = c.mix_eights-both.ensures in (
      eight_last _ _ l.e c.turn_places-u.ensures (c.eight-x.ensures ∙ ap eight_of c.get.ensures) l.invariant.0 m.left,
      eight_last _ _ l.e c.turn_places-v.ensures (c.eight-y.ensures ∙ ap eight_of c.get-in-loop-e.ensures) l.invariant.1 m.right,
    )

-- once the loop has ended, all entries of each matrix are in its streams, turned by its own phase
pub returns-clause-left : goal.returns-clause-left
returns-clause-left c =
    let s = c.args in
    let ended : c.loop-e.e ≡ 2 ^ s.n * 2 ^ s.n = omega (arith, c.loop-e-test.false, c.area-size.ensures) in
    let own = phase_of_lem _ _ _ _ c.least_power-p.ensures c.pivot.ensures.entry in
    let all : fold (streams c.loop-e.s) ≡ fingerprint s.n (held s.n s.j s.left.now) =
    rw (c.loop-e.invariant.0, c.head-s.ensures, ended) (print_is s.n s.j _ _ (lt_of_le_of_lt c.requires.n_bound (lit< tt)) (omega arith) own) in
    c.fold.ensures ∙ all

pub returns-clause-right : goal.returns-clause-right
returns-clause-right c =
    let s = c.args in
    let ended : c.loop-e.e ≡ 2 ^ s.n * 2 ^ s.n = omega (arith, c.loop-e-test.false, c.area-size.ensures) in
    let own = phase_of_lem _ _ _ _ c.least_power-q.ensures c.pivot-2.ensures.entry in
    let all : fold (streams c.loop-e.t) ≡ fingerprint s.n (held s.n s.k s.right.now) =
    rw (c.loop-e.invariant.1, c.head-t.ensures, ended) (print_is s.n s.k _ _ (lt_of_le_of_lt c.requires.n_bound (lit< tt)) (omega arith) own) in
    c.fold-2.ensures ∙ all
