-- `pivot` meets its contract: the entry that `first_nonzero` finds is the pivot, and where it finds none the pivot is
-- zero.
use mathlib.Core.Path.{sym, ◌∙◌}
use Prim.Native.Nat.{◌*◌, ◌^◌, ◌<◌}
use native.Mathlib.Omega.{arith}
use Rattle.cyclotomic.proofs.Squares.{small_zero}
use Rattle.places.proofs.Placed.{small_at}
use Rattle.phases.specs.First.{FirstNonzero}
use Rattle.phases.proofs.Pivots.{pivot_at, pivot_none}
use Rattle.phases.proofs.pivot.Goals as goal

-- nothing was found among all the matrix's entries
pub returns-in-None-clause-entry : goal.returns-in-None-clause-entry
returns-in-None-clause-entry c =
    let found : FirstNonzero c.args.m.now (2 ^ c.args.n * 2 ^ c.args.n) (2 ^ c.args.n * 2 ^ c.args.n) =
    rw c.area-size.ensures at c.in-None.ensures in
    c.zero.ensures ∙ sym (pivot_none _ 0 _ _ found (omega arith))

pub returns-in-None-clause-small : goal.returns-in-None-clause-small
returns-in-None-clause-small c = rw c.zero.ensures small_zero

-- the place found, of all the matrix's entries
pub returns-in-Some-clause-entry : goal.returns-in-Some-clause-entry
returns-in-Some-clause-entry c =
    let found : FirstNonzero c.args.m.now (2 ^ c.args.n * 2 ^ c.args.n) c.in-Some.e =
    rw c.area-size.ensures at c.in-Some.ensures.1 in
    c.get.ensures ∙ sym (pivot_at _ 0 _ _ found (omega (arith, c.in-Some.ensures.0, c.area-size.ensures)))

pub returns-in-Some-clause-small : goal.returns-in-Some-clause-small
returns-in-Some-clause-small c =
    let inside : c.in-Some.e < 2 ^ c.args.n * 2 ^ c.args.n = omega (arith, c.in-Some.ensures.0, c.area-size.ensures) in
    rw c.get.ensures (small_at _ _ _ c.requires.all_small inside)
