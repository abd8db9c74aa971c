-- `generators::library_gates` meets its contract: each loop's codes have room, since all have, what the loop within has
-- written is what the next kind or operand gives, and the generators are listed. Assumes nothing.
use mathlib.Core.Path.{◌≡◌}
use mathlib.Core.List.{List}
use Prim.Native.Nat.{ℕ, ◌+◌, ◌≤◌}
use native.Mathlib.Omega.{arith}
use lib.ListN.{length}
use lib.Seq.{sets}
use Rattle.ints.specs.Lists.{range, each}
use Rattle.generators.specs.Generators.{most, firsts, generators, Lists}
use Rattle.generators.proofs.Fills.{Filled, filled_none, filled_more, filled_room, filled_end}
use Rattle.generators.proofs.Generated.{lists}
use Rattle.generators.proofs.Most.{most_enough}
use Rattle.generators.proofs.library_gates.Goals as goal

room : (n basis : ℕ) → n ≤ 5 → 0 + length (each (range 0 12) (firsts n basis)) ≤ most
unfolding generators
room n basis h = omega (arith, most_enough n basis h)

pub loop-kind-init : goal.loop-kind-init
loop-kind-init c = filled_none _ _ _

pub loop-a-init : goal.loop-a-init
loop-a-init c = filled_none _ _ _

pub loop-b-init : goal.loop-b-init
loop-b-init c = filled_none _ _ _

pub loop-c-init : goal.loop-c-init
loop-c-init c = filled_none _ _ _

pub push_valid-at-requires : goal.push_valid-at-requires
push_valid-at-requires c =
    let n = c.args.width in
    let of_kind = filled_room 12 most c.loop-kind.invariant (omega arith) (room n c.args.basis.0 c.requires) in
    let of_first = filled_room n most c.loop-a.invariant c.loop-a-test.true of_kind in
    let of_second = filled_room n most c.loop-b.invariant c.loop-b-test.true of_first in
    rw c.code_of.ensures (filled_room n most c.loop-c.invariant c.loop-c-test.true of_second)

pub loop-c-preserved : goal.loop-c-preserved
loop-c-preserved c =
    let e = c.code_of.ensures in
    filled_more c.loop-c.invariant (rw e at c.push_valid-at.ensures.next) (rw e at c.push_valid-at.ensures.written)

pub loop-b-preserved : goal.loop-b-preserved
loop-b-preserved c =
    let f = filled_end c.args.width c.loop-c.invariant (omega arith) in
    filled_more c.loop-b.invariant f.next f.written

pub loop-a-preserved : goal.loop-a-preserved
loop-a-preserved c =
    let f = filled_end c.args.width c.loop-b.invariant (omega arith) in
    filled_more c.loop-a.invariant f.next f.written

pub loop-kind-preserved : goal.loop-kind-preserved
loop-kind-preserved c =
    let f = filled_end c.args.width c.loop-a.invariant (omega arith) in
    filled_more c.loop-kind.invariant f.next f.written

all_filled : (n basis at : ℕ) (old new : List ℕ) → n ≤ 5 → Filled (firsts n basis) old 0 12 at new → (at ≡ length (generators n basis)) × ((new ≡ sets old 0 (generators n basis)) × (Lists n basis (generators n basis) × (at ≤ most)))
unfolding generators
all_filled n basis at old new h f =
    let count : at ≡ length (generators n basis) = omega (arith, f.next) in
    let most = most_enough n basis h in
    (count, (f.written, (lists n basis (omega arith), omega arith)))

pub returns : goal.returns
returns c =
    let t = all_filled c.args.width c.args.basis.0 _ _ _ c.requires (filled_end 12 c.loop-kind.invariant (omega arith)) in
    record { counted = t.0; written = t.1.0; listed = t.1.1.0; room = t.1.1.1 }
