-- `circuits` meets its contract: what the input asks decides. Assumes nothing.
use mathlib.Core.Path.{refl}
use native.Mathlib.Omega.{arith}
use Prim.Native.Nat.{◌≤◌}
use lib.ListN.{length}
use Rattle.tables.specs.Checks.{arrays}
use Rattle.murm_config.specs.Told.{told_config}
use Rattle.circuits_built.specs.Built.{room_for}
use Rattle.circuits_built.proofs.Rooms.{some_room}
use Rattle.circuits_output.proofs.Builds.{arrays_are, ready}
use Rattle.circuits_output.proofs.Runs.{built_put, program_short, program_came}
use Rattle.circuits_output.proofs.circuits.Goals as goal

pub returns-then-out-room : goal.returns-then-out-room
returns-then-out-room c =
    let a = c.args in
    program_short a.input.now (arrays a.fingerprints.now a.parents.now a.codes.now) a.out.now (omega (arith, c.if-out-room.true, c.room.ensures))

pub put_built-requires-clause-printable : goal.put_built-requires-clause-printable
put_built-requires-clause-printable c =
    let a = c.args in
    ready (told_config c.in-Ok.config) (arrays a.fingerprints.now a.parents.now a.codes.now) _ c.build-built.ensures

pub put_refused-requires : goal.put_refused-requires
put_refused-requires c =
    let a = c.args in
    let enough : room_for (length a.parents.now) ≤ length a.out.now = omega (arith, c.if-out-room.false, c.room.ensures) in
    omega (arith, some_room _ _ enough)

pub returns-in-Ok : goal.returns-in-Ok
returns-in-Ok c =
    let a = c.args in
    let lent = arrays a.fingerprints.now a.parents.now a.codes.now in
    let enough : room_for (length a.parents.now) ≤ length a.out.now = omega (arith, c.if-out-room.false, c.room.ensures) in
    program_came a.input.now lent a.out.now enough c.in-Ok.is c.read_input.ensures.is (
      built_put (told_config c.in-Ok.config) lent a.input.now c.in-Ok.from c.build-built.ensures c.put_built.ensures,
      arrays_are (told_config c.in-Ok.config) lent c.build-built.ensures,
    )

pub returns-in-Err : goal.returns-in-Err
returns-in-Err c =
    let a = c.args in
    let enough : room_for (length a.parents.now) ≤ length a.out.now = omega (arith, c.if-out-room.false, c.room.ensures) in
    program_came a.input.now (arrays a.fingerprints.now a.parents.now a.codes.now) a.out.now enough c.in-Err.is c.read_input.ensures.is
    (c.put_refused.ensures.text, refl)
