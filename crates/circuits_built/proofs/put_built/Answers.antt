-- `put_built` meets its contract: what the build answered decides the text. Assumes nothing.
use native.Mathlib.Omega.{arith}
use Rattle.tables.specs.Checks.{arrays}
use Rattle.murm_config.specs.Told.{told_murm}
use Rattle.circuits_text.proofs.Placing.{then_put}
use Rattle.circuits_built.proofs.Rooms.{some_room, table_room}
use Rattle.circuits_built.proofs.Cases.{ready_as, building_as}
use Rattle.circuits_built.proofs.put_built.Goals as goal

pub put_widths-next-requires-clause-max_entries_per_qubit_in_bounds :
    goal.put_widths-next-requires-clause-max_entries_per_qubit_in_bounds
put_widths-next-requires-clause-max_entries_per_qubit_in_bounds c =
    let r = ready_as c.in-Ok.is _ _ c.requires.printable in
    omega (arith, table_room (told_murm c.in-Ok.record) _ r.0 r.1, c.requires.later_len_bound.1)

pub put_queries-requires : goal.put_queries-requires
put_queries-requires c =
    let r = ready_as c.in-Ok.is _ _ c.requires.printable in
    let d = c.put_widths-next in
    omega (
      arith,
      table_room (told_murm c.in-Ok.record) _ r.0 r.1,
      c.requires.later_len_bound.0,
      c.requires.later_len_bound.1,
      d.ensures.most,
      d.auto.out,
    )

pub put_refused-requires : goal.put_refused-requires
put_refused-requires c = omega (arith, some_room _ _ c.requires.later_len_bound.1)

pub returns-in-Ok : goal.returns-in-Ok
returns-in-Ok c =
    let a = c.args in
    building_as c.in-Ok.is (arrays a.fingerprints.now a.parents.now a.codes.now) _ (then_put c.put_widths-next.ensures.text c.put_queries.ensures)
