-- `write_part` meets its contract: the part's bounds hold, and its chain is told on. Assumes nothing.
use mathlib.Core.Path.{refl}
use native.Mathlib.Omega.{arith}
use Prim.Native.Nat.{ℕ, ◌-◌, ◌*◌}
use Rattle.tables.specs.Tables.{Table, count_at}
use Rattle.murm_config.specs.Told.{told_murm}
use Rattle.murm.specs.Work.{Writable}
use Rattle.murm_part.proofs.Parts.{PartBounds, counted_part, record_counted, room}
use Rattle.murm.proofs.write_part.Goals as goal

sound : (t : Table) {w node parents codes out : ℕ} → Writable t w node parents codes out → PartBounds t.limits w (count_at t w)
sound t {w} r = counted_part t.limits w (count_at t w) (record_counted t w r.good refl) (omega (arith, r.node))

pub slice_bounds-circuit-end : goal.slice_bounds-circuit-end
slice_bounds-circuit-end c = (sound (told_murm c.args.table) c.requires).inside _ c.requires.in_parents

pub slice_bounds-circuit-end-2 : goal.slice_bounds-circuit-end-2
slice_bounds-circuit-end-2 c = (sound (told_murm c.args.table) c.requires).inside _ c.requires.in_codes

pub circuit-requires : goal.circuit-requires
circuit-requires c =
    let a = c.args in
    let p = sound (told_murm a.table) c.requires in
    let E = a.table.config.max_entries_per_qubit in
    let at = (a.width - 1) * E in
    record {
      there = (
        omega (arith, room at E (told_murm a.table).limits.entries a.parents.now (p.inside _ c.requires.in_parents) (omega arith), p.few, c.requires.node),
        omega (arith, room at E (told_murm a.table).limits.entries a.codes.now (p.inside _ c.requires.in_codes) (omega arith), p.few, c.requires.node),
        c.requires.long,
      );
    }
