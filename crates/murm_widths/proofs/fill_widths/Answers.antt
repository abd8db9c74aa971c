-- `fill_widths` meets its contract: the parts of widths 1 to v are filled, for v from 0 to Q. Assumes nothing.
use Prim.Native.Nat.{ℕ, ◌-◌, ◌+◌, ◌*◌}
use native.Mathlib.Omega.{arith}
use mathlib.Core.Path.{◌≡◌, sym, ap, ◌∙◌}
use lib.ListN.{take, drop}
use Rattle.walk.specs.Index.{indexed, kept}
use Rattle.tables.specs.Tables.{part_of, filled_index}
use Rattle.tables.proofs.Accepted.{record_limits}
use Rattle.tables.proofs.Counts.{record_count}
use Rattle.murm_config.specs.Told.{told_murm}
use Rattle.murm_widths.proofs.Widths.{done_none, done_more, done_all}
use Rattle.murm_widths.proofs.fill_widths.Invariants.{places}
use Rattle.murm_widths.proofs.fill_widths.Goals as goal

pub nonzero_div-size : goal.nonzero_div-size
nonzero_div-size c = (record_limits (told_murm c.args.table) c.requires.record).some_width

pub loop-v-init : goal.loop-v-init
loop-v-init c = done_none _ _ _

pub fill_part-requires-clause-bounds : goal.fill_part-requires-clause-bounds
fill_part-requires-clause-bounds c =
    let l = record_limits (told_murm c.args.table) c.requires.record in
    (omega (arith, c.loop-v-test.true, l.widths), l.entries, omega (arith, c.count_at-count.ensures, record_count (told_murm c.args.table) (c.loop-v.v + 1) c.requires.record))

pub loop-v-preserved : goal.loop-v-preserved
loop-v-preserved c =
    let s = c in
    let t = told_murm s.args.table in
    let u = c.loop-v in
    let p = c.fill_part in
    let before : u.v + 1 - 1 ≡ u.v = omega arith in
    done_more (places t s.args.fingerprints.now) _ u.v _ _ _
    (ap (λ (k : ℕ). kept indexed (take t.limits.entries (drop (k * t.limits.entries) s.args.fingerprints.now)) c.count_at-count.result) (sym before)
    ∙ ap (λ (k : ℕ). kept indexed (part_of (u.v + 1) t.limits.entries s.args.fingerprints.now) k) c.count_at-count.ensures)
    p.auto.index p.ensures.filled u.invariant

pub returns : goal.returns
unfolding filled_index
returns c =
    let u = c.loop-v in
    let f : u.v ≡ (told_murm c.args.table).limits.qubits = omega arith in
    record { index = done_all _ _ _ _ _ _ f u.invariant }
