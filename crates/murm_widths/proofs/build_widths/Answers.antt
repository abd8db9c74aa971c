-- `build_widths` meets its contract: widths 1 to v are built, for v from 0 to Q. Assumes nothing.
use Prim.Native.Nat.{ℕ, ◌<◌}
use native.Mathlib.Omega.{arith}
use mathlib.Core.Path.{◌≡◌, refl, ◌∙◌}
use lib.ListN.{length}
use Rattle.tables.proofs.Indexes.{part_fits, part_sizes, indexed_parts}
use Rattle.index.specs.Told.{told_by}
use Rattle.known.specs.Known.{told_mode}
use Rattle.murm_config.specs.Told.{told_config, told_width, told_murm}
use Rattle.murm_widths.proofs.Widths.{record_none, record_more, record_all, done_none, done_more}
use Rattle.murm_widths.proofs.build_widths.Invariants.{prints, parents, codes, places}
use Rattle.murm_widths.proofs.build_widths.Goals as goal

pub loop-v-init : goal.loop-v-init
loop-v-init c =
    (c.empty-table.ensures ∙ record_none (told_mode c.args.mode) (told_config c.args.config), done_none _ _ _, done_none _ _ _, done_none _ _ _, done_none _ _ _)

pub build_part-row-requires-clause-index : goal.build_part-row-requires-clause-index
build_part-row-requires-clause-index c =
    let l = told_config c.args.config in
    let n : ℕ = length c.args.index.now in (
      omega (arith, part_fits l n c.loop-v.v c.loop-v-test.true, c.loop-v.invariant.4.0),
      λ e. omega (arith, (part_sizes l n (indexed_parts l (told_by c.args.by) n e c.requires.index)).large),
    )

pub loop-v-preserved : goal.loop-v-preserved
loop-v-preserved c =
    let p = c.build_part-row in
    let b = p.ensures.built in
    let u = c.loop-v in
    let m = c.args.config in
    let mode = told_mode c.args.mode in
    let l = told_config m in
    let v = u.v in
    let h : v < 5 = omega (arith, c.loop-v-test.true, c.requires.bounds.1) in (
      c.with_width-table.ensures ∙ record_more mode l v (told_murm u.table) (told_width p.result) h u.invariant.0 b.row,
      done_more (prints mode l) _ v _ _ _ refl p.auto.fingerprints b.prints u.invariant.1,
      done_more (parents mode l) _ v _ _ _ refl p.auto.parents b.parents u.invariant.2,
      done_more (codes mode l) _ v _ _ _ refl p.auto.codes b.codes u.invariant.3,
      done_more (places mode l (told_by c.args.by)) _ v _ _ _ refl p.auto.index b.index u.invariant.4,
    )

pub returns-clause-rows : goal.returns-clause-rows
returns-clause-rows c =
    let f : c.loop-v.v ≡ c.args.config.max_qubits = omega arith in
    record_all (told_mode c.args.mode) (told_config c.args.config) c.loop-v.v _ f c.loop-v.invariant.0
