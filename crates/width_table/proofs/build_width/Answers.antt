-- `build_width` meets its contract: node 0, and then the loop over depths. Assumes nothing.
use mathlib.Core.Path.{sym, ◌∙◌}
use Rattle.known.specs.Known.{told_mode}
use Rattle.width_table.proofs.Root.{root_start, none_whole, some_whole, gates_are}
use Rattle.width_table.proofs.build_width.Goals as goal

-- no generators: node 0 alone
pub returns-then-size-eq0 : goal.returns-then-size-eq0
returns-then-size-eq0 c = record {
  whole = none_whole (told_mode c.args.mode) c.args.limits (sym c.library_gates-size.ensures.counted ∙ c.if-size-eq0.true) c.open_width.ensures.opened;
}

pub deepen_all-requires-clause-generators : goal.deepen_all-requires-clause-generators
deepen_all-requires-clause-generators c =
    let g = c.library_gates-size.ensures in
    gates_are _ _ g.written g.room g.counted

pub returns : goal.returns
returns c = record {
  whole =
      let l = c.args.limits in
      let p = c.requires in
      some_whole (told_mode c.args.mode) l (λ z. c.if-size-eq0.false (c.library_gates-size.ensures.counted ∙ z))
      (c.deepen_all.ensures.deepened (root_start l p.bounds.2 p.long c.open_width.ensures.opened));
}
