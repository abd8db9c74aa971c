-- `put_root` meets its contract. Assumes nothing.
use mathlib.Core.Path.{ap, ◌∙◌}
use Rattle.std.proofs.Common.{List, ℕ}
use Rattle.walk.specs.Index.{kept_up}
use Rattle.index.specs.Told.{told_by}
use Rattle.width_arrays.proofs.Columns.{root_columns}
use Rattle.width_arrays.proofs.put_root.Goals as goal

pub returns : goal.returns
returns c =
    let a = c.args in
    let p = c.requires.room in
    record {
      put = λ lim q.
          root_columns (told_by a.by) lim _ _ _ _ _ q p.0 p.1 p.2
          (c.keep_up.ensures.kept_up ∙ ap (λ (x : List ℕ). kept_up (told_by a.by) x a.print 0) c.start.ensures.started);
    }
