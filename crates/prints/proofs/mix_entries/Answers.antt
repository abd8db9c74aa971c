-- `mix_entries` meets its contract: before each turn the words of the entries passed are mixed in.
use Rattle.std.proofs.Common.{sym, ◌∙◌, add-one}
use Rattle.prints.proofs.Mixing.{words_last}
use Rattle.prints.proofs.mix_entries.Goals as goal

pub loop-e-preserved : goal.loop-e-preserved
loop-e-preserved c =
    let l = c.loop-e in
    rw (add-one l.e) (c.mix_entry-t.ensures ∙ rw (c.times_omega.ensures, c.get.ensures, l.invariant) (sym (words_last l.e _ _)))
