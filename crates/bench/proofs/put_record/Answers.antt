-- `put_record` meets its contract: the five widths one after the other. Assumes nothing.
use Rattle.murm_config.specs.Told.{told_width}
use Rattle.bench.proofs.Places.{five_put}
use Rattle.bench.proofs.put_record.Goals as goal

pub returns : goal.returns
returns c =
    let t = c.args.table in
    five_put (told_width t.width1) (told_width t.width2) (told_width t.width3) (told_width t.width4) (told_width t.width5)
    c.args.numbers.now c.requires
    c.put_width.ensures c.put_width-2.ensures c.put_width-3.ensures c.put_width-4.ensures c.put_width-5.ensures
