-- The value of each case of the way to look up, and of a part that is lent. Assumes nothing.
use Rattle.walk.specs.Index.{By, scan, indexed}
use Rattle.walk.specs.Finds as walk
use Rattle.walk.specs.Finds.{part_with}
use Rattle.index.specs.declared.LookupBy.{LookupBy}
use Rattle.index.specs.declared.LookupBy.TheVariants as b
use Rattle.index.specs.declared.Part.{Part}

abbrev pub told_by : LookupBy → By
told_by b.Scan = scan
told_by b.Index = indexed

abbrev pub told_part : Part → walk.Part
told_part p = part_with (told_by p.by) p.fingerprints.now p.parents.now p.codes.now p.count p.index.now
