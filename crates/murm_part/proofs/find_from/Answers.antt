-- `find_from` meets its contract: the part of each array that is lent is `take entries (drop start ..)`, and so with
-- the index; all of the matrix is lent. Assumes nothing.
use Prim.Native.Nat.{◌+◌, ◌-◌}
use native.Mathlib.Omega.{arith}
use mathlib.Core.Path.{◌≡◌}
use Rattle.synthesis_arena.specs.Limits.{told_limits}
use Rattle.murm_part.specs.Told.{told_lent}
use Rattle.murm_part.proofs.Parts.{same_slices}
use Rattle.murm_part.proofs.find_from.Goals as goal

pub returns : goal.returns
returns c =
    let a = c.args in
    let e : a.start + a.limits.entries - a.start ≡ a.limits.entries = omega arith in
    let h : a.place + a.size - a.place ≡ a.size = omega arith in
    same_slices (told_limits a.limits) a.query.width a.query.exponent a.query.matrix.now (told_lent a.lent) a.start a.limits.entries
    a.place a.size c.requires.width_bound.0 e h c.find_width.ensures
