-- `bench_build` meets its contract. Assumes nothing.
use mathlib.Core.Logic.{inl, inr}
use native.Mathlib.Omega.{arith}
use Rattle.tables.specs.Checks.{arrays_by}
use Rattle.murm_build.specs.Entries.{told_building}
use Rattle.bench.specs.Numbers.{by_number, mode_number}
use Rattle.bench.proofs.Tables.{few_limits, few_numbers, enough, by_built, short_built, long_built}
use Rattle.bench.proofs.bench_build.Goals as goal

pub returns-then-limits-lt4 : goal.returns-then-limits-lt4
returns-then-limits-lt4 c =
    let a = c.args in
    let m = arrays_by (by_number a.by) a.fingerprints.now a.parents.now a.codes.now a.index.now in
    elim c.then-limits-lt4.either [
      | inl h ↦ short_built (mode_number a.mode) a.limits.now m a.numbers.now (few_limits a.limits.now a.numbers.now h)
      | inr h ↦ short_built (mode_number a.mode) a.limits.now m a.numbers.now (few_numbers a.limits.now a.numbers.now h.0 h.1)
    ]

pub returns : goal.returns
returns c =
    let a = c.args in
    let m = arrays_by (by_number a.by) a.fingerprints.now a.parents.now a.codes.now a.index.now in
    let b = c.build_by-building in
    long_built (mode_number a.mode) a.limits.now m a.numbers.now (told_building b.result)
    (enough a.limits.now a.numbers.now (omega (arith, c.if-limits-lt4.false)) (omega (arith, c.if-numbers-lt15.false))) c.config_of.ensures
    (by_built _ _ _ _ _ _ _ _ _ _ c.mode_of.ensures c.lookup_by.ensures b.ensures) c.built.ensures.value c.built.ensures.numbers_after
