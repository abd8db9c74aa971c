-- What a build comes to as numbers: a record that is too short, and else the library's. Assumes nothing.
use mathlib.Core.Path.{◌≡◌, sym, ap, subst, ◌∙◌}
use mathlib.Core.Bool.{true, false}
use mathlib.Core.List.{List}
use Prim.Native.Nat.{ℕ, ◌≤◌, ◌<◌}
use borrow.Author.Tests.{lt-ltb, le-ltb}
use lib.ListN.{length}
use Rattle.ints.specs.Lists.{over}
use Rattle.walk.specs.Modes.{Mode}
use Rattle.walk.specs.Index.{By}
use Rattle.tables.specs.Checks.{Limits, Arrays, arrays_by}
use Rattle.tables.specs.Tables.{BuildReply, Left, left, build_of}
use Rattle.bench.specs.Tables.{limits_of_numbers, too_few, numbers_of, build_number, recorded, built_as, built_by, bench_built}

-- ---- too few numbers

module _ (l numbers : List ℕ) where
  pub few_limits : length l < 4 → too_few l numbers ≡ true
  few_limits h = rw (lt-ltb (length l) 4 h)

  pub few_numbers : 4 ≤ length l → length numbers < 15 → too_few l numbers ≡ true
  few_numbers g h = rw (le-ltb (length l) 4 g, lt-ltb (length numbers) 15 h)

  pub enough : 4 ≤ length l → 15 ≤ length numbers → too_few l numbers ≡ false
  enough g h = rw (le-ltb (length l) 4 g, le-ltb (length numbers) 15 h)

-- ---- a build

-- in the same mode and by the same look-up, called otherwise
pub by_built : (t : BuildReply) (l : Limits) (f u c i f' u' c' i' : List ℕ) {m m' : Mode} {b b' : By} → m ≡ m' → b ≡ b'
    → left t (arrays_by b f' u' c' i') ≡ build_of m l (arrays_by b f u c i) → left t (arrays_by b' f' u' c' i') ≡ build_of m' l (arrays_by b' f u c i)
by_built t l f u c i f' u' c' i' {m' = m'} {b = b} d e h =
    subst (λ (z : By). left t (arrays_by z f' u' c' i') ≡ build_of m' l (arrays_by z f u c i)) e
    (h ∙ ap (λ (z : Mode). build_of z l (arrays_by b f u c i)) d)

pub short_built : (mode : Mode) (l : List ℕ) (a : Arrays) (numbers : List ℕ) → too_few l numbers ≡ true → built_as 99 a numbers ≡ bench_built mode l a numbers
unfolding bench_built
short_built mode l a numbers h = rw h

pub long_built : (mode : Mode) (l : List ℕ) (a : Arrays) (numbers : List ℕ) (t : BuildReply) {l' : Limits} {a' : Arrays} {r : ℕ} {new : List ℕ} → too_few l numbers ≡ false
    → l' ≡ limits_of_numbers l → left t a' ≡ build_of mode l' a → r ≡ build_number t → new ≡ recorded t numbers → built_as r a' new ≡ bench_built mode l a numbers
unfolding bench_built
long_built mode l a numbers t {a'} {new} h hl e hr hn =
    rw h
    (ap (λ (z : ℕ). built_as z a' new) hr
    ∙ (ap (built_as (build_number t) a') hn ∙ ap (λ (o : Left). built_by o numbers) (e ∙ ap (λ (z : Limits). build_of mode z a) hl)))
