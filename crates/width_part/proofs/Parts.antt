-- What one width's build leaves in the parts of the three arrays and of the index, said of the whole; and its row of
-- the record. Assumes nothing.
use mathlib.Core.Path.{◌≡◌, sym, ap, subst, ◌∙◌}
use mathlib.Core.List.{List, ◌++◌, map}
use Prim.Native.Nat.{ℕ, ◌+◌, ◌-◌, ◌≤◌}
use native.Mathlib.Omega.{arith}
use lib.ListN.{length, get_or, take, drop, length-map, get_or-append}
use borrow.Rule.Slice.PartMut.{mid_of, put_mid}
use Rattle.ints.specs.Lists.{over}
use Rattle.walk.specs.Modes.{Mode}
use Rattle.walk.specs.Index.{By, kept}
use Rattle.walk.proofs.Indexed.{kept_cong}
use Rattle.walk.specs.Walk.{Node, Build, gate}
use Rattle.width_record.specs.declared.WidthTable.{WidthTable}
use Rattle.width_arrays.specs.Arrays.{Column}
use Rattle.walk.specs.AtWidth.{print_of, parent_of}
use Rattle.tables.specs.Checks.{Limits}
use Rattle.tables.specs.Tables.{walk_of, width_of, prints_of, parents_of, codes_of, within}
use Rattle.tables.proofs.Filled.{part_length}
use Rattle.murm_config.specs.Told.{told_width}
use Rattle.width_part.specs.Parts.{PartBuilt}

-- an array that holds what p says of the nodes is that list over what the array held
column_over : (p : Node → ℕ) (ns : List Node) (n : ℕ) (old new : List ℕ) → n ≡ length ns → Column p old ns new n → new ≡ over (map p ns) old
column_over p ns n old new e c = c.is ∙ ap (λ (k : ℕ). map p ns ++ drop k old) (e ∙ sym (length-map ns p))

-- a part that was lent, `&mut xs[a..a + n]`, is back, and holds g of what it held
pub part_back : (a n : ℕ) (g : List ℕ → List ℕ) (xs ys : List ℕ) → ys ≡ g (mid_of a (a + n - a) xs) → put_mid a (a + n - a) xs ys ≡ within a n g xs
part_back a n g xs ys h =
    let e : a + n - a ≡ n = omega arith in
    ap (put_mid a (a + n - a) xs) h ∙ ap (λ (k : ℕ). put_mid a k xs (g (mid_of a k xs))) e

-- and has n places
pub lent_length : (a n : ℕ) (xs : List ℕ) → a + n ≤ length xs → length (take (a + n - a) (drop a xs)) ≡ n
lent_length a n xs h = let e : a + n - a ≡ n = omega arith in rw e (part_length a n xs h)

-- the row of a width
pub row_is : (r : WidthTable) (b : Build) → r.count ≡ length b.nodes → r.depth ≡ b.depth → r.saturated ≡ b.saturated → told_width r ≡ width_of b
row_is r b p q s = rw (p, q, s)

-- ---- the three arrays, the parts of a width lent to its build

module _ (mode : Mode) (l : Limits) (w a n count : ℕ) (same : count ≡ length (walk_of mode l w).nodes) (xs ys : List ℕ) where
  pub prints_back : Column (print_of w) (mid_of a (a + n - a) xs) (walk_of mode l w).nodes ys count
      → put_mid a (a + n - a) xs ys ≡ within a n (over (prints_of mode l w)) xs
  unfolding prints_of
  prints_back c = part_back a n (over (prints_of mode l w)) xs ys (column_over _ _ _ _ _ same c)

  pub parents_back : Column parent_of (mid_of a (a + n - a) xs) (walk_of mode l w).nodes ys count
      → put_mid a (a + n - a) xs ys ≡ within a n (over (parents_of mode l w)) xs
  unfolding parents_of
  parents_back c = part_back a n (over (parents_of mode l w)) xs ys (column_over _ _ _ _ _ same c)

  pub codes_back : Column gate (mid_of a (a + n - a) xs) (walk_of mode l w).nodes ys count
      → put_mid a (a + n - a) xs ys ≡ within a n (over (codes_of mode l w)) xs
  unfolding codes_of
  codes_back c = part_back a n (over (codes_of mode l w)) xs ys (column_over _ _ _ _ _ same c)

  -- the part of the index, where those of the fingerprints hold the width's column
  pub index_back : (by : By) (f0 f : List ℕ) → Column (print_of w) f0 (walk_of mode l w).nodes f count → ys ≡ kept by f count (mid_of a (a + n - a) xs)
      → put_mid a (a + n - a) xs ys ≡ within a n (kept by (prints_of mode l w) (length (walk_of mode l w).nodes)) xs
  unfolding prints_of
  index_back by f0 f c e =
      let ns = (walk_of mode l w).nodes in
      part_back a n (kept by (prints_of mode l w) (length ns)) xs ys
      (e ∙ kept_cong by f (map (print_of w) ns) (mid_of a (a + n - a) xs) count
      (λ v h. ap (λ (z : List ℕ). get_or z v 0) c.is ∙ get_or-append (map (print_of w) ns) (drop count f0) 0 v (omega (arith, same, length-map ns (print_of w))))
      ∙ ap (λ (k : ℕ). kept by (map (print_of w) ns) k (mid_of a (a + n - a) xs)) same)

-- what is built by limits is built by equal ones
pub same_limits : {mode : Mode} {by : By} {l m : Limits} {v size : ℕ} {f u c i f' u' c' i' : List ℕ} {r : WidthTable} → l ≡ m
    → PartBuilt mode by l v size f u c i f' u' c' i' r → PartBuilt mode by m v size f u c i f' u' c' i' r
same_limits {mode} {by} {l} {m} {v} {size} {f} {u} {c} {i} {f'} {u'} {c'} {i'} {r} e = subst (λ (z : Limits). PartBuilt mode by z v size f u c i f' u' c' i' r) e
