-- A width's part under limits that are not refused, by them and a count alone: where it lies, and how many of its
-- places are counted; the counts of a record that is not refused. Assumes nothing.
use mathlib.Core.Path.{◌≡◌, subst}
use mathlib.Core.Bool.{false}
use mathlib.Core.List.{List}
use Prim.Native.Nat.{ℕ, ◌+◌, ◌*◌, ◌-◌, ◌≤◌, ◌<◌}
use native.Mathlib.Omega.{arith}
use native.Mathlib.Nat.{mul-le-mul}
use lib.IntN.{ℤ}
use lib.ListN.{length, take, drop, length-drop}
use lib.Seq.{length-take-le, take_all}
use Rattle.width_answer.specs.Answers.{ListFound}
use Rattle.exact.specs.Places.{held}
use Rattle.walk.specs.Finds.{WidthLimits, Finding}
use Rattle.tables.specs.Checks.{Limits, Arrays, places_of}
use Rattle.tables.specs.Tables.{Table, Query, width_at, record_row, count_at}
use Rattle.murm_part.specs.Work.{part_from, Counted, FoundFor}
use Rattle.tables.proofs.Accepted.{Accepted, record_limits}
use Rattle.tables.proofs.Counts.{has_width, counted, record_count}
use Rattle.tables.proofs.Filled.{room_at}

-- where the part of a width lies, and how many of its places are counted
pub record PartBounds (l : Limits) (w count : ℕ) : Type 0 where
  pub some : 0 < w
  pub width : w ≤ 5
  pub has : w ≤ l.qubits
  pub gates : l.gates ≤ 64
  pub entries : l.entries ≤ 1000000
  pub start : (w - 1) * l.entries ≤ 5000000
  pub inside : (n : ℕ) → places_of l ≤ n → (w - 1) * l.entries + l.entries ≤ n
  pub few : count ≤ l.entries

module _ (l : Limits) (w count : ℕ) where
  bounds : Accepted l → count ≤ l.entries → 0 < w → w ≤ l.qubits → PartBounds l w count
  bounds a k p q =
      let b = room_at (w - 1) l.qubits l.entries (omega arith) in
      let five : w ≤ 5 = omega (arith, a.widths) in
      let four : w - 1 ≤ 4 = omega (arith, five) in
      record {
        some = p;
        width = five;
        has = q;
        gates = a.gates;
        entries = a.entries;
        start = omega (arith, mul-le-mul four a.entries);
        inside = λ n m. omega (arith, b, m);
        few = k;
      }

  -- a width with entries is one from 1 to Q
  pub counted_part : Counted l w count → 0 < count → PartBounds l w count
  counted_part c h = let (p, q) = c.has h in bounds c.good c.few p q

module _ (t : Table) (w : ℕ) (r : (record_row t).holds ≡ false) where
  -- a width that the table has, with its row's count
  pub part : 0 < w → w ≤ t.limits.qubits → PartBounds t.limits w (width_at t w).count
  part p q =
      let e : count_at t w ≡ (width_at t w).count = rw (has_width t w p q) in
      bounds t.limits w _ (record_limits t r) (omega (arith, record_count t w r, e)) p q

  -- what the table counts, of any width
  pub record_counted : {count : ℕ} → count ≡ count_at t w → Counted t.limits w count
  record_counted e = record {
    good = record_limits t r;
    few = omega (arith, e, record_count t w r);
    has = λ h. let (p, q, z) = counted t w {k = 0} (omega (arith, h, e)) in (p, q);
  }

-- ---- what is found in a part that is given by other numbers, for a matrix that is lent as a slice of all its places

-- all of a slice is the slice
pub whole : (xs : List ℤ) → take (length xs - 0) (drop 0 xs) ≡ xs
whole xs = take_all (length xs - 0) xs (omega arith)

module _ (limits : WidthLimits) (n k : ℕ) (numbers : List ℤ) (a : Arrays) (start entries place size : ℕ) {g : Finding} {list : List ℕ} where
  pub same_slices : {w m j count : ℕ} → w ≡ n → m ≡ entries → j ≡ size
      → ListFound limits (part_from a start m count place j) (held w k (take (length numbers - 0) (drop 0 numbers))) g list
      → ListFound limits (part_from a start entries count place size) (held n k numbers) g list
  same_slices {w} {m} {j} {count} d e h x =
      subst (λ (l : List ℤ). ListFound limits (part_from a start entries count place size) (held n k l) g list) (whole numbers)
      (subst (λ (z : ℕ). ListFound limits (part_from a start entries count place z) (held n k (take (length numbers - 0) (drop 0 numbers))) g list) h
      (subst (λ (z : ℕ). ListFound limits (part_from a start z count place j) (held n k (take (length numbers - 0) (drop 0 numbers))) g list) e
      (subst (λ (z : ℕ). ListFound limits (part_from a start m count place j) (held z k (take (length numbers - 0) (drop 0 numbers))) g list) d x)))

-- with the count that the table has
pub same_count : (l : Limits) (a : Arrays) (q : Query) {g : Finding} {list : List ℕ} {count m : ℕ} → count ≡ m → FoundFor l count a q g list → FoundFor l m a q g list
same_count l a q {g} {list} e = subst (λ (k : ℕ). FoundFor l k a q g list) e

-- the part has as many places as were asked for
pub room : (start entries count : ℕ) (xs : List ℕ) → start + entries ≤ length xs → count ≤ entries → count ≤ length (take (start + entries - start) (drop start xs))
room start entries count xs h k = omega (arith, length-take-le (start + entries - start) (drop start xs) (omega (arith, length-drop start xs)))
