-- What each of the loops keeps: the places from a start on hold what a function gives for each number passed. Assumes
-- nothing.
use mathlib.Core.Path.{◌≡◌}
use mathlib.Core.List.{List}
use Prim.Native.Nat.{ℕ, ◌+◌, ◌≤◌, ◌<◌}
use native.Mathlib.Omega.{arith}
use lib.ListN.{length, length-append}
use lib.Seq.{sets}
use Rattle.ints.specs.Lists.{range, each}
use Rattle.ints.proofs.Runs.{each_none, each_more, each_prefix_length, sets-append}

-- of the old places those from start on hold what f gives for the first i numbers, and at is the place after them
pub record Filled (f : ℕ → List ℕ) (old : List ℕ) (start i at : ℕ) (new : List ℕ) : Type 0 where
  pub next : at ≡ start + length (each (range 0 i) f)
  pub written : new ≡ sets old start (each (range 0 i) f)

pub filled_none : (f : ℕ → List ℕ) (old : List ℕ) (start : ℕ) → Filled f old start 0 start old
filled_none f old start = record { next = rw each_none (omega arith); written = rw each_none }

pub filled_more : {f : ℕ → List ℕ} {old : List ℕ} {start i at at' : ℕ} {new new' : List ℕ} → Filled f old start i at new → at' ≡ at + length (f i) → new' ≡ sets new at (f i) → Filled f old start (i + 1) at' new'
filled_more h p q = record {
  next = rw (each_more, length-append) (omega (arith, h.next));
  written = rw (each_more, sets-append, ← h.written, ← h.next) q;
}

-- what the next number gives has room, if all have
pub filled_room : {f : ℕ → List ℕ} {old : List ℕ} {start i at : ℕ} {new : List ℕ} (n m : ℕ) → Filled f old start i at new → i < n → start + length (each (range 0 n) f) ≤ m → at + length (f i) ≤ m
filled_room {f} {i = i} n m h l r = omega (arith, h.next, each_prefix_length i n f l)

pub filled_end : {f : ℕ → List ℕ} {old : List ℕ} {start i at : ℕ} {new : List ℕ} (n : ℕ) → Filled f old start i at new → i ≡ n → Filled f old start n at new
filled_end n h e = rw e at h
