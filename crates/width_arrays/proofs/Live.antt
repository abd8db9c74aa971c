-- The arrays while a width is built: room, look-ups, and what they hold after a candidate, in each of its cases.
-- Assumes nothing.
use mathlib.Core.Path.{◌≡◌, refl, sym, ap, ◌∙◌, subst}
use mathlib.Core.Bool.{true, false}
use mathlib.Core.List.{List, [], ◌∷◌, ◌++◌}
use Prim.Native.Nat.{ℕ, ◌+◌, ◌≤◌, ◌<◌}
use native.Mathlib.Numerals.{add-one}
use native.Mathlib.Omega.{arith}
use borrow.Author.Tests.{lt-ltb, le-ltb}
use lib.ListN.{length, set}
use Rattle.exact.specs.Fingerprint.{fingerprint}
use Rattle.walk.specs.Lookup.{lowest_from}
use Rattle.walk.specs.Index.{By, looked_up, kept_up, kept}
use Rattle.walk.specs.Modes.{Mode}
use Rattle.walk.specs.Walk.{Node, State, candidate, skipped, child, try}
use Rattle.walk.specs.AtWidth.{print_of}
use Rattle.walk.proofs.Candidates.{filled, grown_by}
use Rattle.walk.proofs.Exactly.{print_is}
use Rattle.walk.proofs.Indexed.{kept_looks_up, kept_more, kept_length}
use Rattle.walk.proofs.Sequences.{length_snoc}
use Rattle.walk.proofs.Holding.{Holding}
use Rattle.synthesis_arena.specs.declared.WidthLimits.{WidthLimits}
use Rattle.width_arrays.specs.Arrays.{rules, unsaturated, Column, Long, Room, Live, After}
use Rattle.width_arrays.proofs.Columns.{column_at, column_length, column_snoc}

module _ {mode : Mode} {by : By} {lim : WidthLimits} {f u c i : List ℕ} {count k top : ℕ} (h : Live mode by lim f u c i count k top) where
  pub live_count : count ≤ lim.entries
  live_count = omega (arith, h.few, h.columns.count_is)

  pub live_long : Long by lim f u c i
  live_long =
      let b : count ≤ lim.entries = live_count in
      let q : count ≡ length h.ns = h.columns.count_is in record {
        in_f = omega (arith, column_length h.columns.prints q (omega (arith, h.long.in_f)), h.long.in_f);
        in_u = omega (arith, column_length h.columns.parents q (omega (arith, h.long.in_u)), h.long.in_u);
        in_c = omega (arith, column_length h.columns.gates q (omega (arith, h.long.in_c)), h.long.in_c);
        in_i = λ e. omega (arith, ap length h.columns.index, kept_length by f h.i0 count, h.long.in_i e);
      }

  pub live_room : k < count → lim.width ≤ 5 → lim.gates ≤ 64 → lim.entries ≤ 1000000 → Room by lim count k f u c i
  live_room l n g b = record { narrow = n; short = g; few = live_count; there = l; most = b; long = live_long }

  -- either look-up finds the lowest node with the fingerprint
  pub live_looks : lim.entries ≤ 1000000 → (from y : ℕ) → looked_up by i f count from y ≡ lowest_from f count from y
  live_looks b from y =
      ap (λ (x : List ℕ). looked_up by x f count from y) h.columns.index
      ∙ kept_looks_up by f h.i0 count from y (λ e. (omega (arith, live_count, h.long.in_i e), omega (arith, live_count)))

  -- the arrays hold the nodes
  pub live_holds : Holding lim.width h.ns f u c
  live_holds = record {
    prints = column_at h.columns.prints h.columns.count_is;
    parents = column_at h.columns.parents h.columns.count_is;
    codes = column_at h.columns.gates h.columns.count_is;
  }

  module _ (g : ℕ) where
    module _ (y : ℕ) (ey : y ≡ fingerprint lim.width (candidate (rules mode lim) h.ns k g)) where
      pub grow : {i' : List ℕ} → skipped (rules mode lim) h.ns k g ≡ false → count < lim.entries → i' ≡ kept_up by i y count
          → After by lim h.f0 h.u0 h.c0 h.i0 (try (rules mode lim) lim.entries (unsaturated h.ns) k g) (set f count y) (set u count k) (set c count g) i' (count + 1) false
      unfolding try
      grow {i'} s l kept-up =
          let q : count ≡ length h.ns = h.columns.count_is in
          let m : Node = child (rules mode lim) h.ns k g in
          let e : try (rules mode lim) lim.entries (unsaturated h.ns) k g ≡ grown_by (rules mode lim) (unsaturated h.ns) k g = rw (s, lt-ltb (length h.ns) lim.entries (omega arith)) in
          subst (λ (z : State). After by lim h.f0 h.u0 h.c0 h.i0 z (set f count y) (set u count k) (set c count g) i' (count + 1) false) (sym e)
          (record {
            columns = record {
              count_is = omega (arith, length_snoc h.ns m);
              prints = subst (λ (v : ℕ). Column (print_of lim.width) h.f0 (h.ns ++ (m ∷ [])) (set f count v) (count + 1)) (print_is mode lim.width lim.basis m ∙ sym ey) (column_snoc h.columns.prints q (omega (arith, h.long.in_f)) m);
              parents = column_snoc h.columns.parents q (omega (arith, h.long.in_u)) m;
              gates = column_snoc h.columns.gates q (omega (arith, h.long.in_c)) m;
              index = kept-up ∙ ap (λ (x : List ℕ). kept_up by x y count) h.columns.index ∙ kept_more by f h.i0 count y (omega (arith, live_long.in_f))
                  ∙ ap (λ (n : ℕ). kept by (set f count y) n h.i0) (sym (add-one count));
            };
            full_is = refl;
          })

    pub keep : skipped (rules mode lim) h.ns k g ≡ true → After by lim h.f0 h.u0 h.c0 h.i0 (try (rules mode lim) lim.entries (unsaturated h.ns) k g) f u c i count false
    unfolding try
    keep s =
        let e : try (rules mode lim) lim.entries (unsaturated h.ns) k g ≡ unsaturated h.ns = rw s in
        subst (λ (z : State). After by lim h.f0 h.u0 h.c0 h.i0 z f u c i count false) (sym e) (record { columns = h.columns; full_is = refl })

    pub fill : skipped (rules mode lim) h.ns k g ≡ false → lim.entries ≤ count → After by lim h.f0 h.u0 h.c0 h.i0 (try (rules mode lim) lim.entries (unsaturated h.ns) k g) f u c i count true
    unfolding try
    fill s l =
        let e : try (rules mode lim) lim.entries (unsaturated h.ns) k g ≡ filled (unsaturated h.ns) = rw (s, le-ltb (length h.ns) lim.entries (omega (arith, h.columns.count_is))) in
        subst (λ (z : State). After by lim h.f0 h.u0 h.c0 h.i0 z f u c i count true) (sym e) (record { columns = h.columns; full_is = refl })
