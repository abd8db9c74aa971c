-- Node 0 in the arrays, a width without generators and one with some; and the generators, in their own array. Assumes
-- nothing.
use mathlib.Core.Path.{◌≡◌, refl, sym, ap, ◌∙◌, subst}
use mathlib.Core.Bool.{Bool, true, false}
use mathlib.Core.List.{List, [], ◌∷◌}
use Prim.Native.Nat.{ℕ, ◌+◌, ◌-◌, ◌≤◌, ◌<◌}
use native.Mathlib.Omega.{arith}
use lib.ListN.{length, take, drop}
use lib.Seq.{take_at, sets, sets-eq, length-sets}
use Rattle.ints.specs.Lists.{pick}
use Rattle.generators.specs.Generators.{generators}
use Rattle.walk.specs.Modes.{Mode}
use Rattle.walk.specs.Index.{By}
use Rattle.walk.specs.Walk.{Build, root, begin, depths, is_nil, walk}
use Rattle.synthesis_arena.specs.declared.WidthLimits.{WidthLimits}
use Rattle.width_arrays.specs.Arrays.{rules, Columns, Long}
use Rattle.width_record.specs.declared.WidthTable.{WidthTable}
use Rattle.width_depths.specs.Depths.{Start, Whole}
use Rattle.width_depths.proofs.DepthLoop.{row}

nil : (xs : List ℕ) → length xs ≡ 0 → is_nil xs ≡ true
nil [] z = refl
nil (x ∷ xs) z = absurd (omega arith)

cons : (xs : List ℕ) → (length xs ≡ 0 → ⊥) → is_nil xs ≡ false
cons [] z = absurd (z refl)
cons (x ∷ xs) z = refl

abbrev pub root_start : (lim : WidthLimits) {by : By} {f0 u0 c0 i0 f u c i : List ℕ} → 0 < lim.entries → Long by lim f0 u0 c0 i0
    → Columns by lim f0 u0 c0 i0 (root ∷ []) f u c i 1 → Start by lim f u c i
root_start lim {f0 = f0} {u0 = u0} {c0 = c0} {i0 = i0} some long w = record { f0 = f0; u0 = u0; c0 = c0; i0 = i0; columns = w; some = some; long = long }

module _ (mode : Mode) (lim : WidthLimits) where
  abbrev walked : Build
  walked = walk (rules mode lim) lim.gates lim.entries

  abbrev deepened : Build
  deepened = depths (rules mode lim) lim.entries begin lim.gates

  by_generators : {t : Bool} → is_nil (generators lim.width lim.basis) ≡ t → pick t begin deepened ≡ walked
  unfolding walk
  by_generators e = ap (λ (s : Bool). pick s begin deepened) (sym e)

  module _ {by : By} {f0 u0 c0 i0 f u c i : List ℕ} where
    pub none_whole : length (generators lim.width lim.basis) ≡ 0 → Columns by lim f0 u0 c0 i0 (root ∷ []) f u c i 1 → Whole by lim (walk (rules mode lim) lim.gates lim.entries) f0 u0 c0 i0 f u c i (row 1 0 false)
    none_whole z w =
        subst (λ (b : Build). Whole by lim b f0 u0 c0 i0 f u c i (row 1 0 false)) (by_generators (nil (generators lim.width lim.basis) z))
        (record { columns = w; depth_is = refl; full_is = refl })

    pub some_whole : (length (generators lim.width lim.basis) ≡ 0 → ⊥) → {r : WidthTable}
        → Whole by lim (depths (rules mode lim) lim.entries begin lim.gates) f0 u0 c0 i0 f u c i r → Whole by lim (walk (rules mode lim) lim.gates lim.entries) f0 u0 c0 i0 f u c i r
    some_whole z {r} w = subst (λ (b : Build). Whole by lim b f0 u0 c0 i0 f u c i r) (by_generators (cons (generators lim.width lim.basis) z)) w

-- ---- the generators, in their own array

pub gates_room : (old gs : List ℕ) {new : List ℕ} {size : ℕ} → new ≡ sets old 0 gs → size ≤ length old → size ≤ length new
gates_room old gs written room = omega (arith, ap length written, length-sets old 0 gs)

pub gates_are : (old gs : List ℕ) {new : List ℕ} {size : ℕ} → new ≡ sets old 0 gs → size ≤ length old → size ≡ length gs → take (size - 0) new ≡ gs
gates_are old gs {new} {size} written room e =
    let z : size - 0 ≡ size = omega arith in
    ap (λ (i : ℕ). take i new) z ∙ ap (take size) (written ∙ sets-eq gs old 0 (omega arith)) ∙ take_at gs (drop (0 + length gs) old) size (sym e)
