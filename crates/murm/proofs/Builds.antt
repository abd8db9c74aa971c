-- A build by the scan: an index of no places stays one. Assumes nothing.
use mathlib.Core.Path.{◌≡◌, refl, sym, ap, ◌∙◌}
use mathlib.Core.List.{List, [], ◌∷◌}
use Prim.Native.Nat.{ℕ}
use native.Mathlib.Omega.{arith}
use lib.ListN.{length}
use Rattle.walk.specs.Modes.{Mode}
use Rattle.walk.specs.Index.{scan}
use Rattle.tables.specs.Checks.{Limits, Arrays, arrays, arrays_by}
use Rattle.tables.specs.Tables.{BuildReply, left, build_of}

-- an index of no places is none
no_places : (i : List ℕ) → length i ≡ 0 → i ≡ []
no_places [] e = refl
no_places (x ∷ i) e = absurd (omega (arith, e))

pub no_index : (mode : Mode) (l : Limits) (a : Arrays) (f u c i : List ℕ) {r : BuildReply} → length i ≡ 0 → left r (arrays_by scan f u c i) ≡ build_of mode l a
    → left r (arrays f u c) ≡ build_of mode l a
no_index mode l a f u c i {r} e h = ap (λ (z : List ℕ). left r (arrays_by scan f u c z)) (sym (no_places i e)) ∙ h
