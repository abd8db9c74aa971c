-- A record's numbers put into places. Assumes nothing.
use mathlib.Core.Path.{◌≡◌, ap, ◌∙◌}
use mathlib.Core.List.{List, [], ◌∷◌}
use Prim.Native.Nat.{ℕ, suc, ◌≤◌, ◌+◌}
use lib.ListN.{length, set}
use lib.Seq.{sets, sets-eq}
use Rattle.ints.specs.Lists.{over}
use Rattle.tables.specs.Tables.{Width}
use Rattle.bench.specs.Tables.{width_numbers, widths_numbers}

abbrev put : ℕ → Width → List ℕ → List ℕ
put i w l = sets l i (width_numbers w)

pub five_put : (a b c d e : Width) (o : List ℕ) {o1 o2 o3 o4 o5 : List ℕ} → 15 ≤ length o → o1 ≡ put 0 a o → o2 ≡ put 3 b o1 → o3 ≡ put 6 c o2
    → o4 ≡ put 9 d o3 → o5 ≡ put 12 e o4 → o5 ≡ over (widths_numbers (a ∷ b ∷ c ∷ d ∷ e ∷ [])) o
five_put a b c d e o h h1 h2 h3 h4 h5 =
    h5 ∙ (ap (put 12 e) (h4 ∙ ap (put 9 d) (h3 ∙ ap (put 6 c) (h2 ∙ ap (put 3 b) h1)))
    ∙ sets-eq (widths_numbers (a ∷ b ∷ c ∷ d ∷ e ∷ [])) o 0 h)
