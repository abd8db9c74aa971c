-- Laws of a table's text: a width's part, and one width after the other. Assumes nothing.
use mathlib.Core.List.{List, [], ◌∷◌, ◌++◌}
use mathlib.Core.Path.{◌≡◌, refl, sym, ap, ◌∙◌}
use Prim.Native.Nat.{ℕ, zero, suc, ◌+◌, ◌-◌, ◌*◌, ◌≤◌, ◌<◌}
use native.Mathlib.Nat.{suc-mul, mul-le-mul}
use native.Mathlib.Numerals.{add-one}
use native.Mathlib.Omega.{arith}
use lib.ListN.{get_or, take, drop}
use lib.Seq.{get_or-take}
use Rattle.ints.specs.Lists.{range, each}
use Rattle.ints.proofs.Runs.{range_snoc, each_append}
use Rattle.tables.specs.Tables.{Width, Table, width_at}
use Rattle.circuits_lines.specs.Lines.{table_line, node_line, node_lines}
use Rattle.circuits_lines.proofs.Each.{each_one}
use Rattle.circuits_parts.specs.Texts.{row_text, width_text, width_texts}

-- ---- a width

-- two runs of texts are the same where each text is
pub each_same : (i count : ℕ) (f g : ℕ → List ℕ) → ((j : ℕ) → i ≤ j → j < i + count → f j ≡ g j) → each (range i count) f ≡ each (range i count) g
unfolding each range
each_same i zero f g h = refl
each_same i (suc count) f g h =
    ap (λ (l : List ℕ). l ++ each (range (suc i) count) f) (h i (omega arith) (omega arith))
    ∙ ap (λ (l : List ℕ). g i ++ l) (each_same (suc i) count f g (λ j p q. h j (omega arith) (omega arith)))

-- the nodes that are counted stand within the first e places
nodes_part : (e count : ℕ) (parents codes : List ℕ) → count ≤ e → node_lines parents codes count ≡ node_lines (take e parents) (take e codes) count
unfolding node_lines
nodes_part e count parents codes h =
    each_same 0 count _ _
    (λ j _ l. let u : get_or parents j 0 ≡ get_or (take e parents) j 0 = sym (get_or-take e parents j 0 (omega arith)) in
    let v : get_or codes j 0 ≡ get_or (take e codes) j 0 = sym (get_or-take e codes j 0 (omega arith)) in
    ap (λ (x : ℕ). node_line j x (get_or codes j 0)) u ∙ ap (λ (x : ℕ). node_line j (get_or (take e parents) j 0) x) v)

-- the row is the record's, and the nodes are those of the width's part
pub width_as :
    (t : Table) (parents codes : List ℕ) (w : ℕ) {row : Width} → row ≡ width_at t w → (width_at t w).count ≤ t.limits.entries →
    table_line w row.count row.depth row.saturated
    ++ node_lines (drop ((w - 1) * t.limits.entries) parents) (drop ((w - 1) * t.limits.entries) codes) row.count
    ≡ width_text t parents codes w
unfolding width_text row_text
width_as t parents codes w {row} e h =
    let n = (width_at t w).count in
    let u = drop ((w - 1) * t.limits.entries) parents in
    let v = drop ((w - 1) * t.limits.entries) codes in
    ap (λ (x : Width). table_line w x.count x.depth x.saturated ++ node_lines u v x.count) e
    ∙ ap (λ (l : List ℕ). table_line w n (width_at t w).depth (width_at t w).saturated ++ l) (nodes_part t.limits.entries n u v h)

-- ---- one after the other

pub widths_none : (t : Table) (parents codes : List ℕ) → [] ≡ width_texts t parents codes 0
unfolding width_texts each range
widths_none t parents codes = refl

pub widths_more :
    (t : Table) (parents codes : List ℕ) (w : ℕ) → width_texts t parents codes w ++ width_text t parents codes (w + 1) ≡ width_texts t parents codes (w + 1)
unfolding width_texts
widths_more t parents codes w =
    let f = width_text t parents codes in
    let e : 1 + w ≡ w + 1 = omega arith in
    sym (ap (λ (n : ℕ). each (range 1 n) f) (add-one w)
    ∙ (ap (λ (l : List ℕ). each l f) (range_snoc 1 w)
    ∙ (each_append (range 1 w) ((1 + w) ∷ []) f ∙ ap (λ (l : List ℕ). each (range 1 w) f ++ l) (each_one (1 + w) f ∙ ap f e))))

-- room for one width more
pub more_room : (w q x : ℕ) → w < q → (w * x + x ≡ (w + 1) * x) × ((w + 1) * x ≤ q * x)
more_room w q x h =
    let l : w + 1 ≤ q = omega arith in
    let r : x ≤ x = omega arith in
    (sym (ap (λ (n : ℕ). n * x) (add-one w) ∙ suc-mul w x), mul-le-mul l r)
