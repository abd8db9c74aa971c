-- What the loops over the widths keep: the record, the three arrays and the index after widths 1 to v. Assumes nothing.
use mathlib.Core.Path.{◌≡◌, refl, ap, ◌∙◌}
use mathlib.Core.List.{List, map}
use Prim.Native.Nat.{ℕ, zero, suc, ◌+◌, ◌*◌, ◌<◌}
use native.Mathlib.Numerals.{add-one}
use native.Mathlib.Omega.{arith}
use lib.Dec.{ltb}
use lib.ListN.{length}
use Rattle.ints.specs.Lists.{pick}
use Rattle.walk.specs.Modes.{Mode}
use Rattle.tables.specs.Checks.{Limits}
use Rattle.tables.specs.Tables.{Width, Table, not_built, all_widths, walk_of, width_of, record_of, within, parts_to}
use Rattle.murm_config.specs.Told.{empty_of, with_width}

-- ---- the record

-- the record after widths 1 to v were built
unfoldable pub record_to : Mode → Limits → ℕ → Table
record_to mode l v = record { limits = l; widths = map (λ (w : ℕ). pick (ltb v w) not_built (width_of (walk_of mode l w))) all_widths }

pub record_none : (mode : Mode) (l : Limits) → empty_of l ≡ record_to mode l 0
unfolding record_to
record_none mode l = refl

one_more : (mode : Mode) (l : Limits) (v : ℕ) → v < 5 → with_width (record_to mode l v) (v + 1) (width_of (walk_of mode l (v + 1))) ≡ record_to mode l (v + 1)
unfolding record_to
one_more mode l zero h = refl
one_more mode l (suc zero) h = refl
one_more mode l (suc (suc zero)) h = refl
one_more mode l (suc (suc (suc zero))) h = refl
one_more mode l (suc (suc (suc (suc zero)))) h = refl
one_more mode l (suc (suc (suc (suc (suc v))))) h = absurd (omega arith)

-- the row of width v + 1 is stored
pub record_more : (mode : Mode) (l : Limits) (v : ℕ) (t : Table) (x : Width) → v < 5 → t ≡ record_to mode l v → x ≡ width_of (walk_of mode l (v + 1))
    → with_width t (v + 1) x ≡ record_to mode l (v + 1)
record_more mode l v t x h e f =
    ap (λ (z : Table). with_width z (v + 1) x) e ∙ (ap (with_width (record_to mode l v) (v + 1)) f ∙ one_more mode l v h)

pub record_all : (mode : Mode) (l : Limits) (v : ℕ) (t : Table) → v ≡ l.qubits → t ≡ record_to mode l v → t ≡ record_of mode l
unfolding record_to record_of
record_all mode l v t f h = h ∙ ap (record_to mode l) f

-- ---- an array, or the index, whose parts of n places are worked by the g of their width

-- worked up to width v
abbrev pub Done : (ℕ → List ℕ → List ℕ) → ℕ → ℕ → List ℕ → List ℕ → Type 0
Done g n v old xs = (length xs ≡ length old) × (xs ≡ parts_to g n v old)

pub done_none : (g : ℕ → List ℕ → List ℕ) (n : ℕ) (old : List ℕ) → Done g n 0 old old
unfolding parts_to
done_none g n old = (refl, refl)

-- one width more
pub done_more : (g : ℕ → List ℕ → List ℕ) (n v : ℕ) {h : List ℕ → List ℕ} (old xs ys : List ℕ) → h ≡ g (v + 1) → length ys ≡ length xs
    → ys ≡ within (v * n) n h xs → Done g n v old xs → Done g n (v + 1) old ys
unfolding parts_to
done_more g n v old xs ys s l e p =
    (l ∙ p.0, e ∙ (ap (λ (f : List ℕ → List ℕ). within (v * n) n f xs) s ∙ (ap (within (v * n) n (g (v + 1))) p.1 ∙ rw add-one)))

-- all widths
pub done_all : (g : ℕ → List ℕ → List ℕ) (n v q : ℕ) (old xs : List ℕ) → v ≡ q → Done g n v old xs → xs ≡ parts_to g n q old
done_all g n v q old xs f p = p.1 ∙ ap (λ (k : ℕ). parts_to g n k old) f
