-- Two arrays that are filled side by side: the gates that are left, and the fingerprints of their candidates. Assumes
-- nothing.
use mathlib.Core.Path.{◌≡◌, sym, ap, ◌∙◌, subst}
use mathlib.Core.Bool.{Bool, not}
use mathlib.Core.List.{List}
use Rattle.std.specs.Prelude.{Option, Some, None}
use Prim.Native.Nat.{ℕ, ◌+◌, ◌≤◌, ◌<◌}
use native.Mathlib.Omega.{arith}
use lib.IntN.{ℤ}
use lib.ListN.{length, get_or, take}
use lib.Seq.{length-take-le, get_or-take}
use Rattle.exact.specs.Matrix.{Exact}
use Rattle.node_matrix.specs.Matrices.{FormedAs}
use Rattle.node_matrix.proofs.Prints.{print_given, print_refused}
use Rattle.skip_rules.proofs.Sifting.{Sifted, sifted_none, sifted_skip, sifted_in, sifted_all, map_same}
use Rattle.fitting_gates.specs.Fitting.{unfit, candidate_print, LeftOf, Room105, placed_gate, placed_print, placed_count}

-- both arrays after i of the gates
pub record TwoSifted (skip : ℕ → Bool) (y : ℕ → ℕ) (gs kept₀ prints₀ kept prints : List ℕ) (size i : ℕ) : Type 0 where
  pub gates : Sifted skip (λ g. g) gs kept₀ kept size i
  pub words : Sifted skip y gs prints₀ prints size i

pub two_none : (skip : ℕ → Bool) (y : ℕ → ℕ) (gs kept prints : List ℕ) → TwoSifted skip y gs kept prints kept prints 0 0
two_none skip y gs kept prints = record { gates = sifted_none skip (λ g. g) gs kept; words = sifted_none skip y gs prints }

module _ {skip : ℕ → Bool} {y : ℕ → ℕ} {m : ℕ} {kept₀ prints₀ kept prints : List ℕ} {size i : ℕ} (room : Room105 m kept₀ prints₀)
    (w : TwoSifted skip y (take m kept₀) kept₀ prints₀ kept prints size i) where
  pub source_long : length (take m kept₀) ≡ m
  source_long = length-take-le m kept₀ (omega (arith, room.few, room.long_gates))

  -- the gates that are still to be read are the array's
  pub source_at : (j : ℕ) → i ≤ j → j < m → get_or kept j 0 ≡ get_or (take m kept₀) j 0
  source_at j l r = w.gates.after j l ∙ sym (get_or-take m kept₀ j 0 r)

  pub two_room : i < m → (size < length kept) × (size < length prints) × (length kept ≡ 105)
  two_room l = (
    omega (arith, w.gates.few, w.gates.long, room.few, room.long_gates),
    omega (arith, w.words.few, w.words.long, room.few, room.long_prints),
    w.gates.long ∙ room.long_gates,
  )

  pub two_all : m ≤ i → i ≤ m → LeftOf skip y (take m kept₀) kept prints size
  two_all l r = record {
    gates_are = sifted_all w.gates (omega (arith, source_long)) ∙ map_same _;
    prints_are = sifted_all w.words (omega (arith, source_long));
    few = omega (arith, w.gates.few, source_long);
    long_gates = w.gates.long ∙ room.long_gates;
    long_prints = w.words.long ∙ room.long_prints;
  }

-- ---- the loop that keeps the gates whose steps fit: one candidate more

module _ (n : ℕ) (x : Exact) {m : ℕ} {kept₀ prints₀ kept prints : List ℕ} {size i : ℕ} (room : Room105 m kept₀ prints₀)
    (w : TwoSifted (unfit n x) (candidate_print n x) (take m kept₀) kept₀ prints₀ kept prints size i) (l : i < m) where
  abbrev gs : List ℕ
  gs = take m kept₀

  in_source : i < length gs
  in_source = omega (arith, source_long room w)

  put : {g : ℕ} {p : List ℤ} (r : Option (ℕ × ℕ)) → g ≡ get_or gs i 0 → FormedAs n g x p r
      → TwoSifted (unfit n x) (candidate_print n x) gs kept₀ prints₀ (placed_gate r g kept size) (placed_print r prints size) (placed_count r size) (i + 1)
  put {g} (Some (v, k)) q f =
      let a = print_given n g x f.print in
      let e = ap (unfit n x) (sym q) ∙ ap not a.0 in record {
        gates = sifted_in w.gates in_source q e (omega (arith, w.gates.few, room.few, room.long_gates));
        words = sifted_in w.words in_source (a.1 ∙ ap (candidate_print n x) q) e (omega (arith, w.words.few, room.few, room.long_prints));
      }
  put {g} None q f =
      let e = ap (unfit n x) (sym q) ∙ ap not (print_refused n g x f.print) in
      record { gates = sifted_skip w.gates in_source e; words = sifted_skip w.words in_source e }

  -- by what the code returned and left
  pub two_put : {g next : ℕ} {p : List ℤ} {kept' prints' : List ℕ} (r : Option (ℕ × ℕ)) → g ≡ get_or gs i 0 → FormedAs n g x p r → next ≡ placed_count r size
      → kept' ≡ placed_gate r g kept size → prints' ≡ placed_print r prints size
      → TwoSifted (unfit n x) (candidate_print n x) gs kept₀ prints₀ kept' prints' next (i + 1)
  two_put {g} {next} {p} {kept'} {prints'} r q f a b c =
      subst (λ (z : ℕ). TwoSifted (unfit n x) (candidate_print n x) gs kept₀ prints₀ kept' prints' z (i + 1)) (sym a)
      (subst (λ (z : List ℕ). TwoSifted (unfit n x) (candidate_print n x) gs kept₀ prints₀ z prints' (placed_count r size) (i + 1)) (sym b)
      (subst (λ (z : List ℕ). TwoSifted (unfit n x) (candidate_print n x) gs kept₀ prints₀ (placed_gate r g kept size) z (placed_count r size) (i + 1)) (sym c) (put r q f)))
