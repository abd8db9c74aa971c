-- A matrix copied to another array's places: it is the same matrix, and ready for a gate. Assumes nothing.
use mathlib.Core.Path.{◌≡◌, refl, sym, ◌∙◌, subst}
use mathlib.Core.Logic.{⊎_elim}
use mathlib.Core.List.{List}
use Rattle.std.specs.Prelude.{Option, Some, None}
use Prim.Native.Nat.{ℕ, ◌+◌, ◌*◌, ◌^◌, ◌≤◌, ◌<◌}
use native.Mathlib.Omega.{arith}
use lib.IntN.{ℤ, pos}
use lib.ListN.{length, get_or, set, length-set}
use lib.Seq.{get_or-set_same, get_or-set_other}
use Rattle.cyclotomic.specs.Zomega.{Small}
use Rattle.cyclotomic.proofs.Each.{each}
use Rattle.exact.proofs.Words.{Equal, AllSmall}
use Rattle.exact.specs.Matrix.{Exact}
use Rattle.exact.specs.Rows.{gate_of}
use Rattle.exact.proofs.Answered.{step_given, step_refused}
use Rattle.exact.proofs.Keeps.{equal_lowest, act_equal'}
use Rattle.exact.proofs.Phases.{flat_lt}
use Rattle.exact.proofs.Values.{equal_sym, equal_trans}
use Rattle.exact.proofs.Coded.{proper}
use Rattle.exact.specs.Places.{entry, read, held}
use Rattle.places.specs.Places.{places}
use Rattle.places.specs.Held.{Holds, Ready}
use Rattle.steps.specs.Step.{Stepped}
use Rattle.walk.proofs.Sequences.{lt_or}
use Rattle.node_matrix.specs.Matrices.{Copied, CopiedOn, OnCopy}
use Rattle.node_matrix.proofs.Prints.{fits_alike}

-- ---- place by place

pub copied_none : (from old : List ℤ) → Copied from old old 0
copied_none from old = record { long = refl; first = λ j h. absurd (omega arith) }

module _ {from old new : List ℤ} {i : ℕ} (w : Copied from old new i) where
  -- x: the other list's place i, as the code reads it
  pub copied_more : {x : ℤ} → i < length old → x ≡ get_or from i (pos 0) → Copied from old (set new i x) (i + 1)
  copied_more {x} h e = record {
    long = length-set new i x ∙ w.long;
    first = λ j l.
        ⊎_elim (λ (a : j < i). get_or-set_other new i j x (pos 0) (λ q. omega arith) ∙ w.first j a)
        (λ (a : i ≤ j). let q : j ≡ i = omega arith in rw q (get_or-set_same new i x (pos 0) (omega (arith, w.long)) ∙ e))
        (lt_or j i);
  }

  pub copied_to : (m : ℕ) → m ≤ i → Copied from old new m
  copied_to m h = record { long = w.long; first = λ j l. w.first j (omega arith) }

-- and from a start on
pub on_none : (from old : List ℤ) (start : ℕ) → CopiedOn from old old start start
on_none from old start = record { by = λ l w. w }

pub on_more : {from old new : List ℤ} {start i : ℕ} → CopiedOn from old new start i → {x : ℤ} → i < length old → x ≡ get_or from i (pos 0)
    → CopiedOn from old (set new i x) start (i + 1)
on_more u h e = record { by = λ l w. copied_more (u.by l w) (omega (arith, w.long)) e }

pub on_to : {from old new : List ℤ} {start i : ℕ} → CopiedOn from old new start i → (m : ℕ) → m ≤ i → CopiedOn from old new start m
on_to u m h = record { by = λ l w. copied_to (u.by l w) m h }

-- ---- the matrix

module _ (n : ℕ) {from old new : List ℤ} (w : Copied from old new (4 * (2 ^ n * 2 ^ n))) where
  same_entry : (e : ℕ) → e < 2 ^ n * 2 ^ n → entry new e ≡ entry from e
  unfolding entry
  same_entry e h =
      each (w.first (4 * e) (omega arith)) (w.first (4 * e + 1) (omega arith)) (w.first (4 * e + 2) (omega arith)) (w.first (4 * e + 3) (omega arith))

  pub copied_equal : (k : ℕ) → Equal n (held n k new) (held n k from)
  copied_equal k = record { exponent = refl; entries = λ r c p q. same_entry (r * 2 ^ n + c) (flat_lt n r c p q) }

  small : AllSmall n (read n from) → AllSmall n (read n new)
  small s = record { small = λ r c p q. subst Small (sym (same_entry (r * 2 ^ n + c) (flat_lt n r c p q))) (s.small r c p q) }

  pub copied_ready : (k : ℕ) → length old ≡ places → Ready n k from → Ready n k new
  copied_ready k l h = record { long = w.long ∙ l; small = small h.small; lowest = equal_lowest n (equal_sym n (copied_equal k)) h.lowest }

  pub copied_holds : (k : ℕ) {x : Exact} → length old ≡ places → Holds n k from x → Holds n k new x
  copied_holds k l h = record { long = w.long ∙ l; equal = equal_trans n (copied_equal k) h.equal; small = small h.small }

-- ---- a gate that was applied to the copy

module _ (n g k : ℕ) {from old new l : List ℤ} (w : Copied from old new (4 * (2 ^ n * 2 ^ n))) where
  pub on_copy : (r : Option ℕ) → Stepped n k (gate_of n g) new l r → OnCopy n g (held n k from) l r
  on_copy (Some j) s = (
    sym (fits_alike n g (copied_equal n w k)) ∙ step_given _ _ _ s.answer,
    record {
      long = s.left.long;
      equal = equal_trans n s.left.equal (act_equal' n (gate_of n g) (copied_equal n w k) (proper n g));
      small = s.left.small;
    },
  )
  on_copy None s = sym (fits_alike n g (copied_equal n w k)) ∙ step_refused _ _ _ s.answer

  pub copy_long : (r : Option ℕ) → Stepped n k (gate_of n g) new l r → length l ≡ places
  copy_long (Some j) s = s.left.long
  copy_long None s = s.left.long
