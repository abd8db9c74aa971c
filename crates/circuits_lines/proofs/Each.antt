-- Laws of texts put one after the other in a loop. Assumes nothing.
use mathlib.Core.List.{List, [], ◌∷◌, ◌++◌, append-nil}
use mathlib.Core.Path.{◌≡◌, refl, sym, ap, ◌∙◌}
use Prim.Native.Nat.{ℕ, ◌+◌, ◌≤◌, ◌<◌}
use native.Mathlib.Nat.{add-zero}
use native.Mathlib.Numerals.{add-one}
use native.Mathlib.Omega.{arith}
use lib.ListN.{length, get_or, take, drop, length-append, take-append-drop}
use lib.Seq.{take-suc, get_or-drop}
use Rattle.ints.specs.Lists.{each}
use Rattle.ints.proofs.Runs.{each_none, each_more, each_append}
use Rattle.circuits_text.specs.Writing.{decimal, Put}
use Rattle.circuits_text.proofs.Placing.{put_as, then_put, decimal_short}
use Rattle.circuits_lines.specs.Lines.{number_then, node_line, node_lines, spaced_code, spaced_codes}

-- ---- a 32-bit number has at most ten digits
pub short : (n after : ℕ) {at p : ℕ} {old xs : List ℕ} → n < 4294967296 → Put at (number_then n after) p old xs → p ≤ at + 11
short n after h d = omega (arith, decimal_short 9 n (omega (arith, h)), d.after, length-append (decimal n) (after ∷ []))

-- ---- one line, one code more
pub nodes_none : (parents codes : List ℕ) → [] ≡ node_lines parents codes 0
unfolding node_lines
nodes_none parents codes = sym (each_none _)

-- the nodes stand from a place on
pub nodes_more :
    (parents codes : List ℕ) (start i : ℕ) →
    node_lines (drop start parents) (drop start codes) i ++ node_line i (get_or parents (start + i) 0) (get_or codes (start + i) 0)
    ≡ node_lines (drop start parents) (drop start codes) (i + 1)
unfolding node_lines
nodes_more parents codes start i =
    rw (← get_or-drop start parents i 0, ← get_or-drop start codes i 0)
    (sym (each_more i (λ j. node_line j (get_or (drop start parents) j 0) (get_or (drop start codes) j 0))))

pub each_one : (x : ℕ) (f : ℕ → List ℕ) → each (x ∷ []) f ≡ f x
unfolding each
each_one x f = append-nil (f x)

pub codes_none : [] ≡ spaced_codes []
unfolding spaced_codes each
codes_none = refl

pub codes_more : (codes : List ℕ) (i : ℕ) → i < length codes → spaced_codes (take i codes) ++ spaced_code (get_or codes i 0) ≡ spaced_codes (take (i + 1) codes)
unfolding spaced_codes
codes_more codes i h =
    let e : take (i + 1) codes ≡ take i codes ++ (get_or codes i 0 ∷ []) = rw (add-one, take-suc codes i 0) in
    sym (ap (λ (l : List ℕ). each l spaced_code) e
    ∙ (each_append (take i codes) (get_or codes i 0 ∷ []) spaced_code
    ∙ ap (λ (l : List ℕ). each (take i codes) spaced_code ++ l) (each_one (get_or codes i 0) spaced_code)))

-- ---- what a loop keeps: the text so far is put
pub record Laid (text : List ℕ) (at p : ℕ) (old xs : List ℕ) : Type 0 where
  pub put : Put at text p old xs
  pub size : length xs ≡ length old

pub laid_none : {text : List ℕ} {at : ℕ} {old : List ℕ} → [] ≡ text → at ≤ length old → Laid text at at old old
laid_none {text} {at} {old} e h =
    record { put = put_as e (record { is = sym (rw add-zero (take-append-drop at old)); after = omega arith; room = h }); size = refl }

pub laid_on :
    {text more both : List ℕ} {at p q : ℕ} {old xs ys : List ℕ} →
    text ++ more ≡ both → Laid text at p old xs → Put p more q xs ys → length ys ≡ length xs → Laid both at q old ys
laid_on e l d s = record { put = put_as e (then_put l.put d); size = s ∙ l.size }
