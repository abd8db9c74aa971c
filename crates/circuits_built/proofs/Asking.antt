-- What the loop over the queries keeps: the text of the lines passed is put, and what is left is the text of the lines
-- from the place reached. Assumes nothing.
use mathlib.Core.List.{List, [], ◌∷◌, ◌++◌, append_assoc, append-nil}
use mathlib.Core.Path.{◌≡◌, refl, sym, ap, ◌∙◌}
use Prim.Native.Nat.{ℕ, suc, ◌+◌, ◌-◌, ◌*◌, ◌≤◌, ◌<◌}
use native.Mathlib.Nat.{add-zero}
use native.Mathlib.Omega.{arith}
use lib.ListN.{length, take, drop, length-drop, take-append-drop, drop_of_length-le}
use lib.Seq.{drop-drop}
use Rattle.tables.specs.Checks.{Arrays}
use Rattle.tables.specs.Tables.{Table}
use Rattle.circuits_text.specs.Reading.{newline, before}
use Rattle.circuits_text.specs.Writing.{Put}
use Rattle.circuits_text.proofs.Split.{before_take}
use Rattle.circuits_text.proofs.Placing.{put_as, then_put}
use Rattle.circuits_lines.specs.Lines.{refused_line}
use Rattle.circuits_input.specs.Input.{InputLine, ended, cut, lines_of}
use Rattle.circuits_input.proofs.InputLines.{lines_none, lines_more, lines_last}
use Rattle.circuits_parts.specs.Texts.{query_text, query_texts}
use Rattle.circuits_built.proofs.Rooms.{cut_text, query_room}

module _ (t : Table) (m : Arrays) where
  texts_none : query_texts t m [] ≡ []
  unfolding query_texts
  texts_none = refl

  texts_more : (l : InputLine) (ls : List InputLine) → query_texts t m (l ∷ ls) ≡ query_text t m l ++ query_texts t m ls
  unfolding query_texts
  texts_more l ls = refl

pub record Asking (t : Table) (m : Arrays) (input : List ℕ) (at : ℕ) (old xs : List ℕ) (p i : ℕ) : Type 0 where
  pub text : List ℕ
  pub put : Put at text p old xs
  pub splits : query_texts t m (lines_of input) ≡ text ++ query_texts t m (lines_of (drop i input))
  pub size : length xs ≡ length old
  pub room : p ≤ at + 187 * i
  pub place : i ≤ length input

-- no line is passed
pub asking_none :
    (t : Table) (m : Arrays) (input : List ℕ) {old : List ℕ} {at : ℕ} → at ≤ length old → Asking t m input at old old at 0
asking_none t m input {old} {at} h = record {
  text = [];
  put = record { is = sym (rw add-zero (take-append-drop at old)); after = omega arith; room = h };
  splits = refl;
  size = refl;
  room = omega arith;
  place = omega arith;
}

module _ {t : Table} {m : Arrays} {input old xs : List ℕ} {at p i : ℕ} (a : Asking t m input at old xs p i) where
  -- none is left
  pub asking_done : length input ≤ i → Put at (query_texts t m (lines_of input)) p old xs
  asking_done h =
      let e : query_texts t m (lines_of (drop i input)) ≡ [] =
      ap (λ (bs : List ℕ). query_texts t m (lines_of bs)) (drop_of_length-le input {i = i} h) ∙ (ap (query_texts t m) lines_none ∙ texts_none t m) in
      put_as (sym (a.splits ∙ (ap (λ (bs : List ℕ). a.text ++ bs) e ∙ append-nil a.text))) a.put

  module _ (e : ℕ) (ends : e ≡ i + length (before newline (drop i input))) (more : i < length input) where
    left : length (drop i input) ≡ length input - i
    left = length-drop i input

    -- the last lacks its newline
    pub asking_cut : {q : ℕ} {ys : List ℕ} → length input ≤ e → Put p (refused_line 14 0) q xs ys → Put at (query_texts t m (lines_of input)) q old ys
    asking_cut h d =
        let c : lines_of (drop i input) ≡ cut (before newline (drop i input)) ∷ [] =
        lines_last (drop i input) (omega (arith, left)) (omega (arith, left)) in
        let f : query_texts t m (lines_of (drop i input)) ≡ refused_line 14 0 =
        ap (query_texts t m) c ∙ (texts_more t m (cut (before newline (drop i input))) []
        ∙ (ap (λ (bs : List ℕ). query_text t m (cut (before newline (drop i input))) ++ bs) (texts_none t m)
        ∙ (append-nil (query_text t m (cut (before newline (drop i input)))) ∙ cut_text t m (before newline (drop i input))))) in
        put_as (sym (a.splits ∙ ap (λ (bs : List ℕ). a.text ++ bs) f)) (then_put a.put d)

    -- one line more
    pub asking_on :
        {q : ℕ} {ys : List ℕ} → e < length input → Put p (query_text t m (ended (take (e - i) (drop i input)))) q xs ys →
        q ≤ p + 746 → length ys ≡ length xs → Asking t m input at old ys q (e + 1)
    asking_on {q} {ys} h d b s =
        let n = length (before newline (drop i input)) in
        let c : e - i ≡ n = omega arith in
        let line : take (e - i) (drop i input) ≡ before newline (drop i input) =
        ap (λ (k : ℕ). take k (drop i input)) c ∙ before_take newline (drop i input) in
        let l : lines_of (drop i input) ≡ ended (before newline (drop i input)) ∷ lines_of (drop (suc n) (drop i input)) =
        lines_more (drop i input) (omega (arith, left)) in
        let u : i + suc n ≡ e + 1 = omega arith in
        let r : drop (suc n) (drop i input) ≡ drop (e + 1) input = drop-drop (suc n) i input ∙ ap (λ (k : ℕ). drop k input) u in
        let w = query_text t m (ended (take (e - i) (drop i input))) in
        let f : query_texts t m (lines_of (drop i input)) ≡ w ++ query_texts t m (lines_of (drop (e + 1) input)) =
        ap (query_texts t m) l ∙ (texts_more t m (ended (before newline (drop i input))) (lines_of (drop (suc n) (drop i input)))
        ∙ (ap (λ (bs : List ℕ). query_text t m (ended bs) ++ query_texts t m (lines_of (drop (suc n) (drop i input)))) (sym line)
        ∙ ap (λ (bs : List ℕ). w ++ query_texts t m (lines_of bs)) r)) in
        let k = query_room t m (take (e - i) (drop i input)) (omega (arith, d.after)) in
        let z : length (take (e - i) (drop i input)) ≡ e - i = ap length line ∙ sym c in
        record {
          text = a.text ++ w;
          put = then_put a.put d;
          splits = a.splits ∙ (ap (λ (bs : List ℕ). a.text ++ bs) f ∙ sym (append_assoc a.text w (query_texts t m (lines_of (drop (e + 1) input)))));
          size = s ∙ a.size;
          room = omega (arith, a.room, d.after, k, z);
          place = omega arith;
        }
