-- The gates of a good chain, written from the last place down along the way. Assumes nothing.
use mathlib.Core.Path.{◌≡◌, refl, sym, ap, ◌∙◌}
use mathlib.Core.List.{List, [], ◌∷◌, ◌++◌, append_assoc, append-nil}
use Rattle.std.specs.Prelude.{Result, Ok, Err, IsErr}
use Prim.Native.Nat.{ℕ, suc, ◌+◌, ◌-◌, ◌≤◌, ◌<◌}
use native.Mathlib.Omega.{arith}
use lib.ListN.{length, get_or, take, drop, set, length-append, length-set, take-append-drop}
use lib.Seq.{take-suc, set_at, length-take-le}
use Rattle.synthesis_arena.specs.Chains.{depth_of, told_circuit}
use Rattle.walk.specs.Answers.{outcome, written}
use Rattle.walk.specs.Answers as a
use Rattle.exact.specs.Answers as d
use Rattle.walk.specs.Chains.{good, chain_of}
use Rattle.synthesis_arena.specs.declared.BadChain.{BadChain}
use Rattle.walk.proofs.Chaining.{LastGate, link}
use Rattle.synthesis_arena.proofs.Depths.{deep, not_deep}

empty : (l : List ℕ) → length l ≡ 0 → l ≡ []
empty [] e = refl
empty (x ∷ l) e = absurd (omega arith)

module _ (n basis : ℕ) (parents codes : List ℕ) (limit node : ℕ) (old : List ℕ) where
  -- the first i gates of the chain are left to be written, of which the last is that of the node `at`; the others stand
  -- in their places
  pub record Writing (size i at : ℕ) (out : List ℕ) : Type 0 where
    pub rest : List ℕ
    pub done : List ℕ
    pub left : ℕ
    pub whole : chain_of n basis parents codes limit node ≡ good (rest ++ done)
    pub here : chain_of n basis parents codes left at ≡ good rest
    pub count : i ≡ length rest
    pub sum : size ≡ i + length done
    pub room : size ≤ length old
    pub in_parents : at < length parents
    pub in_codes : at < length codes
    pub long : length out ≡ length old
    pub is : out ≡ take (length rest) old ++ (done ++ drop size old)

  pub writing_none : {size : ℕ} → d.given size ≡ depth_of (chain_of n basis parents codes limit node) → node < length parents → node < length codes → limit ≤ length old → Writing size size node old
  writing_none h p q room =
      let k = deep n basis parents codes limit node h in
      record {
        rest = k.list;
        done = [];
        left = limit;
        whole = k.is ∙ ap good (sym (append-nil k.list));
        here = k.is;
        count = k.size;
        sum = omega arith;
        room = omega (arith, k.within);
        in_parents = p;
        in_codes = q;
        long = refl;
        is = sym (take-append-drop (length k.list) old) ∙ ap (λ (m : ℕ). take (length k.list) old ++ drop m old) (sym k.size);
      }

  module _ {size i at : ℕ} {out : List ℕ} (w : Writing size i at out) where
    pub writing_more : 0 < i → Writing size (i - 1) (get_or parents at 0) (set out (i - 1) (get_or codes at 0))
    writing_more h =
        let k : LastGate n basis parents codes w.left at w.rest = link n basis parents codes w.left at w.here (omega (arith, w.count)) in
        let g : ℕ = get_or codes at 0 in
        let m : ℕ = length k.rest in
        let behind : List ℕ = w.done ++ drop size old in
        let longer : length w.rest ≡ suc m = ap length k.split ∙ length-append k.rest (g ∷ []) ∙ omega arith in
        let place : i - 1 ≡ m = omega (arith, w.count) in
        record {
          rest = k.rest;
          done = g ∷ w.done;
          left = w.left - 1;
          whole = w.whole ∙ ap (λ (l : List ℕ). good (l ++ w.done)) k.split ∙ ap good (append_assoc k.rest (g ∷ []) w.done);
          here = k.before;
          count = place;
          sum = omega (arith, w.sum);
          room = w.room;
          in_parents = omega (arith, k.below, w.in_parents);
          in_codes = omega (arith, k.below, w.in_codes);
          long = rw (length-set out (i - 1) g) w.long;
          is = ap (λ (z : ℕ). set out z g) place
              ∙ ap (λ (z : List ℕ). set z m g) (w.is ∙ ap (λ (z : ℕ). take z old ++ behind) longer ∙ ap (λ (z : List ℕ). z ++ behind) (take-suc old m 0 (omega (arith, w.count, w.sum, w.room))) ∙ append_assoc (take m old) (get_or old m 0 ∷ []) behind)
              ∙ set_at (take m old) (get_or old m 0) behind g m (length-take-le m old (omega (arith, w.count, w.sum, w.room)));
        }

    pub writing_end : i ≡ 0 → outcome (a.given size) out ≡ written old (chain_of n basis parents codes limit node)
    writing_end h =
        let none : w.rest ≡ [] = empty w.rest (omega (arith, w.count)) in
        let e : size ≡ length w.done = omega (arith, w.sum) in
        ap (outcome (a.given size)) (w.is ∙ ap (λ (l : List ℕ). take (length l) old ++ (w.done ++ drop size old)) none)
        ∙ ap (λ (m : ℕ). outcome (a.given m) (w.done ++ drop m old)) e
        ∙ sym (ap (written old) (w.whole ∙ ap (λ (l : List ℕ). good (l ++ w.done)) none))

  pub written_not : d.refused 13 0 ≡ depth_of (chain_of n basis parents codes limit node) → (r : Result ℕ BadChain) → IsErr r → outcome (told_circuit r) old ≡ written old (chain_of n basis parents codes limit node)
  written_not h (Ok m) e = cc
  written_not h (Err b) e = sym (ap (written old) (not_deep n basis parents codes limit node h))
