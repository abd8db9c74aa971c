-- Gates that a test does not skip, kept by a loop in the first places of an array: the loop may read the gates from the
-- same array, ahead of where it writes. Assumes nothing.
use mathlib.Core.Path.{◌≡◌, refl, sym, ap, ◌∙◌}
use mathlib.Core.Bool.{Bool, true, false, ◌||◌}
use mathlib.Core.List.{List, [], ◌∷◌, ◌++◌, map, append_assoc, append-nil, Memᴰ}
use Prim.Native.Nat.{ℕ, suc, ◌+◌, ◌≤◌, ◌<◌}
use native.Mathlib.Numerals.{add-one}
use native.Mathlib.Omega.{arith}
use lib.ListN.{length, get_or, set, take, drop, length-set, drop_of_length-le}
use lib.Seq.{drop-cons, take-suc-set, take-set-le, get_or-set_other}
use Rattle.ints.specs.Lists.{pick}
use Rattle.skip_rules.specs.Skips.{unskipped}

-- ---- lists

unskipped_cons : (skip : ℕ → Bool) (g : ℕ) (gs : List ℕ) (b : Bool) → skip g ≡ b → unskipped skip (g ∷ gs) ≡ pick b (unskipped skip gs) (g ∷ unskipped skip gs)
unskipped_cons skip g gs b e = ap (λ (t : Bool). pick t (unskipped skip gs) (g ∷ unskipped skip gs)) e

-- what is left is of the list, and is not skipped
pub unskipped_mem : (skip : ℕ → Bool) (gs : List ℕ) (g : ℕ) → Memᴰ g (unskipped skip gs) → (Memᴰ g gs) × (skip g ≡ false)
unskipped_mem skip [] g m = elim m [ ]
unskipped_mem skip (h ∷ gs) g m = by (skip h) refl (unskipped_mem skip gs g) m
  where
    by : (b : Bool) → skip h ≡ b → (Memᴰ g (unskipped skip gs) → (Memᴰ g gs) × (skip g ≡ false)) → Memᴰ g (pick b (unskipped skip gs) (h ∷ unskipped skip gs))
        → (Memᴰ g (h ∷ gs)) × (skip g ≡ false)
    by true e r i = (Memᴰ.tail (r i).0, (r i).1)
    by false e r (Memᴰ.head q) = (Memᴰ.head q, ap skip q ∙ e)
    by false e r (Memᴰ.tail i) = (Memᴰ.tail (r i).0, (r i).1)

-- one test after the other is both
pub unskipped_both : (p q : ℕ → Bool) (gs : List ℕ) → unskipped q (unskipped p gs) ≡ unskipped (λ g. p g || q g) gs
unskipped_both p q [] = refl
unskipped_both p q (g ∷ gs) = by (p g) refl (unskipped_both p q gs)
  where
    by : (b : Bool) → p g ≡ b → unskipped q (unskipped p gs) ≡ unskipped (λ h. p h || q h) gs → unskipped q (unskipped p (g ∷ gs)) ≡ unskipped (λ h. p h || q h) (g ∷ gs)
    by true e on = rw e on
    by false e on = rw e (ap (λ (z : List ℕ). pick (q g) z (g ∷ z)) on)

pub map_same : (gs : List ℕ) → map (λ g. g) gs ≡ gs
map_same [] = refl
map_same (g ∷ gs) = ap (λ (z : List ℕ). g ∷ z) (map_same gs)

-- ---- the loop: i gates are passed, and what y says of those of them that are left stands in the first places

pub record Sifted (skip : ℕ → Bool) (y : ℕ → ℕ) (gs old new : List ℕ) (size i : ℕ) : Type 0 where
  pub rest : take size new ++ map y (unskipped skip (drop i gs)) ≡ map y (unskipped skip gs)
  pub few : size ≤ i
  pub long : length new ≡ length old
  pub after : (j : ℕ) → i ≤ j → get_or new j 0 ≡ get_or old j 0

pub sifted_none : (skip : ℕ → Bool) (y : ℕ → ℕ) (gs old : List ℕ) → Sifted skip y gs old old 0 0
sifted_none skip y gs old = record { rest = refl; few = omega arith; long = refl; after = λ j l. refl }

module _ {skip : ℕ → Bool} {y : ℕ → ℕ} {gs old new : List ℕ} {size i : ℕ} (w : Sifted skip y gs old new size i) (l : i < length gs) where
  abbrev later : List ℕ → List ℕ
  later hs = map y (unskipped skip hs)

  out_later : skip (get_or gs i 0) ≡ true → later (drop (suc i) gs) ≡ later (drop i gs)
  out_later e = ap (map y) (sym (unskipped_cons skip (get_or gs i 0) (drop (suc i) gs) true e)) ∙ ap later (sym (drop-cons gs i 0 l))

  in_later : skip (get_or gs i 0) ≡ false → y (get_or gs i 0) ∷ later (drop (suc i) gs) ≡ later (drop i gs)
  in_later e = ap (map y) (sym (unskipped_cons skip (get_or gs i 0) (drop (suc i) gs) false e)) ∙ ap later (sym (drop-cons gs i 0 l))

  -- the gate is skipped, and nothing is stored
  pub sifted_skip : skip (get_or gs i 0) ≡ true → Sifted skip y gs old new size (i + 1)
  sifted_skip e = record {
    rest = ap (λ (j : ℕ). take size new ++ later (drop j gs)) (add-one i) ∙ ap (λ (z : List ℕ). take size new ++ z) (out_later e) ∙ w.rest;
    few = omega (arith, w.few);
    long = w.long;
    after = λ j m. w.after j (omega arith);
  }

  stored_after : (v j : ℕ) → i + 1 ≤ j → get_or (set new size v) j 0 ≡ get_or old j 0
  stored_after v j m = get_or-set_other new size j v 0 (λ q. omega (arith, w.few)) ∙ w.after j (omega arith)

  -- it is skipped, and what was stored does not count
  pub sifted_out : (v : ℕ) → skip (get_or gs i 0) ≡ true → Sifted skip y gs old (set new size v) size (i + 1)
  sifted_out v e = record {
    rest = ap (λ (z : List ℕ). z ++ later (drop (i + 1) gs)) (take-set-le size new size v (omega arith)) ∙ (sifted_skip e).rest;
    few = omega (arith, w.few);
    long = length-set new size v ∙ w.long;
    after = stored_after v;
  }

  -- it is left, and what was stored counts
  pub sifted_in : {v : ℕ} → v ≡ y (get_or gs i 0) → skip (get_or gs i 0) ≡ false → size < length old → Sifted skip y gs old (set new size v) (size + 1) (i + 1)
  sifted_in {v} q e r = record {
    rest = ap (λ (j : ℕ). take (size + 1) (set new size v) ++ later (drop j gs)) (add-one i)
        ∙ ap (λ (n : ℕ). take n (set new size v) ++ later (drop (suc i) gs)) (add-one size)
        ∙ ap (λ (z : List ℕ). z ++ later (drop (suc i) gs)) (take-suc-set new size v (omega (arith, w.long)))
        ∙ append_assoc (take size new) (v ∷ []) (later (drop (suc i) gs))
        ∙ ap (λ (x : ℕ). take size new ++ (x ∷ later (drop (suc i) gs))) q
        ∙ ap (λ (z : List ℕ). take size new ++ z) (in_later e) ∙ w.rest;
    few = omega (arith, w.few);
    long = length-set new size v ∙ w.long;
    after = stored_after v;
  }

pub sifted_all : {skip : ℕ → Bool} {y : ℕ → ℕ} {gs old new : List ℕ} {size i : ℕ} → Sifted skip y gs old new size i → length gs ≤ i
    → take size new ≡ map y (unskipped skip gs)
sifted_all {skip} {y} {gs} {old} {new} {size} {i} w l =
    sym (append-nil (take size new)) ∙ ap (λ (z : List ℕ). take size new ++ map y (unskipped skip z)) (sym (drop_of_length-le gs {i = i} l)) ∙ w.rest
