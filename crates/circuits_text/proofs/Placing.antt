-- Laws of writing: bytes put one after the other, a number's digits, a signed number's size. Assumes nothing.
use mathlib.Core.Bool.{Bool, true, false}
use mathlib.Core.List.{List, [], ◌∷◌, ◌++◌, append_assoc, append-nil}
use mathlib.Core.Logic.{◌⊎◌, inl, inr, ⊎_elim}
use mathlib.Core.Path.{◌≡◌, refl, sym, ap, ◌∙◌, subst}
use Prim.Native.Nat.{ℕ, zero, suc, ◌+◌, ◌-◌, ◌/◌, ◌%◌, ◌^◌, ◌≤◌, ◌<◌}
use native.Mathlib.Nat.{add-zero, pow-suc}
use native.Mathlib.Numerals.{add-one}
use native.Mathlib.Omega.{arith}
use borrow.Author.Tests.{lt-ltb, le-ltb, ltb-true, ltb-false}
use lib.Dec.{ltb}
use lib.IntN.{ℤ, pos, negsuc, nat_abs}
use lib.ListN.{length, get_or, set, take, drop, length-append, length-drop, length-set, take-append-drop}
use lib.Seq.{length-take-le, take-suc, set_at, set_split, take_at, drop-append-add, drop-drop}
use lib.Signed.{lt_z}
use mir.Syntax.{w32}
use mir.Val.{SFits}
use Rattle.ints.specs.Lists.{pick}
use Rattle.ints.proofs.Bools.{clash}
use Rattle.circuits_text.specs.Writing.{glyph, decimal_in, decimal, signed, hex_in, bytes_at, Put}

-- ---- bytes in places
pub put_length : (at : ℕ) (l xs : List ℕ) → at + length l ≤ length xs → length (bytes_at at l xs) ≡ length xs
put_length at l xs h =
    let a : length (take at xs) ≡ at = length-take-le at xs (omega arith) in
    simp (length-append, length-drop) (omega arith)

put_none : (at : ℕ) (xs : List ℕ) → bytes_at at [] xs ≡ xs
put_none at xs = rw add-zero (take-append-drop at xs)

-- one byte
pub put_one : (at b : ℕ) (xs : List ℕ) → at < length xs → Put at (b ∷ []) (at + 1) xs (set xs at b)
put_one at b xs h = record { is = rw add-one (set_split xs at b h); after = refl; room = omega arith }

-- one byte more, in front
put_front : (p b : ℕ) (l xs : List ℕ) → p < length xs → set (bytes_at (suc p) l xs) p b ≡ bytes_at p (b ∷ l) xs
put_front p b l xs h =
    let a : length (take p xs) ≡ p = length-take-le p xs (omega arith) in
    let m : p + suc (length l) ≡ suc p + length l = omega arith in
    rw (take-suc xs p 0, append_assoc, set_at (take p xs) (get_or xs p 0) (l ++ drop (suc p + length l) xs) b p a, m)

put_put : (at : ℕ) (l m xs : List ℕ) → at + length l ≤ length xs → bytes_at (at + length l) m (bytes_at at l xs) ≡ bytes_at at (l ++ m) xs
put_put at l m xs h =
    let a : length (take at xs) ≡ at = length-take-le at xs (omega arith) in
    let e : length (take at xs ++ l) ≡ at + length l = length-append (take at xs) l ∙ ap (λ (n : ℕ). n + length l) a in
    let x = take at xs ++ l in
    let d = drop (at + length l) xs in
    let g : bytes_at at l xs ≡ x ++ d = sym (append_assoc (take at xs) l d) in
    let t : take (at + length l) (bytes_at at l xs) ≡ x = ap (take (at + length l)) g ∙ take_at x d (at + length l) e in
    let r : drop (at + length l + length m) (bytes_at at l xs) ≡ drop (at + length l + length m) xs =
    ap (drop (at + length l + length m)) g
    ∙ (ap (λ (n : ℕ). drop (n + length m) (x ++ d)) (sym e) ∙ (drop-append-add x d (length m) ∙ drop-drop (length m) (at + length l) xs)) in
    let q : at + length (l ++ m) ≡ at + length l + length m = omega (arith, length-append l m) in
    ap (λ (u : List ℕ). u ++ (m ++ drop (at + length l + length m) (bytes_at at l xs))) t
    ∙ (ap (λ (u : List ℕ). x ++ (m ++ u)) r
    ∙ (append_assoc (take at xs) l (m ++ drop (at + length l + length m) xs)
    ∙ ap (λ (u : List ℕ). take at xs ++ u)
    (sym (append_assoc l m (drop (at + length l + length m) xs)) ∙ ap (λ (n : ℕ). (l ++ m) ++ drop n xs) (sym q))))

-- one after the other
pub then_put : {at p q : ℕ} {l m xs ys zs : List ℕ} → Put at l p xs ys → Put p m q ys zs → Put at (l ++ m) q xs zs
then_put {at} {p} {q} {l} {m} {xs} {ys} {zs} a b =
    let h : at + length l ≤ length xs = omega (arith, a.after, a.room) in
    let n : length ys ≡ length xs = ap length a.is ∙ put_length at l xs h in
    record {
      is = b.is ∙ (ap (bytes_at p m) a.is ∙ (ap (λ (k : ℕ). bytes_at k m (bytes_at at l xs)) a.after ∙ put_put at l m xs h));
      after = omega (arith, a.after, b.after, length-append l m);
      room = omega (arith, b.room, n);
    }

-- the same bytes under another name
pub put_as : {at p : ℕ} {l m xs ys : List ℕ} → l ≡ m → Put at l p xs ys → Put at m p xs ys
put_as {at} {p} {l} {m} {xs} {ys} e d = subst (λ (u : List ℕ). Put at u p xs ys) e d

-- ---- decimal digits
pick_else : {A : Type 0} (b : Bool) (x y z : A) → (b ≡ false → y ≡ z) → pick b x y ≡ pick b x z
pick_else true x y z h = refl
pick_else false x y z h = h refl

-- any bound above the number gives the same digits
bounds_agree : (f g n : ℕ) → n < f → n < g → decimal_in f n ≡ decimal_in g n
unfolding decimal_in
bounds_agree zero g n h k = absurd (omega arith)
bounds_agree (suc f) zero n h k = absurd (omega arith)
bounds_agree (suc f) (suc g) n h k =
    pick_else (ltb n 10) (glyph n ∷ []) _ _
    (λ t. let l = ltb-false n 10 t in ap (λ (r : List ℕ). r ++ (glyph (n % 10) ∷ [])) (bounds_agree f g (n / 10) (omega arith) (omega arith)))

pub decimal_small : (n : ℕ) → n < 10 → decimal n ≡ glyph n ∷ []
unfolding decimal decimal_in
decimal_small n h = rw (lt-ltb n 10 h)

pub decimal_more : (n : ℕ) → 10 ≤ n → decimal n ≡ decimal (n / 10) ++ (glyph (n % 10) ∷ [])
unfolding decimal decimal_in
decimal_more n h =
    rw (le-ltb n 10 h) (ap (λ (r : List ℕ). r ++ (glyph (n % 10) ∷ [])) (bounds_agree n (suc (n / 10)) (n / 10) (omega arith) (omega arith)))

pub decimal_length : (n : ℕ) → 10 ≤ n → length (decimal n) ≡ length (decimal (n / 10)) + 1
decimal_length n h = ap length (decimal_more n h) ∙ length-append (decimal (n / 10)) (glyph (n % 10) ∷ [])

by_test : (n m : ℕ) (b : Bool) → ltb n m ≡ b → (n < m) ⊎ (m ≤ n)
by_test n m true e = inl (ltb-true n m e)
by_test n m false e = inr (ltb-false n m e)

-- a number below 10^k has at most k digits
pub decimal_short : (k n : ℕ) → n < 10 ^ suc k → length (decimal n) ≤ suc k
decimal_short zero n h = rw (decimal_small n (omega (arith, pow-suc 10 0))) (omega arith)
decimal_short (suc k) n h =
    ⊎_elim
    (λ (l : n < 10). rw (decimal_small n l) (omega arith))
    (λ (l : 10 ≤ n). omega (arith, decimal_length n l, decimal_short k (n / 10) (omega (arith, pow-suc 10 (suc k)))))
    (by_test n 10 (ltb n 10) refl)

pub put_digit : {at n b p : ℕ} {xs ys : List ℕ} → n < 10 → b ≡ glyph n → Put at (b ∷ []) p xs ys → Put at (decimal n) p xs ys
put_digit {at} {n} {b} h e d = rw (decimal_small n h, ← e) d

pub put_last :
    {at n b p q : ℕ} {xs ys zs : List ℕ} →
    10 ≤ n → b ≡ glyph (n % 10) → Put at (decimal (n / 10)) p xs ys → Put p (b ∷ []) q ys zs → Put at (decimal n) q xs zs
put_last {at} {n} {b} h e d l = rw (decimal_more n h, ← e) (then_put d l)

-- ---- signed numbers
pub signed_below : (x : ℤ) → lt_z x (pos 0) ≡ true → signed x ≡ (45 ∷ []) ++ decimal (nat_abs x)
unfolding signed
signed_below (pos n) h = absurd (omega (arith, ltb-true n 0 h))
signed_below (negsuc n) h = refl

pub signed_else : (x : ℤ) → lt_z x (pos 0) ≡ false → signed x ≡ decimal (nat_abs x)
unfolding signed
signed_else (pos n) h = refl
signed_else (negsuc n) h = clash refl h

-- the size of a 32-bit number has at most ten digits
pub size_short : (x : ℤ) (n : ℕ) → SFits w32 x → n ≡ nat_abs x → length (decimal n) ≤ 10
size_short (pos k) n f e = decimal_short 9 n (omega (arith, f.sfits))
size_short (negsuc k) n f e = decimal_short 9 n (omega (arith, f.sfits))

-- ---- hexadecimal digits
-- what the loop from the last digit to the first keeps: the digits from i on are in their places
pub record Hexing (old : List ℕ) (at n : ℕ) (xs : List ℕ) (rest i : ℕ) : Type 0 where
  pub tail : List ℕ
  pub count : i + length tail ≡ 16
  pub splits : hex_in 16 n ≡ hex_in i rest ++ tail
  pub holds : xs ≡ bytes_at (at + i) tail old
  pub size : length xs ≡ length old

pub hex_none : (old : List ℕ) (at n : ℕ) → Hexing old at n old n 16
hex_none old at n = record { tail = []; count = refl; splits = sym (append-nil _); holds = sym (put_none (at + 16) old); size = refl }

module _ {old xs : List ℕ} {at n rest i : ℕ} (h : Hexing old at n xs rest i) (room : at + 16 ≤ length old) where
  pub hex_on : (b : ℕ) → 0 < i → b ≡ glyph (rest % 16) → Hexing old at n (set xs (at + (i - 1)) b) (rest / 16) (i - 1)
  unfolding hex_in
  hex_on b l e =
      let j = i - 1 in
      let s : i ≡ suc j = omega arith in
      let c = h.count in
      let p : at + i ≡ suc (at + j) = omega arith in
      record {
        tail = b ∷ h.tail;
        count = omega arith;
        splits =
            h.splits
            ∙ (ap (λ (k : ℕ). hex_in k rest ++ h.tail) s
            ∙ (append_assoc (hex_in j (rest / 16)) (glyph (rest % 16) ∷ []) h.tail ∙ ap (λ (d : ℕ). hex_in j (rest / 16) ++ (d ∷ h.tail)) (sym e)));
        holds =
            ap (λ (l : List ℕ). set l (at + j) b) (h.holds ∙ ap (λ (k : ℕ). bytes_at k h.tail old) p)
            ∙ put_front (at + j) b h.tail old (omega arith);
        size = length-set xs (at + j) b ∙ h.size;
      }

  pub hex_done : i ≤ 0 → Put at (hex_in 16 n) (at + 16) old xs
  unfolding hex_in
  hex_done l =
      let z : i ≡ 0 = omega arith in
      let c = h.count in
      let t : hex_in 16 n ≡ h.tail = h.splits ∙ ap (λ (k : ℕ). hex_in k rest ++ h.tail) z in
      let a : at + i ≡ at = omega arith in
      record {
        is = h.holds ∙ (ap (λ (k : ℕ). bytes_at k h.tail old) a ∙ ap (λ (m : List ℕ). bytes_at at m old) (sym t));
        after = omega (arith, ap length t);
        room = room;
      }
