-- What an array holds after the parts of widths 1 to Q were worked, each by what keeps its length: each part is as it
-- was worked, and the places behind the last are as they were. So of columns filled in: a filled place holds its
-- column's number, and all other places are as they were. Assumes nothing.
use mathlib.Core.Path.{◌≡◌, refl, sym, ap, ◌∙◌}
use mathlib.Core.List.{List, ◌++◌}
use mathlib.Core.Logic.{◌⊎◌, inl, inr}
use Prim.Native.Nat.{ℕ, suc, zero, ◌+◌, ◌-◌, ◌*◌, ◌/◌, ◌%◌, ◌≤◌, ◌<◌}
use native.Mathlib.Nat.{suc-mul, mul-le-mul_right, eq-or-lt_of_le, div-add-mod', mod-lt, div-lt_iff_lt-mul}
use native.Mathlib.Omega.{arith}
use lib.ListN.{length, get_or, take, drop, length-append, length-drop, get_or-append, take-append-drop}
use lib.Seq.{get_or-append-add, get_or-take, get_or-drop, length-take-le, take_at, drop_at, ext_get_or}
use Rattle.ints.specs.Lists.{over}
use Rattle.tables.specs.Tables.{within, parts_to, filled_to}

-- ---- places of two lists one after the other

in_second : (xs ys : List ℕ) (n k : ℕ) → length xs ≡ n → get_or (xs ++ ys) (n + k) 0 ≡ get_or ys k 0
in_second xs ys n k e = rw (← e) (get_or-append-add xs ys k 0)

in_first : (xs ys : List ℕ) (n k : ℕ) → length xs ≡ n → k < n → get_or (xs ++ ys) k 0 ≡ get_or xs k 0
in_first xs ys n k e h = get_or-append xs ys 0 k (omega arith)

-- ---- n places from a on, worked by g, which keeps their number

module _ (a n : ℕ) (g : List ℕ → List ℕ) (xs : List ℕ) (fits : a + n ≤ length xs) (keeps : length (g (take n (drop a xs))) ≡ n) where
  within_before : (k : ℕ) → k < a → get_or (within a n g xs) k 0 ≡ get_or xs k 0
  within_before k h = in_first (take a xs) _ a k (length-take-le a xs (omega arith)) h ∙ get_or-take a xs k 0 h

  within_after : (j : ℕ) → get_or (within a n g xs) (a + (n + j)) 0 ≡ get_or xs (a + (n + j)) 0
  within_after j =
      in_second (take a xs) _ a (n + j) (length-take-le a xs (omega arith)) ∙ in_second (g (take n (drop a xs))) _ n j keeps
      ∙ get_or-drop n (drop a xs) j 0 ∙ get_or-drop a xs (n + j) 0

  within_part : take n (drop a (within a n g xs)) ≡ g (take n (drop a xs))
  within_part =
      ap (take n) (drop_at (take a xs) (g (take n (drop a xs)) ++ drop n (drop a xs)) a (length-take-le a xs (omega arith)))
      ∙ take_at (g (take n (drop a xs))) (drop n (drop a xs)) n keeps

  within_length : length (within a n g xs) ≡ length xs
  within_length =
      let t = length-take-le a xs (omega arith) in
      simp (length-append, length-drop) (omega (arith, t, keeps))

pub part_length : (a n : ℕ) (xs : List ℕ) → a + n ≤ length xs → length (take n (drop a xs)) ≡ n
part_length a n xs h = length-take-le n (drop a xs) (simp length-drop (omega arith))

over_length : (new old : List ℕ) → length new ≤ length old → length (over new old) ≡ length old
over_length new old h = simp (length-append, length-drop) (omega arith)

-- what is already there changes nothing
over_same : (new old : List ℕ) → length new ≤ length old → ((j : ℕ) → j < length new → get_or old j 0 ≡ get_or new j 0) → over new old ≡ old
over_same new old h f =
    let l = length-take-le (length new) old h in
    let e : take (length new) old ≡ new = ext_get_or 0 (take (length new) old) new l
    (λ i p. get_or-take (length new) old i 0 (omega (arith, l)) ∙ f i (omega (arith, l))) in
    ap (λ (z : List ℕ). z ++ drop (length new) old) (sym e) ∙ take-append-drop (length new) old

-- past what is new the old stays
over_past : (new old : List ℕ) (j : ℕ) → length new ≤ j → get_or (over new old) j 0 ≡ get_or old j 0
over_past new old j h =
    let e : j ≡ length new + (j - length new) = omega arith in
    rw e (get_or-append-add new (drop (length new) old) (j - length new) 0 ∙ get_or-drop (length new) old (j - length new) 0)

-- width w + 1 has its places
pub room_at : (w Q E : ℕ) → w < Q → w * E + E ≤ Q * E
room_at w Q E h = rw (← suc-mul) (mul-le-mul_right E h)

-- ---- parts of n places, of widths 1 to Q

-- two lists that agree in the n places from a on have one part there
same_part : (a n : ℕ) (xs ys : List ℕ) → a + n ≤ length xs → a + n ≤ length ys → ((i : ℕ) → i < n → get_or xs (a + i) 0 ≡ get_or ys (a + i) 0)
    → take n (drop a xs) ≡ take n (drop a ys)
same_part a n xs ys h k e =
    let l = part_length a n xs h in
    ext_get_or 0 (take n (drop a xs)) (take n (drop a ys)) (l ∙ sym (part_length a n ys k))
    (λ i p. let q : i < n = omega (arith, l) in
    get_or-take n (drop a xs) i 0 q ∙ get_or-drop a xs i 0 ∙ e i q ∙ sym (get_or-take n (drop a ys) i 0 q ∙ get_or-drop a ys i 0))

-- where the part is as it was, all is
within_same : (a n : ℕ) (g : List ℕ → List ℕ) (xs : List ℕ) → g (take n (drop a xs)) ≡ take n (drop a xs) → within a n g xs ≡ xs
within_same a n g xs e =
    ap (λ (z : List ℕ). take a xs ++ (z ++ drop n (drop a xs))) e ∙ ap (λ (z : List ℕ). take a xs ++ z) (take-append-drop n (drop a xs))
    ∙ take-append-drop a xs

-- parts worked by what does not change them are as they were
pub parts_same : (g : ℕ → List ℕ → List ℕ) (n Q : ℕ) (old : List ℕ)
    → ((v : ℕ) → v < Q → g (suc v) (take n (drop (v * n) old)) ≡ take n (drop (v * n) old)) → parts_to g n Q old ≡ old
unfolding parts_to
parts_same g n zero old e = refl
parts_same g n (suc q) old e =
    ap (within (q * n) n (g (suc q))) (parts_same g n q old (λ v l. e v (omega arith))) ∙ within_same (q * n) n (g (suc q)) old (e q (omega arith))

-- parts worked alike
pub parts_cong : (g h : ℕ → List ℕ → List ℕ) (n Q : ℕ) (old : List ℕ) → ((v : ℕ) → v < Q → (xs : List ℕ) → g (suc v) xs ≡ h (suc v) xs)
    → parts_to g n Q old ≡ parts_to h n Q old
unfolding parts_to
parts_cong g h n zero old e = refl
parts_cong g h n (suc q) old e =
    ap (within (q * n) n (g (suc q))) (parts_cong g h n q old (λ v l. e v (omega arith)))
    ∙ ap (λ (z : List ℕ). take (q * n) to_here ++ (z ++ drop n (drop (q * n) to_here))) (e q (omega arith) (take n (drop (q * n) to_here)))
  where
    to_here : List ℕ
    to_here = parts_to h n q old

module _ (g : ℕ → List ℕ → List ℕ) (n : ℕ) (keeps : (w : ℕ) (xs : List ℕ) → length xs ≡ n → length (g w xs) ≡ n) where
  one_keeps : (a w : ℕ) (xs : List ℕ) → a + n ≤ length xs → length (g w (take n (drop a xs))) ≡ n
  one_keeps a w xs h = keeps w (take n (drop a xs)) (part_length a n xs h)

  -- an array has as many places as it had
  pub parts_length : (Q : ℕ) (old : List ℕ) → Q * n ≤ length old → length (parts_to g n Q old) ≡ length old
  unfolding parts_to
  parts_length zero old h = refl
  parts_length (suc q) old h =
      let r = room_at q (suc q) n (omega arith) in
      let l = parts_length q old (omega (arith, r)) in
      let f : q * n + n ≤ length (parts_to g n q old) = omega (arith, r, l) in
      within_length (q * n) n (g (suc q)) (parts_to g n q old) f (one_keeps (q * n) (suc q) _ f) ∙ l

  -- the places behind the last part are as they were (SPECIFICATION 6.11)
  pub parts_rest : (Q : ℕ) (old : List ℕ) (j : ℕ) → Q * n ≤ length old → get_or (parts_to g n Q old) (Q * n + j) 0 ≡ get_or old (Q * n + j) 0
  unfolding parts_to
  parts_rest zero old j h = refl
  parts_rest (suc q) old j h =
      let r = room_at q (suc q) n (omega arith) in
      let l = parts_length q old (omega (arith, r)) in
      let f : q * n + n ≤ length (parts_to g n q old) = omega (arith, r, l) in
      let s : suc q * n + j ≡ q * n + (n + j) = omega (arith, suc-mul q n) in
      rw s (within_after (q * n) n (g (suc q)) (parts_to g n q old) f (one_keeps (q * n) (suc q) _ f) j ∙ parts_rest q old (n + j) (omega (arith, r)))

  -- the part of width v + 1 is worked, and nothing else was done to it
  pub parts_part : (Q v : ℕ) (old : List ℕ) → Q * n ≤ length old → v < Q → take n (drop (v * n) (parts_to g n Q old)) ≡ g (suc v) (take n (drop (v * n) old))
  unfolding parts_to
  parts_part zero v old h lt = absurd (omega arith)
  parts_part (suc q) v old h lt = by (eq-or-lt_of_le (omega arith)) (parts_part q v old (omega (arith, room)))
    where
      to_here : List ℕ
      to_here = parts_to g n q old

      room : q * n + n ≤ length old
      room = omega (arith, room_at q (suc q) n (omega arith))

      fits : q * n + n ≤ length to_here
      fits = omega (arith, room, parts_length q old (omega (arith, room)))

      by : (v ≡ q) ⊎ (v < q) → (v < q → take n (drop (v * n) to_here) ≡ g (suc v) (take n (drop (v * n) old)))
          → take n (drop (v * n) (parts_to g n (suc q) old)) ≡ g (suc v) (take n (drop (v * n) old))
      by (inl e) rest =
          rw e (within_part (q * n) n (g (suc q)) to_here fits (one_keeps (q * n) (suc q) to_here fits)
          ∙ ap (g (suc q)) (same_part (q * n) n to_here old fits room (λ i p. parts_rest q old i (omega (arith, room)))))
      by (inr less) rest =
          let b = room_at v q n less in
          same_part (v * n) n (parts_to g n (suc q) old) to_here (omega (arith, b, fits, parts_length (suc q) old h)) (omega (arith, b, fits))
          (λ i p. within_before (q * n) n (g (suc q)) to_here fits (one_keeps (q * n) (suc q) to_here fits) (v * n + i) (omega (arith, b)))
          ∙ rest less

  -- parts that are all places, each worked by what sees no more of it than its size: what was there does not matter
  module _ (blind : (w : ℕ) (xs ys : List ℕ) → length xs ≡ length ys → g w xs ≡ g w ys) where
    part_anew : (Q v i : ℕ) (old new : List ℕ) → Q * n ≤ length old → Q * n ≤ length new → v < Q → i < n
        → get_or (parts_to g n Q old) (v * n + i) 0 ≡ get_or (parts_to g n Q new) (v * n + i) 0
    part_anew Q v i old new h k lt d =
        let r = room_at v Q n lt in
        let e = blind (suc v) (take n (drop (v * n) old)) (take n (drop (v * n) new))
        (part_length (v * n) n old (omega (arith, r)) ∙ sym (part_length (v * n) n new (omega (arith, r)))) in
        let p = parts_part Q v old h lt ∙ e ∙ sym (parts_part Q v new k lt) in
        sym (get_or-take n (drop (v * n) (parts_to g n Q old)) i 0 d ∙ get_or-drop (v * n) (parts_to g n Q old) i 0)
        ∙ ap (λ (xs : List ℕ). get_or xs i 0) p
        ∙ get_or-take n (drop (v * n) (parts_to g n Q new)) i 0 d ∙ get_or-drop (v * n) (parts_to g n Q new) i 0

    pub parts_anew : (Q : ℕ) (old new : List ℕ) → 0 < n → Q * n ≡ length old → length old ≡ length new → parts_to g n Q old ≡ parts_to g n Q new
    parts_anew Q old new s h e =
        let l = parts_length Q old (omega arith) in
        ext_get_or 0 (parts_to g n Q old) (parts_to g n Q new) (l ∙ e ∙ sym (parts_length Q new (omega arith)))
        (λ k p. rw (← div-add-mod' k n) (part_anew Q (k / n) (k % n) old new (omega arith) (omega arith)
        ((div-lt_iff_lt-mul s).1 (omega (arith, l))) (mod-lt k s)))

-- ---- widths 1 to Q filled, no column longer than E

module _ (column : ℕ → List ℕ) (E : ℕ) (short : (w : ℕ) → length (column w) ≤ E) where
  pub over_keeps : (w : ℕ) (xs : List ℕ) → length xs ≡ E → length (over (column w) xs) ≡ E
  over_keeps w xs e = over_length (column w) xs (omega (arith, e, short w)) ∙ e

  -- an array has as many places as it had
  pub filled_length : (Q : ℕ) (old : List ℕ) → Q * E ≤ length old → length (filled_to column E Q old) ≡ length old
  filled_length = parts_length (λ v. over (column v)) E over_keeps

  -- the places behind the last part are as they were (SPECIFICATION 6.11)
  pub filled_rest : (Q : ℕ) (old : List ℕ) (j : ℕ) → Q * E ≤ length old → get_or (filled_to column E Q old) (Q * E + j) 0 ≡ get_or old (Q * E + j) 0
  filled_rest = parts_rest (λ v. over (column v)) E over_keeps

  -- a place of width v + 1
  filled_in : (Q v j : ℕ) (old : List ℕ) → Q * E ≤ length old → v < Q → j < E
      → get_or (filled_to column E Q old) (v * E + j) 0 ≡ get_or (over (column (suc v)) (take E (drop (v * E) old))) j 0
  filled_in Q v j old h lt d =
      sym (get_or-take E (drop (v * E) (filled_to column E Q old)) j 0 d ∙ get_or-drop (v * E) (filled_to column E Q old) j 0)
      ∙ ap (λ (xs : List ℕ). get_or xs j 0) (parts_part (λ v. over (column v)) E over_keeps Q v old h lt)

  -- the first places of width v + 1 hold its column
  pub filled_at : (Q v j : ℕ) (old : List ℕ) → Q * E ≤ length old → v < Q → j < length (column (suc v))
      → get_or (filled_to column E Q old) (v * E + j) 0 ≡ get_or (column (suc v)) j 0
  filled_at Q v j old h lt d = filled_in Q v j old h lt (omega (arith, short (suc v))) ∙ get_or-append (column (suc v)) _ 0 j d

  -- and its places behind the column are as they were
  pub filled_kept : (Q v j : ℕ) (old : List ℕ) → Q * E ≤ length old → v < Q → length (column (suc v)) ≤ j → j < E
      → get_or (filled_to column E Q old) (v * E + j) 0 ≡ get_or old (v * E + j) 0
  filled_kept Q v j old h lt b d =
      filled_in Q v j old h lt d ∙ over_past (column (suc v)) (take E (drop (v * E) old)) j b ∙ get_or-take E (drop (v * E) old) j 0 d ∙ get_or-drop (v * E) old j 0

  -- columns that are already there change nothing
  pub filled_same : (Q : ℕ) (old : List ℕ) → Q * E ≤ length old
      → ((v j : ℕ) → v < Q → j < length (column (suc v)) → get_or old (v * E + j) 0 ≡ get_or (column (suc v)) j 0) → filled_to column E Q old ≡ old
  filled_same Q old h f =
      parts_same (λ v. over (column v)) E Q old
      (λ v lt. let p = part_length (v * E) E old (omega (arith, h, room_at v Q E lt)) in
      over_same (column (suc v)) (take E (drop (v * E) old)) (omega (arith, p, short (suc v)))
      (λ j d. get_or-take E (drop (v * E) old) j 0 (omega (arith, short (suc v))) ∙ get_or-drop (v * E) old j 0 ∙ f v j lt d))
