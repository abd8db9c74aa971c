-- Laws of a line that was read: its numbers, or that it is broken, decide what it gives. Assumes nothing.
use mathlib.Core.Bool.{Bool, true, false, ◌&&◌}
use mathlib.Core.List.{List, [], ◌∷◌}
use mathlib.Core.Option.{Option, none, some}
use mathlib.Core.Path.{◌≡◌, refl, sym, ap, ◌∙◌}
use Prim.Native.Nat.{ℕ, zero, suc, ◌+◌, ◌-◌, ◌≤◌, ◌<◌}
use native.Mathlib.Omega.{arith}
use borrow.Author.Tests.{leb-true, leb-false, le-leb, eq-eqb, ne_eqb}
use lib.Dec.{leb}
use lib.ListN.{length, get_or, take, drop}
use lib.Seq.{take_all, take_at, get_or-take}
use Rattle.ints.specs.Lists.{pick, over}
use Rattle.ints.proofs.Bools.{both_true}
use Rattle.circuits_text.specs.Reading.{words, all_numbers, numbers, line_of, ReadInto}
use Rattle.circuits_text.proofs.Split.{numbers_length}
use Rattle.circuits_input.specs.Input.{Read, gives, broken, ended, read_line, limits_in, limits_by, is_query, question_by, asked_list}

-- how many numbers a line has says of its words
whole : (k n : ℕ) (ws : List (List ℕ)) → some n ≡ line_of k ws → (all_numbers ws ≡ true) × (length ws ≡ n) × (n ≤ k)
unfolding line_of
whole k n ws h = by (all_numbers ws) (leb (length ws) k) refl refl h
  where
    by :
        (s t : Bool) → all_numbers ws ≡ s → leb (length ws) k ≡ t → some n ≡ pick (s && t) (some (length ws)) none →
        (all_numbers ws ≡ true) × (length ws ≡ n) × (n ≤ k)
    by true true a l g =
        let z : n ≡ length ws = cc in
        (a, sym z, omega (arith, leb-true (length ws) k l, z))
    by true false a l g = let z : ◌≡◌ {A = ℕ} 0 1 = cc in absurd (omega arith)
    by false t a l g = let z : ◌≡◌ {A = ℕ} 0 1 = cc in absurd (omega arith)

-- the numbers stand in the first places of the list
pub read_numbers :
    {A : Type 0} {bytes old now : List ℕ} {line : Option ℕ} {n : ℕ} (f : List ℕ → Read A) → ReadInto bytes old now line → line ≡ some n →
    f (take n now) ≡ read_line f (ended bytes)
read_numbers {A} {bytes} {old} {now} {line} {n} f r g =
    let w = whole (length old) n (words bytes) (sym g ∙ r.is) in
    let l : length (numbers (words bytes)) ≡ n = numbers_length (words bytes) w.0 ∙ w.1 in
    let all = take_all (length old) (numbers (words bytes)) (omega (arith, l, w.2)) in
    let e : take n now ≡ numbers (words bytes) =
    ap (take n) (r.holds ∙ ap (λ (m : List ℕ). over m old) all) ∙ take_at (numbers (words bytes)) _ n l in
    rw w.0 (ap f e)

-- a broken line, where more numbers than the list has places come to the same
pub read_broken :
    {A : Type 0} {bytes old now : List ℕ} {line : Option ℕ} (f : List ℕ → Read A) → ((ns : List ℕ) → length old < length ns → f ns ≡ broken) →
    ReadInto bytes old now line → line ≡ none → broken ≡ read_line f (ended bytes)
unfolding line_of
read_broken {A} {bytes} {old} {now} {line} f long r e = by (all_numbers (words bytes)) (leb (length (words bytes)) (length old)) refl refl (sym e ∙ r.is)
  where
    by :
        (s t : Bool) → all_numbers (words bytes) ≡ s → leb (length (words bytes)) (length old) ≡ t →
        none ≡ pick (s && t) (some (length (words bytes))) none →
        broken ≡ pick (all_numbers (words bytes)) (f (numbers (words bytes))) broken
    by true true a l g = let z : ◌≡◌ {A = ℕ} 0 1 = cc in absurd (omega arith)
    by true false a l g =
        rw a (sym (long (numbers (words bytes)) (omega (arith, numbers_length (words bytes) a, leb-false (length (words bytes)) (length old) l))))
    by false t a l g = rw a

-- ---- line one

-- not four numbers
pub no_limits : (ns : List ℕ) → (length ns ≡ 4 → ⊥) → limits_by ns ≡ broken
no_limits ns h = rw (ne_eqb (length ns) 4 h)

-- the first four of a list of places
pub limits_are : (n : ℕ) (ns : List ℕ) → n ≡ 4 → length (take n ns) ≡ n → gives (limits_in ns) ≡ limits_by (take n ns)
limits_are n ns h l =
    let at : (i : ℕ) → i < 4 → get_or (take n ns) i 0 ≡ get_or ns i 0 = λ i p. get_or-take n ns i 0 (omega arith) in
    rw (eq-eqb (length (take n ns)) 4 (l ∙ h), at 0 (omega arith), at 1 (omega arith), at 2 (omega arith), at 3 (omega arith))

-- ---- a later line

pub no_query : (ns : List ℕ) → is_query ns ≡ false → question_by ns ≡ broken
no_query ns h = rw h

-- more than 258 numbers are no query
pub long_query : (ns : List ℕ) → 258 < length ns → question_by ns ≡ broken
long_query ns h = no_query ns (by (leb (get_or ns 1 0) 256) refl)
  where
    by : (b : Bool) → leb (get_or ns 1 0) 256 ≡ b → is_query ns ≡ false
    by true e =
        rw (le-leb 2 (length ns) (omega arith), e, ne_eqb (length ns) (get_or ns 1 0 + 2) (λ q. absurd (omega (arith, q, leb-true (get_or ns 1 0) 256 e))))
    by false e = rw (le-leb 2 (length ns) (omega arith), e)

-- a width and a count are there
pub two_numbers : (ns : List ℕ) → is_query ns ≡ true → 2 ≤ length ns
two_numbers ns h = leb-true 2 (length ns) (both_true (leb 2 (length ns)) _ h).0

take_none : (n : ℕ) → ◌≡◌ {A = List ℕ} (take n []) []
take_none zero = refl
take_none (suc n) = refl

after_two : (n : ℕ) (ns : List ℕ) → 2 ≤ n → take (n - 2) (drop 2 ns) ≡ drop 2 (take n ns)
after_two zero ns h = absurd (omega arith)
after_two (suc zero) ns h = absurd (omega arith)
after_two (suc (suc k)) [] h = take_none (suc (suc k) - 2)
after_two (suc (suc k)) (a ∷ []) h = take_none (suc (suc k) - 2)
after_two (suc (suc k)) (a ∷ b ∷ ns) h =
    let e : suc (suc k) - 2 ≡ k = omega arith in
    ap (λ (j : ℕ). take j ns) e

-- its codes are what stands after the first two numbers, among the first n places
pub query_is :
    (n : ℕ) (ns : List ℕ) → is_query (take n ns) ≡ true → length (take n ns) ≡ n →
    gives (asked_list (get_or ns 0 0) (take (n - 2) (drop 2 ns))) ≡ question_by (take n ns)
query_is n ns q l =
    let two = two_numbers (take n ns) q in
    let w : get_or ns 0 0 ≡ get_or (take n ns) 0 0 = sym (get_or-take n ns 0 0 (omega (arith, two, l))) in
    let c : take (n - 2) (drop 2 ns) ≡ drop 2 (take n ns) = after_two n ns (omega (arith, two, l)) in
    rw q (ap (λ (k : ℕ). gives (asked_list k (take (n - 2) (drop 2 ns)))) w ∙ ap (λ (k : List ℕ). gives (asked_list (get_or (take n ns) 0 0) k)) c)
