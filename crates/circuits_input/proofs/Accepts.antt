-- The program takes exactly the inputs that are allowed: its lines are the input's, its line one is asked for its four
-- numbers, and its queries are the lines of a width, a count up to 256 and that many codes. Assumes nothing.
use mathlib.Core.Bool.{Bool, true, false}
use mathlib.Core.List.{List, [], ◌∷◌, ◌++◌}
use mathlib.Core.Path.{◌≡◌, refl, sym, ap, ◌∙◌, subst}
use Prim.Native.Nat.{ℕ, ◌+◌, ◌≤◌}
use native.Mathlib.Omega.{arith}
use borrow.Author.Tests.{eq-eqb, ne_eqb, le-leb, le-ltb, leb-true, eqb-true, eqb-false, ltb-true, ltb-false}
use lib.Dec.{eqb, leb, ltb}
use lib.ListN.{length, get_or, drop}
use Rattle.ints.specs.Lists.{pick, elem}
use Rattle.ints.proofs.Bools.{clash, both_true, neither}
use Rattle.tables.specs.Checks.{limits_of}
use Rattle.circuits_text.specs.Reading.{newline, words, all_numbers, numbers}
use Rattle.circuits_text.specs.Allowed.{AllowedLine}
use Rattle.circuits_text.proofs.Accepts.{accepts, accepted, line_unbroken}
use Rattle.circuits_input.specs.Input.{Read, gives, refused, broken, InputLine, ended, cut, longer_line, lines_of, limits_in, line_one, with_later}
use Rattle.circuits_input.specs.Input.{Wanted, wanted, lines_input, input_of, asked_list, is_query, question_of}
use Rattle.circuits_input.specs.Allowed.{Lines, no_line, unended, newlined, FirstLine, Comes, long, asked, stopped, QueryLine}
use Rattle.circuits_input.proofs.Inputs.{input_long}

-- ---- the lines of an input

longer_unbroken : (b : ℕ) (l : List ℕ) → eqb b newline ≡ false → elem newline l ≡ false → elem newline (b ∷ l) ≡ false
unfolding elem
longer_unbroken b l h u = rw (ne_eqb newline b (λ e. eqb-false b newline h (sym e))) u

longer_lines : {bytes : List ℕ} {ls : List InputLine} (b : ℕ) → eqb b newline ≡ false → Lines bytes ls → Lines (b ∷ bytes) (longer_line b ls)
unfolding elem
longer_lines b h no_line = unended {l = b ∷ []} (omega arith) (longer_unbroken b [] h refl)
longer_lines b h (unended {l} n u) = unended {l = b ∷ l} (omega arith) (longer_unbroken b l h u)
longer_lines b h (newlined {l} u r) = newlined (longer_unbroken b l h u) r

-- the program's lines are the input's
pub lines_are : (bytes : List ℕ) → Lines bytes (lines_of bytes)
unfolding lines_of elem
lines_are [] = no_line
lines_are (b ∷ bytes) = by (eqb b newline) refl (lines_are bytes)
  where
    by :
        (t : Bool) → eqb b newline ≡ t → Lines bytes (lines_of bytes) →
        Lines (b ∷ bytes) (pick t (ended [] ∷ lines_of bytes) (longer_line b (lines_of bytes)))
    by true e r = rw (eqb-true b newline e) (newlined {l = []} refl r)
    by false e r = longer_lines b e r

not_newline : (b : ℕ) (l : List ℕ) → elem newline (b ∷ l) ≡ false → (eqb b newline ≡ false) × (elem newline l ≡ false)
unfolding elem
not_newline b l h =
    let p = neither (eqb newline b) (elem newline l) h in
    (ne_eqb b newline (λ e. eqb-false newline b p.0 (sym e)), p.1)

lines_first : (l bytes : List ℕ) → elem newline l ≡ false → lines_of (l ++ (10 ∷ bytes)) ≡ ended l ∷ lines_of bytes
unfolding lines_of
lines_first [] bytes u = refl
lines_first (b ∷ l) bytes u =
    let p = not_newline b l u in
    rw p.0 (ap (longer_line b) (lines_first l bytes p.1))

lines_cut : (l : List ℕ) → 1 ≤ length l → elem newline l ≡ false → lines_of l ≡ cut l ∷ []
unfolding lines_of
lines_cut [] n u = absurd (omega arith)
lines_cut (b ∷ []) n u = rw (not_newline b [] u).0
lines_cut (b ∷ c ∷ l) n u =
    let p = not_newline b (c ∷ l) u in
    rw p.0 (ap (longer_line b) (lines_cut (c ∷ l) (omega arith) p.1))

-- and no others are
pub lines_unique : {bytes : List ℕ} {ls : List InputLine} → Lines bytes ls → ls ≡ lines_of bytes
unfolding lines_of
lines_unique no_line = refl
lines_unique (unended {l} n u) = sym (lines_cut l n u)
lines_unique (newlined {l} {bytes} u r) = ap (λ (ls : List InputLine). ended l ∷ ls) (lines_unique r) ∙ sym (lines_first l bytes u)

-- ---- line one

-- four numbers on line one are asked for
first_asks :
    {q g e b : ℕ} {rest input : List ℕ} → length input ≤ 16384 → FirstLine q g e b rest input →
    input_of input ≡ gives (wanted (limits_of q g e b) (lines_of rest))
unfolding input_of line_one
first_asks {q} {g} {e} {b} {rest} {input} h f =
    let a = accepted f.says in
    let ls = ap lines_of f.place ∙ lines_first f.line rest (line_unbroken f.says) in
    rw (le-ltb 16384 (length input) h, ls, a.0, a.1)

four : (ns : List ℕ) → length ns ≡ 4 → ns ≡ get_or ns 0 0 ∷ get_or ns 1 0 ∷ get_or ns 2 0 ∷ get_or ns 3 0 ∷ []
four [] h = absurd (omega arith)
four (a ∷ []) h = absurd (omega arith)
four (a ∷ b ∷ []) h = absurd (omega arith)
four (a ∷ b ∷ c ∷ []) h = absurd (omega arith)
four (a ∷ b ∷ c ∷ d ∷ []) h = refl
four (a ∷ b ∷ c ∷ d ∷ e ∷ ns) h = absurd (omega arith)

-- an input that asks for nothing has no such line
asks_nothing : {input : List ℕ} → length input ≤ 16384 → input_of input ≡ broken → Comes input broken
asks_nothing h e = stopped h (λ q g n b rest f. let z : ◌≡◌ {A = ℕ} 0 1 = cc (first_asks h f) in absurd (omega arith))

-- by its lines
lines_come : {input : List ℕ} {ls : List InputLine} → length input ≤ 16384 → Lines input ls → input_of input ≡ lines_input ls → Comes input (lines_input ls)
unfolding line_one
lines_come h no_line e = asks_nothing h e
lines_come h (unended n u) e = asks_nothing h e
lines_come h (newlined {l} {bytes} {ls} u r) e = by (all_numbers (words l)) (eqb (length (numbers (words l))) 4) refl refl e
  where
    comes : Bool → Bool → Read Wanted
    comes s t = with_later ls (pick s (pick t (gives (limits_in (numbers (words l)))) broken) broken)

    by :
        (s t : Bool) → all_numbers (words l) ≡ s → eqb (length (numbers (words l))) 4 ≡ t → input_of (l ++ (10 ∷ bytes)) ≡ comes s t →
        Comes (l ++ (10 ∷ bytes)) (comes s t)
    by true true a n d =
        let ns = four (numbers (words l)) (eqb-true (length (numbers (words l))) 4 n) in
        asked h (record { line = l; says = subst (λ (ms : List ℕ). AllowedLine ms l) ns (accepts l a); place = refl }) r
    by true false a n d = asks_nothing h d
    by false t a n d = asks_nothing h d

-- what an input comes to, by the program
pub input_comes : (input : List ℕ) → Comes input (input_of input)
unfolding input_of
input_comes input = by (ltb 16384 (length input)) refl
  where
    by : (t : Bool) → ltb 16384 (length input) ≡ t → Comes input (pick t (refused 15 0) (lines_input (lines_of input)))
    by true e = long (ltb-true 16384 (length input) e)
    by false e = lines_come (ltb-false 16384 (length input) e) (lines_are input) (rw e)

-- and to nothing else
pub comes_unique : {input : List ℕ} {x : Read Wanted} → Comes input x → x ≡ input_of input
comes_unique {input} (long h) = input_long input h
comes_unique (asked {q} {g} {e} {b} h f r) = ap (λ (ls : List InputLine). gives (wanted (limits_of q g e b) ls)) (lines_unique r) ∙ sym (first_asks h f)
comes_unique {input} (stopped h f) = by (input_comes input)
  where
    by : {x : Read Wanted} → Comes input x → broken ≡ x
    by (long g) = absurd (omega arith)
    by (asked g d r) = absurd (f _ _ _ _ _ d)
    by (stopped g d) = refl

-- ---- a query

-- width, count, codes
query_shape : (ns : List ℕ) → is_query ns ≡ true → (ns ≡ get_or ns 0 0 ∷ length (drop 2 ns) ∷ drop 2 ns) × (length (drop 2 ns) ≤ 256)
query_shape [] h = clash h refl
query_shape (w ∷ []) h = clash h refl
query_shape (w ∷ c ∷ codes) h =
    let p = both_true (leb 2 (length (w ∷ c ∷ codes))) _ h in
    let q = both_true (leb c 256) (eqb (length (w ∷ c ∷ codes)) (c + 2)) p.1 in
    let n : c ≡ length codes = omega (arith, eqb-true (length (w ∷ c ∷ codes)) (c + 2) q.1) in
    (ap (λ (k : ℕ). w ∷ k ∷ codes) n, omega (arith, leb-true c 256 q.0))

shape_query : (width : ℕ) (codes : List ℕ) → length codes ≤ 256 → is_query (width ∷ length codes ∷ codes) ≡ true
shape_query width codes h =
    let n = length (width ∷ length codes ∷ codes) in
    rw (le-leb 2 n (omega arith), le-leb (length codes) 256 h, eq-eqb n (length codes + 2) (omega arith))

-- what the program takes for a query is one
pub query_accepts :
    (l : List ℕ) → all_numbers (words l) ≡ true → is_query (numbers (words l)) ≡ true →
    QueryLine (get_or (numbers (words l)) 0 0) (drop 2 (numbers (words l))) l
query_accepts l h g =
    let s = query_shape (numbers (words l)) g in
    record { says = subst (λ (ns : List ℕ). AllowedLine ns l) s.0 (accepts l h); few = s.1 }

-- a query is taken for one, with its width and its codes
pub query_accepted :
    {width : ℕ} {codes l : List ℕ} → QueryLine width codes l →
    (all_numbers (words l) ≡ true) × (is_query (numbers (words l)) ≡ true) × (numbers (words l) ≡ width ∷ length codes ∷ codes)
query_accepted {width} {codes} {l} q =
    let a = accepted q.says in
    (a.0, ap is_query a.1 ∙ shape_query width codes q.few, a.1)

-- it asks its codes at its width
pub query_asks : {width : ℕ} {codes l : List ℕ} → QueryLine width codes l → question_of (ended l) ≡ gives (asked_list width codes)
unfolding question_of
query_asks {width} {codes} {l} q =
    let a = query_accepted q in
    rw (a.0, a.2, shape_query width codes q.few)

-- any other line is broken
pub other_broken : (l : List ℕ) → ((width : ℕ) (codes : List ℕ) → QueryLine width codes l → ⊥) → question_of (ended l) ≡ broken
unfolding question_of
other_broken l h = by (all_numbers (words l)) (is_query (numbers (words l))) refl refl
  where
    by :
        (s b : Bool) → all_numbers (words l) ≡ s → is_query (numbers (words l)) ≡ b →
        pick s (pick b (gives (asked_list (get_or (numbers (words l)) 0 0) (drop 2 (numbers (words l))))) broken) broken ≡ broken
    by true true a g = absurd (h _ _ (query_accepts l a g))
    by true false a g = refl
    by false b a g = refl

-- and so is a line that is not ended
pub cut_broken : (l : List ℕ) → question_of (cut l) ≡ broken
unfolding question_of
cut_broken l = refl
