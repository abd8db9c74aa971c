-- The laws of the numbers that the C functions return, and of the record given as numbers. Assumes nothing.
use mathlib.Core.Path.{◌≡◌, refl, sym, ap, ◌∙◌}
use mathlib.Core.Logic.{◌⊎◌, inl, inr}
use mathlib.Core.Bool.{true, false}
use mathlib.Core.List.{List, [], ◌∷◌, ◌++◌}
use Prim.Native.Nat.{ℕ, zero, suc, ◌+◌, ◌*◌, ◌/◌, ◌%◌, ◌≤◌, ◌<◌}
use native.Mathlib.Omega.{arith}
use native.Mathlib.Nat.{mod-eq_of_lt, div-eq_of_lt, mul-add-div_right, mul-add-mod_self_right}
use borrow.Author.Tests.{lt-ltb, le-ltb, ne_eqb}
use lib.IntN.{ℤ}
use lib.ListN.{length}
use Rattle.ints.proofs.Bools.{clash}
use Rattle.exact.specs.Lists.{product}
use Rattle.exact.specs.Fits.{most_k}
use Rattle.exact.specs.Answers.{Answer, given, refused}
use Rattle.exact.proofs.Unitaries.{unitary_product}
use Rattle.exact.proofs.Bounds.{k_never, product_small}
use Rattle.walk.specs.Index.{scan}
use Rattle.walk.specs.Answers.{Reply, Outcome}
use Rattle.walk.specs.Answers as answers
use Rattle.walk.proofs.Meaning.{kind, size}
use Rattle.walk.proofs.Sequences.{lt_or}
use Rattle.tables.specs.Checks.{first_row, limit_rows, Arrays}
use Rattle.tables.specs.Lists.{outcome, listed}
use Rattle.tables.specs.Tables.{Table, width_at, Query, synthesized}
use Rattle.tables.proofs.Asked.{part_asked}
use Rattle.tables.specs.Demand3.{Decided, a_list, no_list, a_refusal}
use Rattle.tables.specs.Exactly.{Cause, cause, First, list_causes, query_causes, BadChain, answer_causes, bad_limits}
use Rattle.tables.proofs.Causes.{first_to, none_to}
use Rattle.tables.proofs.InWords.{not-both, limits_in_words, answer_in_words}
use Rattle.tables.proofs.Accepted.{accepted}
use Rattle.tables.proofs.ListExactly.{accepted as accepted-list}
use Rattle.tables.proofs.Demand2.{accepted_narrow, accepted_fits}
use Rattle.tables.proofs.Replies.{ReplyCase, not_a_width_lem, part_asked_lem, by_row, row_of_answer, row_refuses, width_none, width_asked, cases, gives_asked, decided, gives_right}
use Rattle.tables.proofs.Exactly.{exactly}
use Rattle.murm_c.specs.Numbers.{capped, list_number, reply_number, counts_table}
use Rattle.murm_c.specs.Laws.{value, refusal, reading, list_says, reply_says, SameCounts, counts_of, sample_with, Laws}

-- ---- reading a number

-- computed: a position, and one past 32 bits
at_52 : reading (list_number (refused 7 52)) ≡ refusal 7 52
at_52 = refl

past_32_bits : reading (list_number (refused 8 4294967296)) ≡ refusal 8 4294967295
past_32_bits = refl

position_kept : (p : ℕ) → p ≤ 4294967295 → capped p ≡ p
position_kept p h = rw (le-ltb 4294967295 p h)

position_capped : (p : ℕ) → 4294967295 < p → capped p ≡ 4294967295
position_capped p h = rw (lt-ltb 4294967295 p h)

capped_most : (p : ℕ) → capped p < 4294967296
capped_most p = by (lt_or 4294967295 p)
  where
    by : (4294967295 < p) ⊎ (p ≤ 4294967295) → capped p < 4294967296
    by (inl h) = let e = position_capped p h in omega arith
    by (inr h) = let e = position_kept p h in omega arith

read_value : (x : ℕ) → x < 4294967295 → reading x ≡ value x
read_value x h = rw (lt-ltb x 4294967295 h)

read_refusal : (r c : ℕ) → 0 < r → c < 4294967296 → reading (r * 4294967296 + c) ≡ refusal r c
read_refusal r c p h =
    rw (le-ltb (r * 4294967296 + c) 4294967295 (omega arith), ne_eqb (r * 4294967296 + c) 4294967295 (omega arith))
    (λ i. refusal (quotient i) (remainder i))
  where
    quotient : (r * 4294967296 + c) / 4294967296 ≡ r
    quotient = mul-add-div_right (omega arith) r c ∙ ap (λ (z : ℕ). r + z) (div-eq_of_lt h) ∙ omega arith

    remainder : (r * 4294967296 + c) % 4294967296 ≡ c
    remainder = mul-add-mod_self_right r 4294967296 c ∙ mod-eq_of_lt h

-- ---- refusals by their rows

-- every row's number is from the first to the last
abbrev Between : ℕ → ℕ → List Cause → Type 0
Between b c [] = Unit {0}
Between b c (x ∷ xs) = ((b ≤ x.number) × (x.number ≤ c)) × Between b c xs

first_between : (b c : ℕ) (xs : List Cause) (r p : ℕ) → Between b c xs → First r p xs → (b ≤ r) × (r ≤ c)
first_between b c [] r p w f = absurd f
first_between b c (x ∷ xs) r p w (inl (e, y)) = (omega (arith, w.0.0, e), omega (arith, w.0.1, e))
first_between b c (x ∷ xs) r p w (inr (n, f)) = first_between b c xs r p w.1 f

-- ---- a list

module _ (n : ℕ) (codes : List ℕ) (numbers : List ℤ) where
  -- the whole answer, by the one that is told
  told : (x : Answer) → (listed n codes numbers).answer ≡ x → listed n codes numbers ≡ outcome x (listed n codes numbers).numbers
  told x e = ap (λ (z : Answer). outcome z (listed n codes numbers).numbers) e

  exponent_most : (k : ℕ) → (listed n codes numbers).answer ≡ given k → k < 65535
  exponent_most k e =
      let (c, y, z) = accepted-list n codes numbers k (listed n codes numbers).numbers (told (given k) e) in
      let j : (product n codes).k < most_k = k_never n (accepted_narrow n codes numbers c) (unitary_product n codes) (product_small n codes (accepted_fits n codes numbers c)) in
      omega (arith, j, y)

  -- the row that refuses it
  first_row_lem : (r p : ℕ) → (listed n codes numbers).answer ≡ refused r p → First r p (list_causes n codes numbers)
  first_row_lem r p e = ((exactly.list n codes numbers (listed n codes numbers).numbers r p).0 (told (refused r p) e)).0

  list_refusals : (r p : ℕ) → (listed n codes numbers).answer ≡ refused r p → (6 ≤ r) × (r ≤ 9)
  list_refusals r p e =
      first_between 6 9 (list_causes n codes numbers) r p
      ((omega arith, omega arith), ((omega arith, omega arith), ((omega arith, omega arith), ((omega arith, omega arith), tt))))
      (first_row_lem r p e)

  list_read : reading (list_number (listed n codes numbers).answer) ≡ list_says (listed n codes numbers).answer
  list_read = by (listed n codes numbers).answer refl
    where
      by : (x : Answer) → (listed n codes numbers).answer ≡ x → reading (list_number x) ≡ list_says x
      by (given k) e = let h = exponent_most k e in read_value k (omega arith)
      by (refused r p) e = let h = (list_refusals r p e).0 in read_refusal r (capped p) (omega arith) (capped_most p)

  -- a position is 0, or that of a code
  position_inside : (r p : ℕ) → First r p (list_causes n codes numbers) → (p ≡ 0) ⊎ (p < length codes)
  position_inside r p (inl (e, (c, z))) = inl z
  position_inside r p (inr (x, inl (e, (c, z)))) = inl z
  position_inside r p (inr (x, inr (y, inl (e, w)))) = inr w.inside
  position_inside r p (inr (x, inr (y, inr (z, inl (e, w))))) = inr w.inside
  position_inside r p (inr (x, inr (y, inr (z, inr (u, f))))) = absurd f

  position_told : (r p : ℕ) → length codes ≤ 4294967296 → (listed n codes numbers).answer ≡ refused r p → reading (list_number (listed n codes numbers).answer) ≡ refusal r p
  position_told r p h e = list_read ∙ ap list_says e ∙ ap (refusal r) (by (position_inside r p (first_row_lem r p e)))
    where
      by : (p ≡ 0) ⊎ (p < length codes) → capped p ≡ p
      by (inl z) = position_kept p (omega arith)
      by (inr z) = position_kept p (omega arith)

  list_fits : list_number (listed n codes numbers).answer < 14 * 4294967296
  list_fits = by (listed n codes numbers).answer refl
    where
      by : (x : Answer) → (listed n codes numbers).answer ≡ x → list_number x < 14 * 4294967296
      by (given k) e = let h = exponent_most k e in omega arith
      by (refused r p) e = let h = (list_refusals r p e).1 in let c = capped_most p in omega arith

-- ---- an answer

abbrev position : Reply → ℕ
position (answers.given m) = 0
position answers.none = 0
position (answers.refused r p) = p

module _ (t : Table) (a : Arrays) (q : Query) (out : List ℕ) where
  -- the whole outcome, by the reply that is told
  replied : (x : Reply) → (synthesized t a q out).reply ≡ x → synthesized t a q out ≡ answers.outcome x (synthesized t a q out).list
  replied x e = ap (λ (z : Reply). answers.outcome z (synthesized t a q out).list) e

  -- where no row holds, the gate limit is allowed
  gates_most : row_of_answer t a q out ≡ 0 → t.limits.gates ≤ 64
  gates_most e = by (first_row (limit_rows t.limits)) refl
    where
      by : (r : ℕ) → first_row (limit_rows t.limits) ≡ r → t.limits.gates ≤ 64
      by zero f = (accepted t.limits f).gates
      by (suc r) f =
          absurd ((none_to (answer_in_words t a q out) e).0 0 (bad_limits (suc r) _ (first_to (limits_in_words t.limits) (suc r) (omega arith) f), refl))

  count_most : (m : ℕ) → (synthesized t a q out).reply ≡ answers.given m → (m ≤ t.limits.gates) × (t.limits.gates ≤ 64)
  count_most m e = by (decided t a q out)
    where
      by : Decided t a q out → (m ≤ t.limits.gates) × (t.limits.gates ≤ 64)
      by (a_list l g) =
          let z : length l ≡ m = ap size (ap (λ (o : Outcome). o.reply) (sym g) ∙ e) in
          (omega (arith, z, (gives_right t a q out l g).short), gates_most (gives_asked t a q out l g).0)
      by (no_list g) = absurd (omega (arith, ap kind (ap (λ (o : Outcome). o.reply) (sym g) ∙ e)))
      by (a_refusal r g) = absurd (omega (arith, ap kind (ap (λ (o : Outcome). o.reply) (sym g) ∙ e)))

  module _ (by-scan : a.by ≡ scan) where
    reply_refusals : (r p : ℕ) → (synthesized t a q out).reply ≡ answers.refused r p → (5 ≤ r) × (r ≤ 13) × (p ≡ 0)
    reply_refusals r p e =
        let b = between ((exactly.answer t a q out (synthesized t a q out).list r p).0 (replied (answers.refused r p) e)).0 in
        (b.0, b.1, no_position (decided t a q out))
      where
        numbers : Between 5 13 (query_causes q ++ (cause 12 (length out < t.limits.gates) ∷ cause 13 (BadChain t a q) ∷ []))
        numbers = (
          (omega arith, omega arith),
          ((omega arith, omega arith), ((omega arith, omega arith), ((omega arith, omega arith), ((omega arith, omega arith), ((omega arith, omega arith), tt))))),
        )

        -- row 17 is not one of the scan
        between : First r p (answer_causes t a q out) → (5 ≤ r) × (r ≤ 13)
        between (inl (z, h)) = (omega (arith, z), omega (arith, z))
        between (inr (n, inl (z, h))) = (omega (arith, z), omega (arith, z))
        between (inr (n, inr (m, inl (z, (h, y))))) = not-both by-scan h.0
        between (inr (n, inr (m, inr (l, g)))) =
            first_between 5 13 (query_causes q ++ (cause 12 (length out < t.limits.gates) ∷ cause 13 (BadChain t a q) ∷ [])) r p numbers g

        no_position : Decided t a q out → p ≡ 0
        no_position (a_list l g) = absurd (omega (arith, ap kind (ap (λ (o : Outcome). o.reply) (sym g) ∙ e)))
        no_position (no_list g) = absurd (omega (arith, ap kind (ap (λ (o : Outcome). o.reply) (sym g) ∙ e)))
        no_position (a_refusal s g) = sym (ap position (ap (λ (o : Outcome). o.reply) (sym g) ∙ e))

    reply_read : reading (reply_number (synthesized t a q out).reply) ≡ reply_says (synthesized t a q out).reply
    reply_read = by (synthesized t a q out).reply refl
      where
        by : (x : Reply) → (synthesized t a q out).reply ≡ x → reading (reply_number x) ≡ reply_says x
        by (answers.given m) e = let (h, g) = count_most m e in read_value m (omega arith)
        by answers.none e = refl
        by (answers.refused r p) e = let h = (reply_refusals r p e).0 in read_refusal r (capped p) (omega arith) (capped_most p)

    reply_fits : reply_number (synthesized t a q out).reply < 14 * 4294967296
    reply_fits = by (synthesized t a q out).reply refl
      where
        by : (x : Reply) → (synthesized t a q out).reply ≡ x → reply_number x < 14 * 4294967296
        by (answers.given m) e = let (h, g) = count_most m e in omega arith
        by answers.none e = omega arith
        by (answers.refused r p) e = let h = (reply_refusals r p e).1 in let c = capped_most p in omega arith

-- ---- the record

-- the counts of widths up to 5 are kept
count_kept : (t : Table) (w : ℕ) → w ≤ 5 → (width_at t w).count ≡ (width_at (counts_of t) w).count
count_kept t zero h = refl
count_kept t (suc zero) h = refl
count_kept t (suc (suc zero)) h = refl
count_kept t (suc (suc (suc zero))) h = refl
count_kept t (suc (suc (suc (suc zero)))) h = refl
count_kept t (suc (suc (suc (suc (suc zero))))) h = refl
count_kept t (suc (suc (suc (suc (suc (suc w)))))) h = absurd (omega arith)

record_kept : (t : Table) (a : Arrays) (q : Query) (out : List ℕ) → synthesized t a q out ≡ synthesized (counts_of t) a q out
record_kept t a q out = by (cases t a q out)
  where
    by : ReplyCase t a q out → synthesized t a q out ≡ synthesized (counts_of t) a q out
    by (not_a_width_lem e f n) = n ∙ sym (width_none (counts_of t) a q out e f)
    by (part_asked_lem e f p) = p ∙ part ∙ sym (width_asked (counts_of t) a q out e f)
      where
        part : part_asked t a q out ≡ part_asked (counts_of t) a q out
        part =
            let wide : 5 < q.width → ⊥ = λ z. (none_to (answer_in_words t a q out) e).1.1.1.0 0 (z, refl) in
            rw (count_kept t q.width (omega (arith, wide)))
    by (by_row r h e n) = n ∙ sym (row_refuses (counts_of t) a q out r h e)

counts_alone : (t u : Table) → SameCounts t u → (a : Arrays) (q : Query) (out : List ℕ) → synthesized t a q out ≡ synthesized u a q out
counts_alone t u s a q out = record_kept t a q out ∙ ap (λ (z : Table). synthesized z a q out) same ∙ sym (record_kept u a q out)
  where
    same : counts_of t ≡ counts_of u
    same = λ i. counts_table (s.limits i) (s.counts 1 i) (s.counts 2 i) (s.counts 3 i) (s.counts 4 i) (s.counts 5 i)

same_sample : SameCounts (sample_with 3 false) (sample_with 9 true)
same_sample = record { limits = refl; counts = at }
  where
    at : (w : ℕ) → (width_at (sample_with 3 false) w).count ≡ (width_at (sample_with 9 true) w).count
    at zero = refl
    at (suc zero) = refl
    at (suc (suc w)) = refl

pub laws : Laws
laws = record {
  list_read = list_read;
  reply_read = reply_read;
  position_kept = position_kept;
  position_capped = position_capped;
  position_told = position_told;
  exponent_most = exponent_most;
  count_most = count_most;
  list_refusals = list_refusals;
  reply_refusals = λ t a q out r p h. reply_refusals t a q out h r p;
  list_fits = list_fits;
  reply_fits = reply_fits;
  record_kept = record_kept;
  counts_alone = counts_alone;
  counts_differ = (same_sample, λ e. clash (ap (λ (t : Table). (width_at t 1).saturated) e) refl);
  readings = (at_52, past_32_bits, refl, refl);
}
