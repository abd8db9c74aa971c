-- The rows of a build, of a fill, of a find, of a write and of an answer, each test against its words. Assumes nothing.
use mathlib.Core.Path.{◌≡◌, refl, ap, ◌∙◌, sym}
use mathlib.Core.Logic.{◌⊎◌, inl, inr}
use mathlib.Core.Bool.{true, false, ◌&&◌, ◌||◌, Bool, not}
use mathlib.Core.List.{List, [], ◌∷◌, ◌++◌}
use Prim.Native.Nat.{ℕ, zero, suc, ◌<◌, ◌+◌, ◌*◌, ◌^◌, ◌≤◌}
use native.Mathlib.Omega.{arith}
use native.Mathlib.Nat.{lt_of_le_of_lt, suc-mul, zero-mul}
use native.Mathlib.Decide.{ℕ_discrete}
use borrow.Author.Tests.{ne_eqb, le-ltb, ltb-false, not-true}
use lib.IntN.{ℤ, pos, negsuc}
use lib.ListN.{length, get_or}
use lib.Dec.{eqb, ltb}
use lib.Pow.{pow-lt}
use Rattle.ints.proofs.Bools.{clash, or_right}
use Rattle.ints.specs.Lists.{pick, range}
use Rattle.coefficients.specs.Coefficients.{limit, eq_z}
use Rattle.cyclotomic.proofs.Answers.{eq_z-true, eq_z-self}
use Rattle.circuit.specs.Sets.{supported, subset}
use Rattle.exact.specs.Matrix.{all_divisible}
use Rattle.exact.specs.Places.{read}
use Rattle.walk.proofs.Sequences.{or_cases}
use Rattle.walk.specs.Walk.{any}
use Rattle.walk.specs.Index.{By, scan, indexed}
use Rattle.tables.specs.Checks.{Limits, limit_rows, Arrays, places_of, room_row, in_parts, index_row, coefficient_count, any_below, query_rows, first_row}
use Rattle.tables.specs.Tables.{build_rows, Query, Table, width_at, all_widths, bad_count, record_row, table_rows_of, not_a_width, look_rows_of, find_rows, node_row, write_rows, answer_rows}
use Rattle.tables.specs.Exactly.{limit_causes, Short, InParts, NotInParts, build_causes, Below, query_causes, Cause, cause, BadRecord, bad_limits, bad_count_lem}
use Rattle.tables.specs.Exactly.{table_causes, look_causes, NoNode, no_width, too_few}
use Rattle.tables.proofs.Causes.{Decides, is_eq, is_lt, is_true, is_false, is_not, is_or, is_and, fails, InWords, done, more, words_append, first_to, first_from, none_to}

-- ---- a test of one of m numbers from i on

any_from : (f : ℕ → Bool) (m i : ℕ) → any f (range i m) ≡ true → (k : ℕ) × (i ≤ k) × (k < i + m) × (f k ≡ true)
unfolding range
any_from f zero i e = clash e refl
any_from f (suc m) i e = by (or_cases (f i) (any f (range (suc i) m)) e) (λ h. any_from f m (suc i) h)
  where
    by : (f i ≡ true) ⊎ (any f (range (suc i) m) ≡ true) → (any f (range (suc i) m) ≡ true → (k : ℕ) × (suc i ≤ k) × (k < suc i + m) × (f k ≡ true))
        → (k : ℕ) × (i ≤ k) × (k < i + suc m) × (f k ≡ true)
    by (inl h) g = (i, omega arith, omega arith, h)
    by (inr h) g = let (k, p, q, r) = g h in (k, omega arith, omega arith, r)

pub any_to : (f : ℕ → Bool) (m i k : ℕ) → i ≤ k → k < i + m → f k ≡ true → any f (range i m) ≡ true
unfolding range
any_to f zero i k p q e = absurd (omega arith)
any_to f (suc m) i k p q e = by (ℕ_discrete k i) (λ h. any_to f m (suc i) k h (omega arith) e)
  where
    by : Dec (k ≡ i) → (suc i ≤ k → any f (range (suc i) m) ≡ true) → (f i || any f (range (suc i) m)) ≡ true
    by (yes h) g = let z = ap f (sym h) ∙ e in rw z
    by (no h) g = or_right (f i) (any f (range (suc i) m)) (g (omega arith))

-- ---- a build

pub limits_in_words : (l : Limits) → InWords (limit_rows l) (limit_causes l)
limits_in_words l =
    more 1 (omega arith) (is_or (is_eq l.qubits 0) (is_lt 5 l.qubits))
    (more 2 (omega arith) (is_eq l.entries 0)
    (more 3 (omega arith) (is_or (is_eq l.basis 0) (is_false (subset l.basis supported)))
    (more 4 (omega arith) (is_or (is_lt 64 l.gates) (is_lt 1000000 l.entries)) done)))

pub is_short : (l : Limits) (a : Arrays) → Decides (Short l a) (room_row l a).holds
is_short l a =
    is_or (is_lt (length a.prints) (places_of l)) (is_or (is_lt (length a.parents) (places_of l)) (is_lt (length a.codes) (places_of l)))

-- a power of two is above its exponent
below_power : (m : ℕ) → m < 2 ^ m
below_power zero = omega arith
below_power (suc m) = lt_of_le_of_lt (below_power m) (pow-lt (omega arith))

-- so many places are in parts
pub is_in_parts : (l : Limits) (places : ℕ) → Decides (InParts l places) (in_parts l places)
unfolding in_parts
is_in_parts l places = record { to = to; from = from }
  where
    test : ℕ → Bool
    test m = eqb places (l.qubits * 2 ^ m) && not (ltb (2 ^ m) (2 * l.entries))

    is_test : (m : ℕ) → Decides ((places ≡ l.qubits * 2 ^ m) × (2 ^ m < 2 * l.entries → ⊥)) (test m)
    is_test m = is_and (is_eq places (l.qubits * 2 ^ m)) (is_not (is_lt (2 ^ m) (2 * l.entries)))

    to : any test (range 0 places) ≡ true → InParts l places
    to e =
        let (m, p, q, h) = any_from test places 0 e in
        let (x, y) = (is_test m).to h in
        record { some = omega arith; power = m; in_all = x; large = omega (arith, y) }

    -- there is a width, so that one part has no more places than all
    near : (q : ℕ) (m : ℕ) → 0 < places → places ≡ q * 2 ^ m → m < places
    near zero m p e = absurd (omega (arith, p, e, zero-mul (2 ^ m)))
    near (suc q) m p e = omega (arith, e, suc-mul q (2 ^ m), below_power m)

    from : InParts l places → any test (range 0 places) ≡ true
    from w =
        any_to test places 0 w.power (omega arith) (omega (arith, near l.qubits w.power w.some w.in_all))
        ((is_test w.power).from (w.in_all, λ h. absurd (omega (arith, h, w.large))))

pub in_parts_to : (l : Limits) (places : ℕ) → in_parts l places ≡ true → InParts l places
in_parts_to l places = (is_in_parts l places).to

pub in_parts_from : (l : Limits) (places : ℕ) → InParts l places → in_parts l places ≡ true
in_parts_from l places = (is_in_parts l places).from

pub not_in_parts : (l : Limits) (places : ℕ) → (InParts l places → ⊥) → in_parts l places ≡ false
not_in_parts l places = fails (is_in_parts l places)

-- the two look-ups are two
abbrev is_indexed : By → Bool
is_indexed scan = false
is_indexed indexed = true

pub not-both {ℓ} : {A : Type ℓ} {by : By} → by ≡ scan → by ≡ indexed → A
not-both e f = clash (ap is_indexed f) (ap is_indexed e)

is_not_in_parts : (l : Limits) (by : By) (places : ℕ) → Decides (NotInParts l by places) (index_row l by places).holds
is_not_in_parts l scan places = record { to = λ e. clash e refl; from = λ x. not-both refl x.0 }
is_not_in_parts l indexed places = let d = is_not (is_in_parts l places) in record { to = λ e. (refl, d.to e); from = λ x. d.from x.1 }

pub index_in_words : (l : Limits) (by : By) (places : ℕ) → InWords (index_row l by places ∷ []) (cause 17 (NotInParts l by places) ∷ [])
index_in_words l scan places = more 17 (omega arith) (is_not_in_parts l scan places) done
index_in_words l indexed places = more 17 (omega arith) (is_not_in_parts l indexed places) done

pub build_in_words : (l : Limits) (a : Arrays) → InWords (build_rows l a) (build_causes l a)
build_in_words l a = words_append (limits_in_words l) (more 5 (omega arith) (is_short l a) (index_in_words l a.by (length a.index)))

-- ---- a query

below_one : (x : ℤ) (l : List ℤ) → Decides (Below l) (any_below l) → Decides (Below (x ∷ l)) (eq_z x (negsuc limit) || any_below l)
below_one x l rest = record { to = λ e. to (or_cases (eq_z x (negsuc limit)) (any_below l) e); from = λ w. from w.place w.inside w.is }
  where
    to : (eq_z x (negsuc limit) ≡ true) ⊎ (any_below l ≡ true) → Below (x ∷ l)
    to (inl e) = record { place = 0; inside = omega arith; is = eq_z-true x (negsuc limit) e }
    to (inr e) = let w = rest.to e in record { place = suc w.place; inside = omega (arith, w.inside); is = w.is }

    from : (p : ℕ) → p < suc (length l) → get_or (x ∷ l) p (pos 0) ≡ negsuc limit → (eq_z x (negsuc limit) || any_below l) ≡ true
    from zero h e = let z = ap (λ (y : ℤ). eq_z y (negsuc limit)) e ∙ eq_z-self (negsuc limit) in rw z
    from (suc p) h e = or_right (eq_z x (negsuc limit)) (any_below l) (rest.from (record { place = p; inside = omega arith; is = e }))

is_below : (numbers : List ℤ) → Decides (Below numbers) (any_below numbers)
unfolding any_below
is_below [] = record { to = λ e. clash e refl; from = λ w. absurd (omega (arith, w.inside)) }
is_below (x ∷ l) = below_one x l (is_below l)

pub query_in_words : (q : Query) → InWords (query_rows q.width q.exponent q.numbers) (query_causes q)
query_in_words q =
    more 6 (omega arith) (is_lt 5 q.width)
    (more 9 (omega arith) (is_not (is_eq (length q.numbers) (coefficient_count q.width)))
    (more 10 (omega arith) (is_below q.numbers)
    (more 11 (omega arith) (is_and (is_lt 0 q.exponent) (is_true (all_divisible q.width (read q.width q.numbers)))) done)))

-- ---- the record of a lent table

module _ (t : Table) where
  -- the count of a width
  is_bad_count : (w : ℕ) → Decides ((t.limits.qubits < w → ⊥) × (((width_at t w).count ≡ 0) ⊎ (t.limits.entries < (width_at t w).count))) (bad_count t w)
  is_bad_count w = is_and (is_not (is_lt t.limits.qubits w)) (is_or (is_eq (width_at t w).count 0) (is_lt t.limits.entries (width_at t w).count))

  -- the limits
  abbrev first_limit : ℕ
  first_limit = first_row (limit_rows t.limits)

  pub is_record : Decides (BadRecord t) (record_row t).holds
  unfolding range
  is_record = record { to = λ e. to (or_cases (not (eqb first_limit 0)) (any (bad_count t) all_widths) e); from = from }
    where
      some : (r : ℕ) → first_limit ≡ r → not (eqb r 0) ≡ true → BadRecord t
      some zero e h = clash h refl
      some (suc r) e h = bad_limits (suc r) _ (first_to (limits_in_words t.limits) (suc r) (omega arith) e)

      to : (not (eqb first_limit 0) ≡ true) ⊎ (any (bad_count t) (range 1 5) ≡ true) → BadRecord t
      to (inl e) = some first_limit refl e
      to (inr e) =
          let (w, p, b, h) = any_from (bad_count t) 5 1 e in
          let (q, c) = (is_bad_count w).to h in
          bad_count_lem w (omega arith) (omega arith) c

      from : BadRecord t → (not (eqb first_limit 0) || any (bad_count t) (range 1 5)) ≡ true
      from (bad_limits r p f) =
          let (e, h, z) = first_from (limits_in_words t.limits) r p f in
          let x = ne_eqb first_limit 0 (omega (arith, e, h)) in
          rw x
      from (bad_count_lem w p h c) = by first_limit refl
        where
          by : (r : ℕ) → first_limit ≡ r → (not (eqb r 0) || any (bad_count t) (range 1 5)) ≡ true
          by zero e =
              let wide : 5 < t.limits.qubits → ⊥ = λ z. (none_to (limits_in_words t.limits) e).0 0 (inr z, refl) in
              any_to (bad_count t) 5 1 w (omega arith) (omega arith) ((is_bad_count w).from ((λ q. omega arith), c))
          by (suc r) e = let x = ne_eqb (suc r) 0 (omega arith) in rw x

-- ---- what a table is asked

pub table_in_words : (t : Table) (a : Arrays) → InWords (table_rows_of t a) (table_causes t a)
table_in_words t a = more 13 (omega arith) (is_record t) (more 5 (omega arith) (is_short t.limits a) done)

-- and then 17
pub look_in_words : (t : Table) (by : By) (a : Arrays) → InWords (look_rows_of t by a) (look_causes t by a)
look_in_words t by a = words_append (table_in_words t a) (index_in_words t.limits by (length a.index))

-- a find, up to row 11
abbrev pub find_row_causes : Table → Arrays → Query → List Cause
find_row_causes t a q = look_causes t a.by a ++ query_causes q

pub find_in_words : (t : Table) (a : Arrays) (q : Query) → InWords (find_rows t a q) (find_row_causes t a q)
find_in_words t a q = words_append (look_in_words t a.by a) (query_in_words q)

-- an answer, up to row 12
abbrev pub row_causes : Table → Arrays → Query → List ℕ → List Cause
row_causes t a q out = look_causes t a.by a ++ (query_causes q ++ (cause 12 (length out < t.limits.gates) ∷ []))

pub answer_in_words : (t : Table) (a : Arrays) (q : Query) (out : List ℕ) → InWords (answer_rows t a q out) (row_causes t a q out)
answer_in_words t a q out =
    words_append (look_in_words t a.by a) (words_append (query_in_words q) (more 12 (omega arith) (is_lt (length out) t.limits.gates) done))

-- a write, up to row 12
is_missing : (t : Table) (w k : ℕ) → Decides (NoNode t w k) (node_row t w k).holds
is_missing t w k = record { to = λ e. to (not_a_width t w) refl e; from = λ c. from (not_a_width t w) refl c }
  where
    out_of : Decides ((w ≡ 0) ⊎ (t.limits.qubits < w)) (not_a_width t w)
    out_of = is_or (is_eq w 0) (is_lt t.limits.qubits w)

    to : (b : Bool) → not_a_width t w ≡ b → not (ltb k (pick b 0 (width_at t w).count)) ≡ true → NoNode t w k
    to true f e = no_width (out_of.to f)
    to false f e = too_few (ltb-false k (width_at t w).count (not-true _ e))

    from : (b : Bool) → not_a_width t w ≡ b → NoNode t w k → not (ltb k (pick b 0 (width_at t w).count)) ≡ true
    from true f c = let z = le-ltb k 0 (omega arith) in rw z
    from false f (no_width c) = clash (out_of.from c) f
    from false f (too_few c) = let z = le-ltb k (width_at t w).count c in rw z

abbrev pub write_row_causes : Table → Arrays → ℕ → ℕ → List ℕ → List Cause
write_row_causes t a w k out = table_causes t a ++ (cause 16 (NoNode t w k) ∷ cause 12 (length out < t.limits.gates) ∷ [])

pub write_in_words : (t : Table) (a : Arrays) (w k : ℕ) (out : List ℕ) → InWords (write_rows t a w k out) (write_row_causes t a w k out)
write_in_words t a w k out =
    words_append (table_in_words t a) (more 16 (omega arith) (is_missing t w k) (more 12 (omega arith) (is_lt (length out) t.limits.gates) done))
