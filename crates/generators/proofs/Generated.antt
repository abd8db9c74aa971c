-- The generators are exactly the codes that are valid at the width and of a kind in the basis, in rising order, at
-- every width up to 16. Assumes nothing.
use mathlib.Core.Path.{◌≡◌, refl, sym, ap, ◌∙◌}
use mathlib.Core.Logic.{⊎_elim}
use mathlib.Core.Bool.{Bool, true, false, ◌&&◌}
use mathlib.Core.List.Memᴰ
use mathlib.Core.List.{List, [], ◌∷◌, Memᴰ}
use Prim.Native.Nat.{ℕ, zero, suc, ◌+◌, ◌*◌, ◌≤◌, ◌<◌}
use native.Mathlib.Nat.{zero-add}
use native.Mathlib.Omega.{arith}
use borrow.Author.Tests.{eqb-true, ltb-true}
use lib.Dec.{eqb, ltb}
use lib.ListN.{take, drop}
use Rattle.ints.specs.Lists.{pick, range, all, distinct, Run}
use Rattle.ints.proofs.Bools.{and_left, and_right}
use Rattle.ints.proofs.Runs.{run_to, run_each, range_in, each_in, each_mem}
use Rattle.kinds.specs.Kinds.{kind_at, arity, sorted, is_kind, of_tables}
use Rattle.circuit.specs.Codes.{code_of, kind_number, kind_of, first, second, third, valid, valid_for}
use Rattle.operands.specs.Operands.{placed, ordered}
use Rattle.kinds.proofs.ByNumber.{kind_used, table_kind}
use Rattle.circuit.proofs.Coded.{code_whole, code_valid, code_table}
use Rattle.generators.specs.Generators.{kept, thirds, seconds, firsts, generators, Lists}

-- ---- in rising order

kept_run : (n basis g lo hi : ℕ) → lo ≤ g → g < hi → Run lo hi (kept n basis g)
unfolding kept
kept_run n basis g lo hi p q = by (valid_for n basis g)
  where
    by : (b : Bool) → Run lo hi (pick b (g ∷ []) [])
    by true = (p, q)
    by false = omega arith

-- each loop's codes lie between one number of its operand and the next
module _ (n basis : ℕ) (small : n ≤ 16) where
  thirds_run : (k a b : ℕ) → Run (k * 4096 + a * 256 + b * 16) (k * 4096 + a * 256 + b * 16 + 16) (thirds n basis k a b)
  thirds_run k a b =
      let lo = k * 4096 + a * 256 + b * 16 in
      run_to lo (lo + n * 1) (lo + 16) (thirds n basis k a b) (omega arith)
      (run_each lo 1 n (λ c. kept n basis (code_of k a b c)) (λ c l. kept_run n basis (code_of k a b c) (lo + c * 1) (lo + c * 1 + 1) (omega arith) (omega arith)))

  seconds_run : (k a : ℕ) → Run (k * 4096 + a * 256) (k * 4096 + a * 256 + 256) (seconds n basis k a)
  seconds_run k a =
      let lo = k * 4096 + a * 256 in
      run_to lo (lo + n * 16) (lo + 256) (seconds n basis k a) (omega arith) (run_each lo 16 n (thirds n basis k a) (λ b l. thirds_run k a b))

  firsts_run : (k : ℕ) → Run (k * 4096) (k * 4096 + 4096) (firsts n basis k)
  firsts_run k =
      let lo = k * 4096 in
      run_to lo (lo + n * 256) (lo + 4096) (firsts n basis k) (omega arith) (run_each lo 256 n (seconds n basis k) (λ a l. seconds_run k a))

  generators_run : Run 0 (0 + 12 * 4096) (generators n basis)
  unfolding generators
  generators_run = run_each 0 4096 12 (firsts n basis) (λ k l. rw zero-add (firsts_run k))

-- ---- each is valid

kept_valid : (n basis x g : ℕ) → Memᴰ g (kept n basis x) → valid_for n basis g ≡ true
unfolding kept
kept_valid n basis x g m = by (valid_for n basis x) refl m
  where
    by : (b : Bool) → valid_for n basis x ≡ b → Memᴰ g (pick b (x ∷ []) []) → valid_for n basis g ≡ true
    by true e m = ap (valid_for n basis) (Memᴰ.eq_of_singleton m) ∙ e
    by false e m = absurd (Memᴰ.not-nil m)

generator_valid : (n basis g : ℕ) → Memᴰ g (generators n basis) → valid_for n basis g ≡ true
unfolding generators
generator_valid n basis g m =
    let k = each_mem (range 0 12) (firsts n basis) g m in
    let a = each_mem (range 0 n) (seconds n basis k.0) g k.2 in
    let b = each_mem (range 0 n) (thirds n basis k.0 a.0) g a.2 in
    let c = each_mem (range 0 n) (λ c. kept n basis (code_of k.0 a.0 b.0 c)) g b.2 in
    kept_valid n basis (code_of k.0 a.0 b.0 c.0) g c.2

-- ---- each valid code is there

kept_in : (n basis g : ℕ) → valid_for n basis g ≡ true → Memᴰ g (kept n basis g)
unfolding kept
kept_in n basis g h = rw h (Memᴰ.head refl)

code_in : (n basis k a b c : ℕ) → k < 12 → a < n → b < n → c < n → valid_for n basis (code_of k a b c) ≡ true → Memᴰ (code_of k a b c) (generators n basis)
unfolding generators
code_in n basis k a b c hk ha hb hc v =
    let g = code_of k a b c in
    each_in (range 0 12) (firsts n basis) k g (range_in 12 0 k (omega arith) (omega arith))
    (each_in (range 0 n) (seconds n basis k) a g (range_in n 0 a (omega arith) (omega arith))
    (each_in (range 0 n) (thirds n basis k a) b g (range_in n 0 b (omega arith) (omega arith))
    (each_in (range 0 n) (λ c. kept n basis (code_of k a b c)) c g (range_in n 0 c (omega arith) (omega arith)) (kept_in n basis g v))))

kind_below : (i : ℕ) → of_tables (kind_at i) ≡ true → i < 12
kind_below i h = ltb-true i 12 (and_left (ltb i 12) (is_kind (kind_at i)) (sym (table_kind i) ∙ h))

-- where the first m of the numbers are below n and the others are 0, each is below n
each_below : (n m : ℕ) (xs : List ℕ) → 0 < n → all (λ q. ltb q n) (take m xs) ≡ true → all (λ q. eqb q 0) (drop m xs) ≡ true → (q : ℕ) → Memᴰ q xs → q < n
unfolding all
each_below n m [] z p r q h = absurd (Memᴰ.not-nil h)
each_below n zero (x ∷ xs) z p r q h =
    let e : x ≡ 0 = eqb-true x 0 (and_left (eqb x 0) (all (λ q. eqb q 0) xs) r) in
    ⊎_elim (λ (w : q ≡ x). omega arith) (λ t. each_below n zero xs z refl (and_right (eqb x 0) (all (λ q. eqb q 0) xs) r) q t) (Memᴰ.cases_cons h)
each_below n (suc m) (x ∷ xs) z p r q h =
    let l : x < n = ltb-true x n (and_left (ltb x n) (all (λ q. ltb q n) (take m xs)) p) in
    ⊎_elim (λ (w : q ≡ x). omega arith) (λ t. each_below n m xs z (and_right (ltb x n) (all (λ q. ltb q n) (take m xs)) p) r q t) (Memᴰ.cases_cons h)

operands_below : (n m a b c : ℕ) → 0 < m → placed n m a b c ≡ true → (q : ℕ) → Memᴰ q (a ∷ b ∷ c ∷ []) → q < n
unfolding placed all
operands_below n zero a b c u h = absurd (omega arith)
operands_below n (suc m) a b c u h =
    let xs = a ∷ b ∷ c ∷ [] in
    let used = all (λ q. ltb q n) (take (suc m) xs) in
    let apart = distinct (take (suc m) xs) in
    let rest = all (λ q. eqb q 0) (drop (suc m) xs) in
    let p = and_left used (apart && rest) h in
    let l = ltb-true a n (and_left (ltb a n) (all (λ q. ltb q n) (take m (b ∷ c ∷ []))) p) in
    each_below n (suc m) xs (omega arith) p (and_right apart rest (and_right used (apart && rest) h))

generator_in : (n basis g : ℕ) → valid_for n basis g ≡ true → Memᴰ g (generators n basis)
unfolding valid
generator_in n basis g h =
    let k = kind_of g in
    let a = first g in
    let b = second g in
    let c = third g in
    let v = code_valid n basis g h in
    let is = and_left (is_kind k) (placed n (arity k) a b c && ordered (sorted k) a b c) v in
    let l = kind_below (kind_number g) (code_table n basis g h) in
    let p = and_left (placed n (arity k) a b c) (ordered (sorted k) a b c) (and_right (is_kind k) (placed n (arity k) a b c && ordered (sorted k) a b c) v) in
    let o = operands_below n (arity k) a b c (kind_used k is) p in
    rw code_whole at
    (code_in n basis (kind_number g) a b c l (o a (Memᴰ.head refl)) (o b (Memᴰ.tail (Memᴰ.head refl))) (o c (Memᴰ.tail (Memᴰ.tail (Memᴰ.head refl)))) (rw code_whole h))

pub lists : (n basis : ℕ) → n ≤ 16 → Lists n basis (generators n basis)
lists n basis h = record {
  rising = record { past = 0 + 12 * 4096; run = generators_run n basis h };
  sound = generator_valid n basis;
  complete = generator_in n basis;
}
