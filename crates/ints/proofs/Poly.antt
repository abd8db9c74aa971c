-- A decision procedure for the identities of commutative rings, at the integers: `solve ρ e f tt`. The two expressions'
-- difference is multiplied out to a list of terms, a number and a sorted list of variables each, and every number is 0.
-- Assumes nothing.
use mathlib.Core.Path.{◌≡◌, refl, sym, ap, ◌∙◌}
use mathlib.Core.Bool.{Bool, true, false, ◌&&◌}
use mathlib.Core.List.{List, [], ◌∷◌}
use Prim.Native.Nat.{ℕ}
use native.Mathlib.Omega.{arith}
use lib.Dec.{T, leb, eqb, eqb→eq}
use mir.Facts.{and_yes}
use lib.IntN.{ℤ, pos, negsuc, neg_ℤ, ◌+ℤ◌, ◌*ℤ◌, +ℤ_idl, +ℤ_assoc, zero-*ℤ}
use Rattle.ints.specs.Lists.{pick}
use Rattle.ints.proofs.Int.{Ex, var, lit, ◌⊕◌, ◌⊖◌, ◌⊗◌, ⊝◌, value, look, ring, eqn, A, B, C, D, int}

abbrev pub Term : Type 0
Term = ℤ × List ℕ

-- ---- monomials
abbrev mono : List ℤ → List ℕ → ℤ
mono ρ [] = pos 1
mono ρ (i ∷ m) = look ρ i *ℤ mono ρ m

abbrev ins : ℕ → List ℕ → List ℕ
ins i [] = i ∷ []
ins i (j ∷ m) = pick (leb i j) (i ∷ (j ∷ m)) (j ∷ ins i m)

abbrev times : List ℕ → List ℕ → List ℕ
times [] n = n
times (i ∷ m) n = ins i (times m n)

abbrev eqm : List ℕ → List ℕ → Bool
eqm [] [] = true
eqm [] (j ∷ n) = false
eqm (i ∷ m) [] = false
eqm (i ∷ m) (j ∷ n) = eqb i j && eqm m n

-- ---- sums of terms
abbrev term : List ℤ → Term → ℤ
term ρ t = t.0 *ℤ mono ρ t.1

abbrev total : List ℤ → List Term → ℤ
total ρ [] = pos 0
total ρ (t ∷ p) = term ρ t +ℤ total ρ p

abbrev put : Term → List Term → List Term
put t [] = t ∷ []
put t (u ∷ p) = pick (eqm t.1 u.1) ((t.0 +ℤ u.0, u.1) ∷ p) (u ∷ put t p)

abbrev plus : List Term → List Term → List Term
plus [] q = q
plus (t ∷ p) q = put t (plus p q)

abbrev minus : List Term → List Term
minus [] = []
minus (t ∷ p) = (neg_ℤ t.0, t.1) ∷ minus p

abbrev scale : Term → List Term → List Term
scale t [] = []
scale t (u ∷ q) = (t.0 *ℤ u.0, times t.1 u.1) ∷ scale t q

abbrev mult : List Term → List Term → List Term
mult [] q = []
mult (t ∷ p) q = plus (scale t q) (mult p q)

abbrev pub norm : Ex → List Term
norm (var i) = (pos 1, i ∷ []) ∷ []
norm (lit z) = (z, []) ∷ []
norm (e ⊕ f) = plus (norm e) (norm f)
norm (e ⊖ f) = plus (norm e) (minus (norm f))
norm (e ⊗ f) = mult (norm e) (norm f)
norm (⊝ e) = minus (norm e)

abbrev is_zero : ℤ → Bool
is_zero (pos n) = eqb n 0
is_zero (negsuc n) = false

abbrev pub zeros : List Term → Bool
zeros [] = true
zeros (t ∷ p) = is_zero t.0 && zeros p

-- ---- soundness
pick_ind : {X : Type 0} (P : X → Type 0) (b : Bool) (x y : X) → (T b → P x) → P y → P (pick b x y)
pick_ind P true x y f g = f tt
pick_ind P false x y f g = g

eqm→eq : (m n : List ℕ) → T (eqm m n) → m ≡ n
eqm→eq [] [] t = refl
eqm→eq [] (j ∷ n) t = absurd t
eqm→eq (i ∷ m) [] t = absurd t
eqm→eq (i ∷ m) (j ∷ n) t =
    let both = and_yes (eqb i j) (eqm m n) t in
    λ k. eqb→eq i j both.0 k ∷ eqm→eq m n both.1 k

swap : (x y m : ℤ) → y *ℤ (x *ℤ m) ≡ x *ℤ (y *ℤ m)
swap x y m = ring (x ∷ y ∷ m ∷ []) (B ⊗ (A ⊗ C)) (A ⊗ (B ⊗ C)) (omega arith)

left_assoc : (x m n : ℤ) → x *ℤ (m *ℤ n) ≡ (x *ℤ m) *ℤ n
left_assoc x m n = ring (x ∷ m ∷ n ∷ []) (A ⊗ (B ⊗ C)) (A ⊗ B ⊗ C) (omega arith)

one_times : (x : ℤ) → pos 1 *ℤ x ≡ x
one_times x = ring (x ∷ []) (int 1 ⊗ A) A (omega arith)

gather : (c d m p : ℤ) → (c +ℤ d) *ℤ m +ℤ p ≡ c *ℤ m +ℤ (d *ℤ m +ℤ p)
gather c d m p = ring (c ∷ d ∷ m ∷ p ∷ []) ((A ⊕ B) ⊗ C ⊕ D) (A ⊗ C ⊕ (B ⊗ C ⊕ D)) (omega arith)

past : (t u p : ℤ) → u +ℤ (t +ℤ p) ≡ t +ℤ (u +ℤ p)
past t u p = ring (t ∷ u ∷ p ∷ []) (B ⊕ (A ⊕ C)) (A ⊕ (B ⊕ C)) (omega arith)

neg_term : (c m p : ℤ) → neg_ℤ c *ℤ m +ℤ neg_ℤ p ≡ neg_ℤ (c *ℤ m +ℤ p)
neg_term c m p = ring (c ∷ m ∷ p ∷ []) ((⊝ A) ⊗ B ⊕ (⊝ C)) (⊝ (A ⊗ B ⊕ C)) (omega arith)

four : (c d m n : ℤ) → (c *ℤ d) *ℤ (m *ℤ n) ≡ (c *ℤ m) *ℤ (d *ℤ n)
four c d m n = ring (c ∷ d ∷ m ∷ n ∷ []) (A ⊗ B ⊗ (C ⊗ D)) (A ⊗ C ⊗ (B ⊗ D)) (omega arith)

spread : (t u q : ℤ) → t *ℤ u +ℤ t *ℤ q ≡ t *ℤ (u +ℤ q)
spread t u q = ring (t ∷ u ∷ q ∷ []) (A ⊗ B ⊕ A ⊗ C) (A ⊗ (B ⊕ C)) (omega arith)

spread_r : (t p q : ℤ) → t *ℤ q +ℤ p *ℤ q ≡ (t +ℤ p) *ℤ q
spread_r t p q = ring (t ∷ p ∷ q ∷ []) (A ⊗ C ⊕ B ⊗ C) ((A ⊕ B) ⊗ C) (omega arith)

module _ (ρ : List ℤ) where
  ins_is : (i : ℕ) (m : List ℕ) → mono ρ (ins i m) ≡ look ρ i *ℤ mono ρ m
  ins_is i [] = refl
  ins_is i (j ∷ m) =
      pick_ind (λ (l : List ℕ). mono ρ l ≡ look ρ i *ℤ (look ρ j *ℤ mono ρ m)) (leb i j) (i ∷ (j ∷ m)) (j ∷ ins i m) (λ t. refl)
      (ap (λ (z : ℤ). look ρ j *ℤ z) (ins_is i m) ∙ swap (look ρ i) (look ρ j) (mono ρ m))

  times_is : (m n : List ℕ) → mono ρ (times m n) ≡ mono ρ m *ℤ mono ρ n
  times_is [] n = sym (one_times (mono ρ n))
  times_is (i ∷ m) n = ins_is i (times m n) ∙ ap (λ (z : ℤ). look ρ i *ℤ z) (times_is m n) ∙ left_assoc (look ρ i) (mono ρ m) (mono ρ n)

  put_is : (t : Term) (p : List Term) → total ρ (put t p) ≡ term ρ t +ℤ total ρ p
  put_is t [] = refl
  put_is t (u ∷ p) =
      pick_ind (λ (l : List Term). total ρ l ≡ term ρ t +ℤ (term ρ u +ℤ total ρ p)) (eqm t.1 u.1) ((t.0 +ℤ u.0, u.1) ∷ p) (u ∷ put t p)
      (λ e. gather t.0 u.0 (mono ρ u.1) (total ρ p) ∙ ap (λ (m : List ℕ). t.0 *ℤ mono ρ m +ℤ (u.0 *ℤ mono ρ u.1 +ℤ total ρ p)) (sym (eqm→eq t.1 u.1 e)))
      (ap (λ (z : ℤ). term ρ u +ℤ z) (put_is t p) ∙ past (term ρ t) (term ρ u) (total ρ p))

  plus_is : (p q : List Term) → total ρ (plus p q) ≡ total ρ p +ℤ total ρ q
  plus_is [] q = sym (+ℤ_idl (total ρ q))
  plus_is (t ∷ p) q = put_is t (plus p q) ∙ ap (λ (z : ℤ). term ρ t +ℤ z) (plus_is p q) ∙ sym (+ℤ_assoc (term ρ t) (total ρ p) (total ρ q))

  minus_is : (p : List Term) → total ρ (minus p) ≡ neg_ℤ (total ρ p)
  minus_is [] = refl
  minus_is (t ∷ p) = ap (λ (z : ℤ). neg_ℤ t.0 *ℤ mono ρ t.1 +ℤ z) (minus_is p) ∙ neg_term t.0 (mono ρ t.1) (total ρ p)

  scale_is : (t : Term) (q : List Term) → total ρ (scale t q) ≡ term ρ t *ℤ total ρ q
  scale_is t [] = ring (term ρ t ∷ []) (int 0) (A ⊗ int 0) (omega arith)
  scale_is t (u ∷ q) =
      (λ i. (ap (λ (z : ℤ). (t.0 *ℤ u.0) *ℤ z) (times_is t.1 u.1) ∙ four t.0 u.0 (mono ρ t.1) (mono ρ u.1)) i +ℤ scale_is t q i)
      ∙ spread (term ρ t) (term ρ u) (total ρ q)

  mult_is : (p q : List Term) → total ρ (mult p q) ≡ total ρ p *ℤ total ρ q
  mult_is [] q = sym (zero-*ℤ (total ρ q))
  mult_is (t ∷ p) q = plus_is (scale t q) (mult p q) ∙ (λ i. scale_is t q i +ℤ mult_is p q i) ∙ spread_r (term ρ t) (total ρ p) (total ρ q)

  norm_is : (e : Ex) → total ρ (norm e) ≡ value ρ e
  norm_is (var i) = ring (look ρ i ∷ []) (int 1 ⊗ (A ⊗ int 1) ⊕ int 0) A (omega arith)
  norm_is (lit z) = ring (z ∷ []) (A ⊗ int 1 ⊕ int 0) A (omega arith)
  norm_is (e ⊕ f) = plus_is (norm e) (norm f) ∙ (λ i. norm_is e i +ℤ norm_is f i)
  norm_is (e ⊖ f) = plus_is (norm e) (minus (norm f)) ∙ (λ i. norm_is e i +ℤ (minus_is (norm f) ∙ ap neg_ℤ (norm_is f)) i)
  norm_is (e ⊗ f) = mult_is (norm e) (norm f) ∙ (λ i. norm_is e i *ℤ norm_is f i)
  norm_is (⊝ e) = minus_is (norm e) ∙ ap neg_ℤ (norm_is e)

  zero_is : (z : ℤ) → T (is_zero z) → z ≡ pos 0
  zero_is (pos n) t = ap pos (eqb→eq n 0 t)
  zero_is (negsuc n) t = absurd t

  zeros_is : (p : List Term) → T (zeros p) → total ρ p ≡ pos 0
  zeros_is [] h = refl
  zeros_is (t ∷ p) h =
      let both = and_yes (is_zero t.0) (zeros p) h in
      (λ i. zero_is t.0 both.0 i *ℤ mono ρ t.1 +ℤ zeros_is p both.1 i)
      ∙ ap (λ (z : ℤ). z +ℤ pos 0) (zero-*ℤ (mono ρ t.1))

  pub solve : (e f : Ex) → T (zeros (norm (e ⊖ f))) → value ρ e ≡ value ρ f
  solve e f h = ring (value ρ e ∷ value ρ f ∷ []) A B (omega (arith, eqn (value ρ e ∷ value ρ f ∷ []) (A ⊖ B) (int 0) (sym (norm_is (e ⊖ f)) ∙ zeros_is (norm (e ⊖ f)) h)))
