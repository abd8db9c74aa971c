-- Products of lists of codes, oldest first: a list in parts, the lowest denominator, the exponent, and lists of one
-- product: adjacent disjoint codes exchanged, an inverse pair left out. Assumes nothing.
use mathlib.Core.Path.{◌≡◌, refl}
use mathlib.Core.Bool.{true}
use mathlib.Core.List.{List, [], ◌∷◌, ◌++◌}
use Prim.Native.Nat.{ℕ, suc, ◌+◌, ◌≤◌}
use native.Mathlib.Omega.{arith}
use lib.ListN.{length}
use Rattle.circuit.specs.Pairs.{inverse, disjoint}
use Rattle.exact.specs.Matrix.{Exact, Lowest, identity, PowerOf}
use Rattle.exact.proofs.Words.{Equal, Plain}
use Rattle.exact.specs.Rows.{Gate, raw, act, gate_of}
use Rattle.exact.specs.Lists.{after, product}
use Rattle.exact.proofs.Linear.{raise_most}
use Rattle.exact.proofs.Values.{equal_sym, equal_same, lower_k}
use Rattle.exact.proofs.Acts.{act_lowest, act_equal, act_swap, act_back_lowest, act_power}
use Rattle.exact.proofs.Coded.{proper, inverse_undoes, disjoint_apart, AllPlain}

module _ (n : ℕ) where
  -- ---- a list in parts
  pub after_append : (x : Exact) (l m : List ℕ) → after n x (l ++ m) ≡ after n (after n x l) m
  after_append x [] m = refl
  after_append x (g ∷ l) m = after_append (act n (gate_of n g) x) l m

  pub product_nil : product n [] ≡ identity
  unfolding product
  product_nil = refl

  pub product_append : (l m : List ℕ) → product n (l ++ m) ≡ after n (product n l) m
  unfolding product
  product_append l m = after_append identity l m

  pub product_snoc : (l : List ℕ) (g : ℕ) → product n (l ++ (g ∷ [])) ≡ act n (gate_of n g) (product n l)
  product_snoc l g = product_append l (g ∷ [])

  -- ---- the lowest denominator
  pub after_lowest : {x : Exact} (l : List ℕ) → Lowest n x → Lowest n (after n x l)
  after_lowest [] h = h
  after_lowest {x = x} (g ∷ l) h = after_lowest {x = act n (gate_of n g) x} l (act_lowest n (gate_of n g) x)

  pub product_lowest : (l : List ℕ) → Lowest n (product n l)
  unfolding product
  product_lowest l = after_lowest l (record { lowest = λ h. absurd (omega arith) })

  -- ---- the same steps from two matrices
  pub after_equal : {x y : Exact} (l : List ℕ) → Equal n x y → Equal n (after n x l) (after n y l)
  after_equal [] s = s
  after_equal {x = x} {y = y} (g ∷ l) s = after_equal {x = act n (gate_of n g) x} {y = act n (gate_of n g) y} l (act_equal n (gate_of n g) (proper n g) (equal_same n s))

  pub after_power : {x y : Exact} (l : List ℕ) → PowerOf n x y → PowerOf n (after n x l) (after n y l)
  after_power [] s = s
  after_power {x = x} {y = y} (g ∷ l) s = after_power {x = act n (gate_of n g) x} {y = act n (gate_of n g) y} l (act_power n (gate_of n g) (proper n g) s)

  -- ---- lists of one product: two adjacent codes anywhere
  pub product_swap : (l : List ℕ) (g h : ℕ) (m : List ℕ) → disjoint g h ≡ true → Equal n (product n (l ++ (g ∷ h ∷ m))) (product n (l ++ (h ∷ g ∷ m)))
  product_swap l g h m e =
      rw (product_append l (g ∷ h ∷ m), product_append l (h ∷ g ∷ m))
      (after_equal m (equal_sym n (act_swap n (gate_of n g) (gate_of n h) (product n l) (proper n g) (proper n h) (disjoint_apart n g h e))))

  -- the newer inverts the older
  pub product_back : (l : List ℕ) (g h : ℕ) (m : List ℕ) → inverse h g ≡ true → Equal n (product n (l ++ (g ∷ h ∷ m))) (product n (l ++ m))
  product_back l g h m e =
      rw (product_append l (g ∷ h ∷ m), product_append l m)
      (after_equal m (act_back_lowest n (proper n h) (inverse_undoes n h g e) (product_lowest l)))

  -- ---- the exponent, of lists whose codes are each one row operation
  pub act_k : (g : Gate) → Plain g → (x : Exact) → (act n g x).k ≤ suc x.k
  act_k g t x = omega (arith, lower_k n (raw g x), raise_most g t x.k)

  pub after_k : (x : Exact) (l : List ℕ) → AllPlain n l → (after n x l).k ≤ x.k + length l
  after_k x [] t = omega arith
  after_k x (g ∷ l) t = omega (arith, after_k (act n (gate_of n g) x) l t.1, act_k (gate_of n g) t.0 x)

  pub product_k : (l : List ℕ) → AllPlain n l → (product n l).k ≤ length l
  unfolding product
  product_k l t = omega (arith, after_k identity l t)

  pub raw_k : (g : Gate) → Plain g → (l : List ℕ) → AllPlain n l → (raw g (product n l)).k ≤ suc (length l)
  raw_k g t l u = omega (arith, raise_most g t (product n l).k, product_k l u)
