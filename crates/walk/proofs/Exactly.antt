-- The walk at a width and a basis meets the laws, by the laws of exact matrices; within 29 gates every step fits; and
-- lists, products and fingerprints as callers have them, oldest gate first, are those of the walk, newest first.
-- Assumes nothing.
use mathlib.Core.Path.{◌≡◌, refl, sym, ap, ◌∙◌, subst}
use mathlib.Core.Bool.{true}
use mathlib.Core.List.{List, [], ◌∷◌, ◌++◌, reverse, reverse-cons, reverse-reverse, Memᴰ}
use Prim.Native.Nat.{ℕ, ◌≤◌, ◌<◌}
use native.Mathlib.Omega.{arith}
use borrow.Author.Tests.{eqb-true, eq-eqb}
use lib.ListN.{length, get_or, length-reverse}
use Rattle.ints.specs.Lists.{all}
use Rattle.ints.proofs.Bools.{clash, and_left, and_right, and_both}
use Rattle.circuit.specs.Codes.{valid_for}
use Rattle.generators.specs.Generators.{generators}
use Rattle.generators.proofs.Generated.{lists}
use Rattle.exact.specs.Matrix.{Exact, Lowest, PowerOf}
use Rattle.exact.specs.Rows.{gate_of}
use Rattle.exact.specs.Lists.{product}
use Rattle.exact.specs.Fits.{fitting_gates}
use Rattle.exact.specs.Fingerprint.{fingerprint}
use Rattle.exact.proofs.Values.{equal_same}
use Rattle.exact.proofs.Acts.{act_lowest, act_swap, act_back, power_of, power_refl, power_sym, power_trans, act_power}
use Rattle.exact.proofs.Coded.{proper, plain, basis_plain, basis_below, inverse_undoes, disjoint_apart}
use Rattle.circuit.proofs.Coded.{code_table}
use Rattle.exact.proofs.Listed.{product_nil, product_snoc}
use Rattle.exact.proofs.Phases.{power_of_test, test_of_power}
use Rattle.exact.proofs.Prints.{fingerprint_power}
use Rattle.exact.proofs.Bounds.{candidate_fits}
use Rattle.walk.specs.Walk.{Node, root, list_at, prod}
use Rattle.walk.proofs.Grown.{Grown}
use Rattle.walk.proofs.Laws.{Laws, Over, AllFit, NoClash}
use Rattle.walk.specs.Modes.{Mode, by_print, keeping, known_in}
use Rattle.walk.specs.AtWidth.{same_print, print_of, plain_at, at_width, ListOf, NoSharedPrint}
use Rattle.walk.proofs.Known.{laws_in}
use Rattle.walk.proofs.Completeness.{prod_lowest}
use Rattle.walk.proofs.Nodes.{fresh}

module _ (n : ℕ) where
  -- ---- one fingerprint

  pub print_same : (x y : Exact) → same_print n x y ≡ true → fingerprint n x ≡ fingerprint n y
  unfolding same_print
  print_same x y e = eqb-true (fingerprint n x) (fingerprint n y) e

  pub same_print_lem : (x y : Exact) → fingerprint n x ≡ fingerprint n y → same_print n x y ≡ true
  unfolding same_print
  same_print_lem x y e = eq-eqb (fingerprint n x) (fingerprint n y) e

module _ (n basis : ℕ) where
  -- in every mode what counts as known has the fingerprint
  known_print : (mode : Mode) (x y : Exact) → known_in mode (plain_at n basis) x y ≡ true → same_print n x y ≡ true
  known_print by_print x y e = e
  known_print keeping x y e = and_left (same_print n x y) ((plain_at n basis).equal x y) e

-- the product of a list, oldest gate first, is the walk's of the same list, newest first; and so a node's fingerprint
module _ (mode : Mode) (n basis : ℕ) where
  product_at : (l : List ℕ) → product n (reverse l) ≡ prod (at_width mode n basis) l
  product_at [] = product_nil n
  product_at (g ∷ l) = ap (product n) (reverse-cons g l) ∙ product_snoc n (reverse l) g ∙ ap (act_of g) (product_at l)
    where
      act_of : ℕ → Exact → Exact
      act_of g = (at_width mode n basis).act g

  pub print_is : (v : Node) → print_of n v ≡ fingerprint n (prod (at_width mode n basis) v.list)
  print_is v = ap (fingerprint n) (product_at v.list)

module _ (n basis : ℕ) (small : n ≤ 5) where
  -- ---- the generators are the codes that are valid for the basis at the width (SPECIFICATION 2.8)

  generator_code : (g : ℕ) → Memᴰ g (generators n basis) → valid_for n basis g ≡ true
  generator_code g m = (lists n basis (omega arith)).sound g m

  code_generator : (g : ℕ) → valid_for n basis g ≡ true → Memᴰ g (generators n basis)
  code_generator g v = (lists n basis (omega arith)).complete g v

  generator_below : (g : ℕ) → Memᴰ g (generators n basis) → g < 49152
  generator_below g m = basis_below n basis g (generator_code g m)

  -- ---- the laws

  pub plain_laws : Laws (plain_at n basis) (PowerOf n)
  plain_laws = record {
    Lowest = Lowest n;
    one_lowest = record { lowest = λ h. absurd (omega arith) };
    act_lowest = λ g x. act_lowest n (gate_of n g) x;
    same_refl = power_refl n;
    same_sym = λ s. power_sym n s;
    same_trans = λ s t. power_trans n s t;
    act_same = λ g s. act_power n (gate_of n g) (proper n g) s;
    inverse_undoes = λ g h x e. power_of n (act_back n x (proper n g) (inverse_undoes n g h e));
    disjoint_swaps = λ g h x e. power_of n (equal_same n (act_swap n (gate_of n g) (gate_of n h) x (proper n g) (proper n h) (disjoint_apart n g h e)));
    same_known = λ {x} {y} l m s. same_print_lem n x y (fingerprint_power n l m s);
    known_then = λ {x} {y} {z} o l m e s. same_print_lem n x z (print_same n x y e ∙ fingerprint_power n l m s);
    same_answers = λ {x} {y} l m s. same_print_lem n x y (fingerprint_power n l m s);
    answers_known = λ {x} {y} {z} o l m e s. same_print_lem n x y (print_same n x z e ∙ sym (fingerprint_power n l m s));
    equal_same = power_of_test n;
    same_equal = λ l m s. test_of_power n l m s;
    bound = 49152;
    below = generator_below;
  }

module _ (mode : Mode) (n basis : ℕ) (small : n ≤ 5) where
  pub laws : Laws (at_width mode n basis) (PowerOf n)
  laws = laws_in (plain_at n basis) (PowerOf n) (plain_laws n basis small) mode

  -- a matrix in lowest denominator is one that the laws speak of
  pub query_lowest : {x : Exact} → Lowest n x → laws.Lowest x
  unfolding laws laws_in plain_laws
  query_lowest h = h

  -- ---- lists, oldest gate first

  pub product_is : (l : List ℕ) → product n (reverse l) ≡ prod (at_width mode n basis) l
  product_is l = product_at mode n basis l

  pub product_of : (l : List ℕ) → product n l ≡ prod (at_width mode n basis) (reverse l)
  product_of l = ap (product n) (sym (reverse-reverse l)) ∙ product_is (reverse l)

  over_append : (l m : List ℕ) → Over (at_width mode n basis) l → Over (at_width mode n basis) m → Over (at_width mode n basis) (l ++ m)
  over_append [] m a b = b
  over_append (g ∷ l) m a b = (a.0, over_append l m a.1 b)

  pub over_reverse : (l : List ℕ) → Over (at_width mode n basis) l → Over (at_width mode n basis) (reverse l)
  over_reverse [] a = a
  over_reverse (g ∷ l) a =
      subst (Over (at_width mode n basis)) (sym (reverse-cons g l)) (over_append (reverse l) (g ∷ []) (over_reverse l a.1) (a.0, tt))

  pub list_over : (l : List ℕ) → ListOf n basis l → Over (at_width mode n basis) l
  unfolding all
  list_over [] h = tt
  list_over (g ∷ l) h =
      (code_generator n basis small g (and_left (valid_for n basis g) (all (valid_for n basis) l) h), list_over l (and_right (valid_for n basis g) (all (valid_for n basis) l) h))

  pub over_list : (l : List ℕ) → Over (at_width mode n basis) l → ListOf n basis l
  unfolding all
  over_list [] h = refl
  over_list (g ∷ l) h = and_both (valid_for n basis g) (all (valid_for n basis) l) (generator_code n basis small g h.0) (over_list l h.1)

  -- ---- the two conditions

  -- of a generator behind a list of generators, both newest gate first
  pub all_fit_lem : (G : ℕ) → G ≤ fitting_gates → AllFit (at_width mode n basis) G
  all_fit_lem G le g l m o h =
      let t = plain n g (code_table n basis g (generator_code n basis small g m)) in
      let a = basis_plain n basis (reverse l) (over_list (reverse l) (over_reverse l o)) in
      ap (λ (x : Exact). (at_width mode n basis).fits g x) (sym (product_is l)) ∙ candidate_fits n g t (reverse l) a (omega (arith, length-reverse l))

  pub no_clash : (G : ℕ) → NoSharedPrint n basis G → NoClash (at_width mode n basis) (PowerOf n) G
  no_clash G h l m a b p q e =
      subst (λ (x : Exact). PowerOf n x (prod (at_width mode n basis) m)) (product_is l)
      (subst (λ (y : Exact). PowerOf n (product n (reverse l)) y) (product_is m)
      (h (reverse l) (reverse m) (over_list (reverse l) (over_reverse l a)) (over_list (reverse m) (over_reverse m b))
      (omega (arith, length-reverse l)) (omega (arith, length-reverse m))
      (ap (fingerprint n) (product_is l) ∙ print_same n (prod (at_width mode n basis) l) (prod (at_width mode n basis) m)
      (known_print n basis mode (prod (at_width mode n basis) l) (prod (at_width mode n basis) m) e) ∙ ap (fingerprint n) (sym (product_is m)))))

  -- ---- no two nodes are equal up to phase

  pub nodes_apart : {ns : List Node} → Grown (at_width mode n basis) ns → (j k : ℕ) → j < k → k < length ns
      → PowerOf n (product n (reverse (list_at ns j))) (product n (reverse (list_at ns k))) → ⊥
  nodes_apart {ns} b j k l h s =
      clash (laws.same_known (low (list_at ns j)) (low (list_at ns k)) power) (fresh (at_width mode n basis) b k h j l)
    where
      low : (l : List ℕ) → laws.Lowest (prod (at_width mode n basis) l)
      low l = prod_lowest (at_width mode n basis) (PowerOf n) laws l

      power : PowerOf n (prod (at_width mode n basis) (list_at ns j)) (prod (at_width mode n basis) (list_at ns k))
      power =
          subst (PowerOf n (prod (at_width mode n basis) (list_at ns j))) (product_is (list_at ns k))
          (subst (λ (x : Exact). PowerOf n x (product n (reverse (list_at ns k)))) (product_is (list_at ns j)) s)

-- no two nodes have one fingerprint, where it alone makes known
pub prints_distinct : (n basis : ℕ) {ns : List Node} → Grown (at_width by_print n basis) ns → (j k : ℕ) → j < k → k < length ns
    → print_of n (get_or ns j root) ≡ print_of n (get_or ns k root) → ⊥
prints_distinct n basis {ns} b j k l h e =
    clash (same_print_lem n (prod (at_width by_print n basis) (list_at ns j)) (prod (at_width by_print n basis) (list_at ns k))
    (sym (print_is by_print n basis (get_or ns j root)) ∙ e ∙ print_is by_print n basis (get_or ns k root))) (fresh (at_width by_print n basis) b k h j l)
