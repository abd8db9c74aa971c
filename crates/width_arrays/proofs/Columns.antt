-- One array that holds what is said of the nodes, and the three with node 0. Assumes nothing.
use mathlib.Core.Path.{◌≡◌, refl, sym, ap, ◌∙◌, subst}
use mathlib.Core.List.{List, [], ◌∷◌, ◌++◌, map, append_assoc}
use Prim.Native.Nat.{ℕ, suc, ◌+◌, ◌≤◌, ◌<◌}
use native.Mathlib.Numerals.{add-one}
use native.Mathlib.Omega.{arith}
use lib.ListN.{length, get_or, drop, set, length-append, length-drop, length-map, get_or-append}
use lib.Seq.{set_at, drop-cons}
use Rattle.circuit.specs.Codes.{mark}
use Rattle.exact.specs.Matrix.{identity}
use Rattle.exact.specs.Fingerprint.{fingerprint}
use Rattle.exact.proofs.Listed.{product_nil}
use Rattle.walk.specs.Walk.{Node, root, gate}
use Rattle.walk.specs.AtWidth.{print_of, parent_of}
use Rattle.walk.specs.Index.{By, kept_up, kept}
use Rattle.walk.proofs.Sequences.{map_at, map_snoc}
use Rattle.walk.proofs.Indexed.{kept_cong, kept_more}
use Rattle.synthesis_arena.specs.declared.WidthLimits.{WidthLimits}
use Rattle.width_arrays.specs.Arrays.{Column, Columns}

module _ {p : Node → ℕ} {ns : List Node} {xs old : List ℕ} {n : ℕ} (w : Column p old ns xs n) (q : n ≡ length ns) where
  -- at a node's place
  pub column_at : (j : ℕ) → j < length ns → get_or xs j 0 ≡ p (get_or ns j root)
  column_at j h = ap (λ (z : List ℕ). get_or z j 0) w.is ∙ get_or-append (map p ns) (drop n old) 0 j (omega (arith, length-map ns p)) ∙ map_at p root ns j h

  pub column_length : n ≤ length old → length xs ≡ length old
  column_length h = omega (arith, ap length w.is, length-append (map p ns) (drop n old), length-map ns p, length-drop n old)

  -- one node more
  pub column_snoc : n < length old → (m : Node) → Column p old (ns ++ (m ∷ [])) (set xs n (p m)) (n + 1)
  column_snoc h m = record {
    is = ap (λ (z : List ℕ). set z n (p m)) (w.is ∙ ap (λ (z : List ℕ). map p ns ++ z) (drop-cons old n 0 h))
        ∙ set_at (map p ns) (get_or old n 0) (drop (suc n) old) (p m) n (length-map ns p ∙ sym q)
        ∙ sym (append_assoc (map p ns) (p m ∷ []) (drop (suc n) old))
        ∙ ap (λ (z : List ℕ). z ++ drop (suc n) old) (sym (map_snoc p ns m))
        ∙ ap (λ (i : ℕ). map p (ns ++ (m ∷ [])) ++ drop i old) (sym (add-one n));
  }

-- node 0
pub column_root : (p : Node → ℕ) (xs : List ℕ) → 0 < length xs → Column p xs (root ∷ []) (set xs 0 (p root)) 1
column_root p xs l = column_snoc {p = p} {ns = []} {xs = xs} {old = xs} {n = 0} (record { is = refl }) refl l root

pub root_columns : (by : By) (lim : WidthLimits) (f u c i : List ℕ) (y : ℕ) {i' : List ℕ} → y ≡ fingerprint lim.width identity → 0 < length f → 0 < length u → 0 < length c
    → i' ≡ kept_up by (kept by [] 0 i) y 0 → Columns by lim f u c i (root ∷ []) (set f 0 y) (set u 0 mark) (set c 0 mark) i' 1
root_columns by lim f u c i y q a b d e = record {
  count_is = refl;
  prints = subst (λ (v : ℕ). Column (print_of lim.width) f (root ∷ []) (set f 0 v) 1) (ap (fingerprint lim.width) (product_nil lim.width) ∙ sym q)
      (column_root (print_of lim.width) f a);
  parents = column_root parent_of u b;
  gates = column_root gate c d;
  index = e ∙ ap (λ (x : List ℕ). kept_up by x y 0) (kept_cong by [] f i 0 (λ v l. absurd (omega arith))) ∙ kept_more by f i 0 y a;
}
