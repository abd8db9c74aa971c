-- Lists of a basis and candidates fit up to 29 gates, by the row law. Assumes nothing.
use mathlib.Core.Path.{◌≡◌}
use mathlib.Core.Bool.{true}
use mathlib.Core.List.{List, reverse}
use Prim.Native.Nat.{ℕ, ◌≤◌, ◌<◌}
use native.Mathlib.Omega.{arith}
use lib.ListN.{length, length-reverse}
use Rattle.circuit.specs.Codes.{valid_for}
use Rattle.circuit.proofs.Coded.{code_table}
use Rattle.exact.specs.Rows.{gate_of}
use Rattle.exact.specs.Lists.{product}
use Rattle.exact.specs.Fits.{fitting_gates, step_fits}
use Rattle.exact.proofs.Coded.{plain, basis_plain}
use Rattle.exact.proofs.Bounds.{row_product, row_step, fitting_gates_lem, candidate_fits, list_fits}
use Rattle.walk.specs.Walk.{Node, list_at}
use Rattle.walk.specs.Modes.{Mode}
use Rattle.walk.specs.AtWidth.{at_width, built}
use Rattle.walk.specs.Fitting.{Fitting}
use Rattle.walk.proofs.Nodes.{over}
use Rattle.walk.proofs.Layers.{walk_shape}
use Rattle.walk.proofs.Exactly.{over_reverse, over_list}

module _ (mode : Mode) (n basis : ℕ) (small : n ≤ 5) (G E : ℕ) where
  abbrev ns : List Node
  ns = (built mode n basis G E).nodes

  candidates : G ≤ fitting_gates → (k g : ℕ) → k < length ns → length (list_at ns k) < G → valid_for n basis g ≡ true
      → step_fits n (gate_of n g) (product n (reverse (list_at ns k))) ≡ true
  candidates le k g q h v =
      let o = over_reverse mode n basis small (list_at ns k) (over (at_width mode n basis) (walk_shape (at_width mode n basis) G E).layered.grown k q) in
      candidate_fits n g (plain n g (code_table n basis g v)) (reverse (list_at ns k)) (basis_plain n basis (reverse (list_at ns k)) (over_list mode n basis small (reverse (list_at ns k)) o))
      (omega (arith, length-reverse (list_at ns k)))

pub fitting : Fitting
fitting = record {
  rows = λ n l. row_product n l;
  rows_raw = λ n g l. row_step n g l;
  bound = fitting_gates_lem;
  lists = λ n basis l o h. list_fits n l (basis_plain n basis l o) h;
  candidates = λ mode n basis G E small le k g q h v. candidates mode n basis small G E le k g q h v;
}
