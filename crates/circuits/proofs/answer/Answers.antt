-- `answer` meets its contract: the lent arrays are zeros. Assumes nothing.
use mathlib.Core.Path.{◌≡◌, refl}
use Prim.Native.Nat.{ℕ}
use Rattle.std.specs.Prelude.{Option, Some, None, IsSome}
use Rattle.circuits_output.proofs.Whole.{zeros_are, some_text, text_put}
use Rattle.circuits.proofs.answer.Goals as goal

some_of : (o : Option ℕ) → (o ≡ None → ⊥) → IsSome o
some_of (Some n) h = refl
some_of None h = absurd (h refl)

pub unwrap-requires : goal.unwrap-requires
unwrap-requires c =
    let z = zeros_are c.fingerprint_space-fingerprints.ensures c.node_space-parents.ensures c.node_space-codes.ensures in
    some_of c.circuits-made.result (some_text c.args.input.now c.args.out.now _ c.circuits-made.result z c.requires c.circuits-made.ensures)

pub returns : goal.returns
returns c =
    let z = zeros_are c.fingerprint_space-fingerprints.ensures c.node_space-parents.ensures c.node_space-codes.ensures in
    text_put c.args.input.now c.args.out.now _ c.circuits-made.result z c.requires c.circuits-made.ensures _ c.circuits-made.auto.out c.unwrap.ensures
