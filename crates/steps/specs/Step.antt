-- What a step leaves in the places, in terms of exact matrices. Assumes nothing.
use Rattle.std.specs.Prelude.{◌≡◌, List, ℕ, ℤ, Option, Some, None}
use Rattle.exact.proofs.Words.{Proper, step_answer, made}
use Rattle.cyclotomic.specs.Told.{does_not_fit}
use Rattle.circuit.specs.Pairs.{mask_of}
use Rattle.exact.specs.Rows.{Gate, phase, act}
use Rattle.exact.specs.Answers.{Answer, given, refused}
use Rattle.exact.specs.Places.{held}
use Rattle.places.specs.Places.{Kept}
use Rattle.places.specs.Held.{Holds}

-- the number and the values of each case
abbrev pub told_applied : Option ℕ → Answer
told_applied (Some k) = given k
told_applied None = refused does_not_fit 0

-- what a step by the gate g leaves: its exact result, with the exponent told, or, where it does not fit, what its row
-- operations before the first that does not fit have made; of a gate of one operation that is the matrix as it was, and
-- of the others only Sx can fail to fit
abbrev pub StepLeft : (n k : ℕ) → Gate → List ℤ → List ℤ → Option ℕ → Type 0
StepLeft n k g l l' (Some j) = Holds n j l' (act n g (held n k l))
StepLeft n k g l l' None = Holds n (made n g (held n k l)).k l' (made n g (held n k l))

-- with the answer that the definition gives, and the places past the matrix as they were
pub record Stepped (n k : ℕ) (g : Gate) (l l' : List ℤ) (r : Option ℕ) : Type 0 where
  pub answer : told_applied r ≡ step_answer n g (held n k l)
  pub left : StepLeft n k g l l' r
  pub kept : Kept n l l'

-- the same for a turn, whose bits are given as a mask
pub record TurnsRows (n k mask p : ℕ) (l l' : List ℤ) (r : Option ℕ) : Type 0 where
  pub by : (ks : List ℕ) → mask ≡ mask_of ks → Stepped n k (phase ks p) l l' r

-- and for a gate whose controls are given as a mask
pub record Controlled (n k control : ℕ) (g : List ℕ → Gate) (l l' : List ℤ) (r : Option ℕ) : Type 0 where
  pub by : (ks : List ℕ) → control ≡ mask_of ks → Proper n (g ks) → Stepped n k (g ks) l l' r
