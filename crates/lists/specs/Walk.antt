-- What a list of valid codes leaves in the places (SPECIFICATION 3.5, 3.6). Assumes nothing.
use Rattle.std.specs.Prelude.{◌≡◌, List, ℕ, ℤ, get_or, take, Result, Ok, Err}
use Rattle.cyclotomic.specs.Told.{does_not_fit}
use Rattle.exact.specs.Matrix.{Exact}
use Rattle.exact.specs.Rows.{gate_of}
use Rattle.exact.specs.Lists.{product}
use Rattle.exact.proofs.Words.{made}
use Rattle.exact.specs.Answers.{Answer, given, refused, list_answer}
use Rattle.places.specs.Held.{Holds}

-- the places hold an exact matrix, at its own exponent
abbrev pub HoldsExact : ℕ → Exact → List ℤ → Type 0
HoldsExact n x l = Holds n x.k l x

-- the places hold a list's exact product
abbrev pub HoldsProduct : ℕ → List ℕ → List ℤ → Type 0
HoldsProduct n codes l = HoldsExact n (product n codes) l

-- the number and the values of each case
abbrev pub told_walked : Result ℕ ℕ → Answer
told_walked (Ok k) = given k
told_walked (Err i) = refused does_not_fit i

-- what is left in the places: the list's exact product where every step fits; otherwise the product of the gates before
-- the first that does not fit, with the row operations of that gate that were made
abbrev pub End : ℕ → List ℕ → List ℤ → Result ℕ ℕ → Type 0
End n codes l (Ok k) = HoldsProduct n codes l
End n codes l (Err i) = HoldsExact n (made n (gate_of n (get_or codes i 0)) (product n (take i codes))) l

-- with the answer that the definition gives
pub record Ended (n : ℕ) (codes : List ℕ) (l : List ℤ) (r : Result ℕ ℕ) : Type 0 where
  pub answer : told_walked r ≡ list_answer n codes
  pub end : End n codes l r
