-- The inputs that are allowed, said of the bytes alone: the lines of an input, line one, a query's line (SPECIFICATION
-- 10.1 to 10.4). That the program's definitions agree is proved in proofs/Accepts. Assumes nothing.
use Rattle.std.specs.Prelude.{false, List, [], ◌∷◌, ◌++◌, ◌≡◌, ℕ, ◌≤◌, ◌<◌, length}
use Rattle.ints.specs.Lists.{elem}
use Rattle.tables.specs.Checks.{limits_of}
use Rattle.circuits_text.specs.Allowed.{AllowedLine}
use Rattle.circuits_input.specs.Input.{InputLine, ended, cut, Read, gives, refused, Wanted, wanted}

-- a newline, byte 10, ends a line and stands in none; what stands after the last newline is a line that is not ended
pub data Lines : List ℕ → List InputLine → Type 0 where
  no_line : Lines [] []
  unended : {l : List ℕ} → 1 ≤ length l → elem 10 l ≡ false → Lines l (cut l ∷ [])
  newlined : {l bytes : List ℕ} {ls : List InputLine} → elem 10 l ≡ false → Lines bytes ls → Lines (l ++ (10 ∷ bytes)) (ended l ∷ ls)

-- line one has four numbers: Q, G, E and B (SPECIFICATION 10.3)
pub record FirstLine (q g e b : ℕ) (rest input : List ℕ) : Type 0 where
  pub line : List ℕ
  pub says : AllowedLine (q ∷ g ∷ e ∷ b ∷ []) line
  pub place : input ≡ line ++ (10 ∷ rest)

-- an input of more than 16,384 bytes is refused by 15; one that has no such line one, the empty one among them, by 14
-- (SPECIFICATION 10.1, 10.3)
pub data Comes (input : List ℕ) : Read Wanted → Type 0 where
  long : 16384 < length input → Comes input (refused 15 0)
  asked :
      {q g e b : ℕ} {rest : List ℕ} {ls : List InputLine} → length input ≤ 16384 → FirstLine q g e b rest input → Lines rest ls →
      Comes input (gives (wanted (limits_of q g e b) ls))
  stopped : length input ≤ 16384 → ((q g e b : ℕ) (rest : List ℕ) → FirstLine q g e b rest input → ⊥) → Comes input (refused 14 0)

-- a later line that is a query: a width, a count up to 256 and that many codes (SPECIFICATION 10.4)
pub record QueryLine (width : ℕ) (codes line : List ℕ) : Type 0 where
  pub says : AllowedLine (width ∷ length codes ∷ codes) line
  pub few : length codes ≤ 256
