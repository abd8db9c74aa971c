-- Lists of numbers as loops make them, and tests over lists. Assumes nothing.
use Rattle.std.specs.Prelude.{Bool, true, false, not, ◌&&◌, ◌||◌, List, [], ◌∷◌, ◌++◌, ℕ, zero, suc, ◌≤◌, eqb, length, drop}

abbrev pub pick {ℓ} : {A : Type ℓ} → Bool → A → A → A
pick true x y = x
pick false x y = y

-- m numbers, rising from i on
unfoldable pub range : ℕ → ℕ → List ℕ
range i zero = []
range i (suc m) = i ∷ range (suc i) m

-- what f gives for each of the numbers, one after the other
unfoldable pub each : List ℕ → (ℕ → List ℕ) → List ℕ
each [] f = []
each (x ∷ xs) f = f x ++ each xs f

-- new on the first places of old; later places keep what they held
abbrev pub over : List ℕ → List ℕ → List ℕ
over new old = new ++ drop (length new) old

-- the test holds of every number of the list
unfoldable pub all : (ℕ → Bool) → List ℕ → Bool
all f [] = true
all f (x ∷ xs) = f x && all f xs

-- k is one of the numbers
unfoldable pub elem : ℕ → List ℕ → Bool
elem k [] = false
elem k (x ∷ xs) = eqb k x || elem k xs

-- no number stands twice
unfoldable pub distinct : List ℕ → Bool
distinct [] = true
distinct (x ∷ xs) = not (elem x xs) && distinct xs

-- strictly rising, each at least lo and below hi
abbrev pub Run : ℕ → ℕ → List ℕ → Type 0
Run lo hi [] = lo ≤ hi
Run lo hi (x ∷ xs) = (lo ≤ x) × Run (suc x) hi xs

-- strictly rising
pub record Rising (xs : List ℕ) : Type 0 where
  pub past : ℕ
  pub run : Run 0 past xs
